-- Worked figures: what a rule gives, and what it has to give.
use Rattle.std.specs.Prelude.{◌≡◌, ℕ, List, [], ◌∷◌, Option}

-- a figure: a number, or none, by a definition, and as it was worked out by hand
pub record Figure : Type 0 where
  pub by_rule : Option ℕ
  pub by_hand : Option ℕ

-- every figure of a list comes out as it was worked out
abbrev pub AllComeOut : List Figure → Type 0
AllComeOut [] = Unit {0}
AllComeOut (f ∷ fs) = (f.by_rule ≡ f.by_hand) × AllComeOut fs
