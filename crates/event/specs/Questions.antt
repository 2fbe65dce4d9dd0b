-- Questions that a call is asked, in their order.
use Rattle.std.specs.Prelude.{◌≡◌, ℕ, ◌⊎◌, List, [], ◌∷◌}

-- a question: its number, and what has to hold for a yes
pub record Question : Type 1 where
  pub number : ℕ
  pub asks : Type 0

-- every question is answered yes
abbrev pub AllYes : List Question → Type 0
AllYes [] = Unit {0}
AllYes (q ∷ qs) = q.asks × AllYes qs

-- k is the number of the first question that is answered no
abbrev pub FirstNo : List Question → ℕ → Type 0
FirstNo [] k = ⊥
FirstNo (q ∷ qs) k = ((q.asks → ⊥) × (k ≡ q.number)) ⊎ (q.asks × FirstNo qs k)
