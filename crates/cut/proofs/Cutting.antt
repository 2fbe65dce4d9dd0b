-- The law of cuts.
use Rattle.std.proofs.Common.{◌≡◌, ℕ, ◌-◌, ◌*◌, ◌/◌, ◌%◌, Some, refl, ap, ◌∙◌, arith}
use native.Mathlib.Nat.{div-add-mod, mul-mod_right}
use lib.Bits.{bit_and, and_self, and_le_l}
use Rattle.std.proofs.lemmas.Nat.{and_assoc}
use Rattle.cut.specs.declared.Cut.TheVariants.{Hidden, Bare, Mask, Step}
use Rattle.cut.specs.Cuts.{CutLaw}

-- a value less its remainder has no remainder
no_rest : (v s : ℕ) → (v - v % s) % s ≡ 0
no_rest v s = let e : v - v % s ≡ s * (v / s) = omega (arith, div-add-mod v s) in ap (λ x. x % s) e ∙ mul-mod_right s (v / s)

pub cut_law : CutLaw
cut_law Hidden v l h = tt
cut_law Bare v l h = record { word = omega arith; again = refl }
cut_law (Mask m) v l h = record { word = omega (arith, and_le_l v m); again = ap Some (and_assoc m v m ∙ ap (bit_and v) (and_self m)) }
cut_law (Step s) v l h = record { word = omega arith; again = ap Some (omega (arith, no_rest v s)) }
