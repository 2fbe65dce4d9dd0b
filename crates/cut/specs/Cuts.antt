-- What cuts leave of values.
use Rattle.std.specs.Prelude.{◌≡◌, ℕ, ◌-◌, ◌%◌, ◌<◌, Bool, true, List, [], ◌∷◌, IfSome, Some, None, Option, bit_and, nat_lt}
use Rattle.event.specs.Figures.{Figure}
use Rattle.cut.specs.declared.Cut.{Cut}
use Rattle.cut.specs.declared.Cut.TheVariants.{Hidden, Bare, Mask, Step}

-- what a cut leaves of a value
abbrev pub cut_value : Cut → ℕ → Option ℕ
cut_value Hidden v = None
cut_value Bare v = Some 0
cut_value (Mask m) v = Some (bit_and v m)
cut_value (Step s) v = Some (v - v % s)

-- a cut that a plan may have: a step is at least 1
abbrev pub lawful_cut : Cut → Bool
lawful_cut Hidden = true
lawful_cut Bare = true
lawful_cut (Mask m) = true
lawful_cut (Step s) = nat_lt 0 s

-- what a cut leaves has 16 bits, and cutting it again gives it again
pub record LeftBy (c : Cut) (w : ℕ) : Type 0 where
  pub word : w < 65536
  pub again : cut_value c w ≡ Some w

-- the law of cuts, of each kind: cutting twice gives what cutting once gives
abbrev pub CutLaw : Type 0
CutLaw = (c : Cut) (v : ℕ) → lawful_cut c ≡ true → v < 65536 → IfSome (cut_value c v) (LeftBy c)

-- steps of 1,000; the high byte of 1234 hex
abbrev pub cut_figures : List Figure
cut_figures =
    record { by_rule = cut_value (Step 1000) 65535; by_hand = Some 65000 }
    ∷ (record { by_rule = cut_value (Mask 65280) 4660; by_hand = Some 4608 }
    ∷ [])
