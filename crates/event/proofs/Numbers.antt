-- The numbers of refusals are distinct.
use Rattle.std.proofs.Common.{◌≡◌, ℕ, cond, eqb, sym, refl, ap, ◌∙◌}
use Rattle.event.specs.Refusals.{refusal_number, DistinctNumbers}
use Rattle.event.specs.declared.Refusal.{Refusal}
use Rattle.event.specs.declared.Refusal.TheVariants.{PlanTooShort, TooFewInputs, WrongPlanLength, SpareBitSet, NoPartialOrder, LevelTooHigh, UnlawfulCut, UnreadableLine, ScriptTooLong, OutOfMemory}

-- the refusal that a number says
abbrev refusal_of : ℕ → Refusal
refusal_of n =
    cond (eqb n 1) PlanTooShort
    (cond (eqb n 2) TooFewInputs
    (cond (eqb n 3) WrongPlanLength
    (cond (eqb n 4) SpareBitSet
    (cond (eqb n 5) NoPartialOrder
    (cond (eqb n 6) LevelTooHigh
    (cond (eqb n 7) UnlawfulCut
    (cond (eqb n 15) UnreadableLine
    (cond (eqb n 16) ScriptTooLong
    OutOfMemory))))))))

told_back : (e : Refusal) → refusal_of (refusal_number e) ≡ e
told_back PlanTooShort = refl
told_back TooFewInputs = refl
told_back WrongPlanLength = refl
told_back SpareBitSet = refl
told_back NoPartialOrder = refl
told_back LevelTooHigh = refl
told_back UnlawfulCut = refl
told_back UnreadableLine = refl
told_back ScriptTooLong = refl
told_back OutOfMemory = refl

pub distinct_numbers : DistinctNumbers
distinct_numbers e f same = sym (told_back e) ∙ ap refusal_of same ∙ told_back f
