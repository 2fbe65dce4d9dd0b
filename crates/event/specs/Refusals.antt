-- The number of each refusal.
use Rattle.std.specs.Prelude.{◌≡◌, ℕ}
use Rattle.event.specs.declared.Refusal.{Refusal}
use Rattle.event.specs.declared.Refusal.TheVariants.{PlanTooShort, TooFewInputs, WrongPlanLength, SpareBitSet, NoPartialOrder, LevelTooHigh, UnlawfulCut, UnreadableLine, ScriptTooLong, OutOfMemory}

-- A refusal has the number of the question that was answered no. Want of memory is no question of
-- the rules, and has a number that none of them has.
abbrev pub refusal_number : Refusal → ℕ
refusal_number PlanTooShort = 1
refusal_number TooFewInputs = 2
refusal_number WrongPlanLength = 3
refusal_number SpareBitSet = 4
refusal_number NoPartialOrder = 5
refusal_number LevelTooHigh = 6
refusal_number UnlawfulCut = 7
refusal_number UnreadableLine = 15
refusal_number ScriptTooLong = 16
refusal_number OutOfMemory = 99

-- no two refusals have the same number, so that the number says which it is
abbrev pub DistinctNumbers : Type 0
DistinctNumbers = (e f : Refusal) → refusal_number e ≡ refusal_number f → e ≡ f
