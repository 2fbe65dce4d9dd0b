use Rattle.std.proofs.Common.{◌≡◌, take, vec_items}
use Rattle.report.specs.Runs.{events_of}
use Rattle.report.proofs.answers.events_of.Given as goal

abbrev pub invariant-loop-answer : goal.invariant-loop-answer
invariant-loop-answer l = vec_items l.events ≡ events_of (take l.answer-index l.answers)
