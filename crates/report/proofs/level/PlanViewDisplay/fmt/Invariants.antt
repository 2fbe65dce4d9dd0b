use Rattle.std.specs.Fmt.{HasWritten, IsPlainFormatter}
use Rattle.plan.specs.Plans.{model}
use Rattle.report.specs.Reports.{levels_text}
use Rattle.report.proofs.level.PlanViewDisplay.fmt.Given as goal

abbrev pub invariant-loop-level : goal.invariant-loop-level
invariant-loop-level g l =
    IsPlainFormatter l.initial.f → HasWritten g.W.Write.write_str_gives l.initial.f (levels_text (model l.plan) l.events l.level) l.f
