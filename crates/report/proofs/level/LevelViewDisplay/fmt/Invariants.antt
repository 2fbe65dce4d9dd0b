use Rattle.std.proofs.Common.{take}
use Rattle.std.specs.Fmt.{HasWritten, IsPlainFormatter}
use Rattle.std.specs.List.{flat_map}
use Rattle.plan.specs.Plans.{model, sights}
use Rattle.report.specs.Reports.{sight_line}
use Rattle.report.proofs.Counting.{Tallied}
use Rattle.report.proofs.level.LevelViewDisplay.fmt.Given as goal

abbrev pub invariant-loop-event : goal.invariant-loop-event
invariant-loop-event g l =
    Tallied (model l.self.plan.now) l.level l.self.events.now l.event-index l.tally
    × (IsPlainFormatter l.initial.f → HasWritten g.W.Write.write_str_gives l.initial.f (flat_map (sight_line (model l.self.plan.now) l.level) (sights (model l.self.plan.now) l.level (take l.event-index l.event-items))) l.f)
