use Rattle.std.proofs.Common.{Option, Bool, rules, subst, sym, ap, ◌∙◌}
use Rattle.std.proofs.Output.{has_written_append, has_written_of_eq}
use Rattle.std.specs.Fmt.{HasWritten}
use Rattle.event.specs.declared.Event.{Event}
use Rattle.plan.specs.Plans.{model, sees_whole}
use Rattle.report.specs.Reports.{seen_line}
use Rattle.report.proofs.Counting.{tallied_more}
use Rattle.report.proofs.Lines.{line_of, lines_more}
use Rattle.report.proofs.level.LevelViewDisplay.fmt.Goals as goal
use Rattle.report.proofs.level.LevelViewDisplay.fmt.Goals.{in-Some+in_ok-write, in_default}

pub loop-event-preserved : goal.loop-event-preserved
loop-event-preserved g c =
    let view = c.args.self.now in
    let Written = λ (part : Option Event). HasWritten g.W.Write.write_str_gives c.loop-event.f (line_of (model view.plan.now) view.level part) c.match-seen.f in (
      tallied_more _ _ _ c.loop-event.event-index _ _ _ _ c.loop-event-test.true c.loop-event.invariant.0 c.seen-seen.ensures c.with-tally.ensures.whole c.with-tally.ensures.cut c.with-tally.ensures.absent,
      λ plain. has_written_of_eq _ _ _ _ _
          (lines_more (model view.plan.now) view.level view.events.now c.loop-event.event-index _ c.loop-event-test.true)
          (has_written_append _ _ _ _ _ _ (c.loop-event.invariant.1 plain)
          (elim c.match-seen.branch [
            | in-Some+in_ok-write w ↦
                (let s = w.in-Some.seen in
                let h = w.in-Some.ensures in
                subst Written (sym h.0)
                (subst (λ (b : Bool). HasWritten g.W.Write.write_str_gives c.loop-event.f (seen_line b s.event) c.match-seen.f) (h.1 ∙ ap (sees_whole (model view.plan.now) view.level) (sym h.2)) (search rules)))
            | in_default w ↦ subst Written (sym w.in_default.ensures) (search rules)
          ])),
    )
