use Rattle.std.proofs.Common.{arith, below_more}
use Rattle.plan.specs.Layout.{file_cut_place, cut_in}
use Rattle.plan.proofs.Made.{made_length, made_more}
use Rattle.plan.proofs.file.PlanFile.input.Goals as goal

pub push-requires : goal.push-requires
push-requires c = (omega arith, omega (arith, made_length _ c.loop-level.level _ c.loop-level.invariant.made))

pub loop-level-preserved : goal.loop-level-preserved
loop-level-preserved c =
    let f = c.args.self.now.bytes.now in record {
      lawful = below_more _ _ c.loop-level.invariant.lawful c.in_ok-cut.ensures.0;
      made = made_more (λ k. cut_in f (file_cut_place f c.args.channel k)) c.loop-level.level _ _ _ c.loop-level.invariant.made c.in_ok-cut.ensures.1 c.push.ensures.items;
    }
