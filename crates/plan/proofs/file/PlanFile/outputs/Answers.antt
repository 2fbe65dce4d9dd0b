use Rattle.std.proofs.Common.{arith}
use Rattle.plan.specs.Layout.{file_output_level}
use Rattle.plan.proofs.Made.{made_length, made_more}
use Rattle.plan.proofs.file.PlanFile.outputs.Goals as goal

pub push-requires : goal.push-requires
push-requires c = (omega arith, omega (arith, made_length _ c.loop-channel.channel _ c.loop-channel.invariant))

pub loop-channel-preserved : goal.loop-channel-preserved
loop-channel-preserved c =
    made_more (file_output_level c.args.self.now.bytes.now) c.loop-channel.channel _ _ _ c.loop-channel.invariant c.output_level.ensures c.push.ensures.items
