use Rattle.std.proofs.Common.{arith, below_more}
use Rattle.plan.specs.Reading.{input_in}
use Rattle.plan.proofs.Made.{made_length, made_more}
use Rattle.plan.proofs.file.PlanFile.inputs.Goals as goal

pub push-requires : goal.push-requires
push-requires c = (omega arith, omega (arith, made_length _ c.loop-channel.channel _ c.loop-channel.invariant.made))

pub loop-channel-preserved : goal.loop-channel-preserved
loop-channel-preserved c = record {
  lawful = below_more _ _ c.loop-channel.invariant.lawful c.in_ok-input.ensures.0;
  made = made_more (input_in c.args.self.now.bytes.now) c.loop-channel.channel _ _ _ c.loop-channel.invariant.made c.in_ok-input.ensures.1 c.push.ensures.items;
}
