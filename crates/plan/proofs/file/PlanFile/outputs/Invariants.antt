use Rattle.std.proofs.Common.{◌≡◌, map}
use Rattle.std.specs.List.{range_with_len}
use Rattle.plan.specs.Layout.{file_output_level}
use Rattle.plan.proofs.file.PlanFile.outputs.Given as goal

abbrev pub invariant-loop-channel : goal.invariant-loop-channel
invariant-loop-channel l = l.outputs.items ≡ map (file_output_level l.self.bytes.now) (range_with_len 0 l.channel)
