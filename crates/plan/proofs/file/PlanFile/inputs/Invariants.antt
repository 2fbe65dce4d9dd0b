use Rattle.std.proofs.Common.{◌≡◌, ℕ, ◌<◌, map}
use Rattle.std.specs.List.{range_with_len}
use Rattle.plan.specs.Reading.{input_in, RowLawful}
use Rattle.plan.proofs.file.PlanFile.inputs.Given as goal

abbrev pub invariant-loop-channel : goal.invariant-loop-channel
invariant-loop-channel l = record {
  lawful : (c : ℕ) → c < l.channel → RowLawful l.self.bytes.now c;
  made : l.inputs.items ≡ map (input_in l.self.bytes.now) (range_with_len 0 l.channel);
}
