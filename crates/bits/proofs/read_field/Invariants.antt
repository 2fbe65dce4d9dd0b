use Rattle.std.proofs.Common.{◌≡◌}
use Rattle.bits.specs.Fields.{field}
use Rattle.bits.proofs.read_field.Given as goal

abbrev pub invariant-loop-k : goal.invariant-loop-k
invariant-loop-k l = l.number ≡ field l.file l.at l.k
