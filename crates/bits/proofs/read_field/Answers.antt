use Rattle.std.proofs.Common.{◌+◌, refl, arith, pow_mono}
use Rattle.bits.specs.Fields.{field}
use Rattle.bits.proofs.Laws.{field_lt, field_step, bit_lt}
use Rattle.bits.proofs.read_field.Goals as goal

pub loop-k-init : goal.loop-k-init
unfolding field
loop-k-init c = refl

pub overflow_mul-number : goal.overflow_mul-number
overflow_mul-number c = omega (arith, field_lt c.args.file.now c.args.at c.loop-k.k, pow_mono {i = c.loop-k.k} {j = 15} (omega arith))

pub overflow_add-number : goal.overflow_add-number
overflow_add-number c = omega (arith, field_lt c.args.file.now c.args.at c.loop-k.k, pow_mono {i = c.loop-k.k} {j = 15} (omega arith), bit_lt c.args.file.now (c.args.at + c.loop-k.k))

pub loop-k-preserved : goal.loop-k-preserved
loop-k-preserved c = omega (arith, field_step c.args.file.now c.args.at c.loop-k.k)
