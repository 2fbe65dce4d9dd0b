use Rattle.std.proofs.Common.{◌≡◌, take}
use Rattle.script.proofs.Decimals.{reading}
use Rattle.script.proofs.number.value_of.Given as goal

abbrev pub invariant-loop-digit : goal.invariant-loop-digit
invariant-loop-digit l = l.value ≡ reading (take l.digit-index l.digits)
