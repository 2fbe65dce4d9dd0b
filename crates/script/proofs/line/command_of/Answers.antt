use Rattle.script.proofs.Splits.{no_command}
use Rattle.script.proofs.line.command_of.Goals as goal

pub returns-in_err-letter : goal.returns-in_err-letter
returns-in_err-letter c = rw c.from_residual.ensures (no_command _ (rw c.start.ensures at c.in_err-letter.ensures))
