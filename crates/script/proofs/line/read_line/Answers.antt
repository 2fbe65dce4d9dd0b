use Rattle.script.proofs.OneReading.{one_command}
use Rattle.script.proofs.line.read_line.Goals as goal

pub returns-clause-one : goal.returns-clause-one
returns-clause-one c = one_command
