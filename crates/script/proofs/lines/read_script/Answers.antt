use Rattle.script.proofs.OneReading.{one_reading}
use Rattle.script.proofs.lines.read_script.Goals as goal

pub returns-then-script-gt-MOST_BYTES-clause-one : goal.returns-then-script-gt-MOST_BYTES-clause-one
returns-then-script-gt-MOST_BYTES-clause-one c = one_reading

pub returns-in_err-read_lines-clause-one : goal.returns-in_err-read_lines-clause-one
returns-in_err-read_lines-clause-one c = one_reading

pub returns-clause-one : goal.returns-clause-one
returns-clause-one c = one_reading
