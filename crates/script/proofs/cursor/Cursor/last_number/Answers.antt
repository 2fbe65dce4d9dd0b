use Rattle.script.proofs.Splits.{none_last, last_reading}
use Rattle.script.proofs.cursor.Cursor.last_number.Goals as goal

pub returns-in_err-value : goal.returns-in_err-value
returns-in_err-value c = rw c.from_residual.ensures (none_last _ c.in_err-value.ensures)

pub returns : goal.returns
returns c = rw c.then_some.ensures (last_reading _ _ _ c.in_ok-value.ensures _ c.is_at_end.ensures)
