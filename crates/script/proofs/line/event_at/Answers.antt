use Rattle.script.proofs.Splits.{no_event}
use Rattle.script.proofs.line.event_at.Goals as goal

pub returns-in_err-value : goal.returns-in_err-value
returns-in_err-value c = rw c.from_residual-in_err-value.ensures (no_event _ _ _ c.in_ok-channel.ensures c.in_err-value.ensures)
