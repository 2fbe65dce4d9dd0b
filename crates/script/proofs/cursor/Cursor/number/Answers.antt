use Rattle.std.proofs.Common.{subst}
use Rattle.script.specs.Tokens.{TokenAt}
use Rattle.script.proofs.Splits.{past_end_number, other_number, no_number}
use Rattle.script.proofs.cursor.Cursor.number.Goals as goal

pub returns-in_err-text : goal.returns-in_err-text
returns-in_err-text c = rw (c.from_residual.ensures, ← c.self.view_is) (past_end_number _ _ c.in_err-text.ensures)

pub returns-in_err-value_of-in-Number : goal.returns-in_err-value_of-in-Number
returns-in_err-value_of-in-Number c = rw (c.from_residual-in_err-value_of-in-Number.ensures, ← c.self.view_is) (other_number _ _ _ _ (subst (TokenAt c.self.inside.line.now c.self.inside.at) c.in-Number.is c.in_ok-text.ensures.1) c.in_err-value_of-in-Number.ensures)

pub returns-in_default : goal.returns-in_default
returns-in_default c = rw (← c.self.view_is) (no_number _ _ _ c.in_ok-text.ensures.1 c.in_default.not-Number)
