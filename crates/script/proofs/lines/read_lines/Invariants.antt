use Rattle.script.proofs.Pieces.{Answered}
use Rattle.script.proofs.lines.read_lines.Given as goal

abbrev pub invariant-loop-line : goal.invariant-loop-line
invariant-loop-line l = Answered l.yielded l.answers.items
