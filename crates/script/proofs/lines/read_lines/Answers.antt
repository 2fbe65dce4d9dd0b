use Rattle.std.proofs.Common.{rules, tests}
use Rattle.std.proofs.lemmas.Iterator.Consumers.{YieldsList-at, YieldsList-end}
use Rattle.std.proofs.lemmas.Iterator.Splits.{YieldsList-from_slice_split}
use Rattle.script.proofs.Pieces.{all_answered, is_feed}
use Rattle.script.proofs.lines.read_lines.Goals as goal

pub returns : goal.returns
returns c =
    all_answered c.args.script.now c.loop-line.yielded _
    (YieldsList-end (YieldsList-at c.into_iter-line-iterator.ensures.into_iter_gives (YieldsList-from_slice_split _ is_feed c.args.script.now (cc) (cc) (cc) (λ x r q k. search (rules, tests))))
    c.loop-line.yielded _ c.loop-line.yielded_by _ _ c.in-None.is c.next.ensures.steps).0
    c.loop-line.invariant
