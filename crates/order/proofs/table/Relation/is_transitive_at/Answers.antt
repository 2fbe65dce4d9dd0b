use Rattle.std.proofs.Common.{rules, refl}
use Rattle.std.specs.Prelude.{IsTrue}
use Rattle.order.specs.Orders.{table_entry}
use Rattle.order.proofs.Ranges.{all_below}
use Rattle.order.proofs.table.Relation.is_transitive_at.Goals as goal

pub returns : goal.returns
returns c =
    let below = table_entry c.args.self.now.rows.now in
    all_below (λ k. IsTrue (below c.args.b k) → IsTrue (below c.args.a k)) c.args.self.now.levels _ _ _ c.all.ensures.ran refl (λ x q k. search rules) (λ x q k. search rules)
