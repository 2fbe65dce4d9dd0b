use Rattle.std.proofs.Common.{rules, refl}
use Rattle.order.specs.Orders.{table_entry, PairOrdered}
use Rattle.order.proofs.Ranges.{all_below}
use Rattle.order.proofs.table.Relation.is_row_ordered.Goals as goal

pub returns : goal.returns
returns c = all_below (PairOrdered c.args.self.now.levels (table_entry c.args.self.now.rows.now) c.args.a) c.args.self.now.levels _ _ _ c.all.ensures.ran refl (λ x q k. search rules) (λ x q k. search rules)
