use Rattle.std.proofs.Common.{ℕ, ◌<◌, rules, refl}
use Rattle.order.specs.Orders.{table_entry, PairOrdered}
use Rattle.order.proofs.Ordering.{order_from_pairs, pairs_from_order}
use Rattle.order.proofs.Ranges.{all_below}
use Rattle.order.proofs.table.Relation.is_partial_order.Goals as goal

pub returns : goal.returns
returns c =
    let n = c.args.self.now.levels in
    let below = table_entry c.args.self.now.rows.now in
    let each = all_below (λ a. (b : ℕ) → b < n → PairOrdered n below a b) n _ _ _ c.all.ensures.ran refl (λ x q k. search rules) (λ x q k. search rules) in
    (λ t. order_from_pairs n below (λ a b la lb. each.0 t a la b lb), λ h. each.1 (λ a la b lb. pairs_from_order n below h a b la lb))
