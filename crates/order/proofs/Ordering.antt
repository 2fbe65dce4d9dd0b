-- Partial orders, and orders by a table.
use Rattle.std.proofs.Common.{◌≡◌, ℕ, ◌<◌, Bool, true, refl, subst}
use Rattle.order.specs.OrderLaws.{order_among, order_of_properties}
use Rattle.order.specs.Orders.{table_entry, among, PartialOrder, PairOrdered}
use Rattle.order.specs.declared.table.OrderTable.{OrderTable}

-- what every pair of levels keeps makes a partial order
pub order_from_pairs : (n : ℕ) (r : ℕ → ℕ → Bool) → ((a b : ℕ) → a < n → b < n → PairOrdered n r a b) → PartialOrder n r
order_from_pairs n r h =
    order_of_properties n r (λ a l. (h a a l l).itself refl) (λ a b la lb. (h a b la lb).apart) (λ a b c la lb lc p q. (h a b la lb).onward c lc p q)

-- and a partial order keeps it of every pair
pub pairs_from_order : (n : ℕ) (r : ℕ → ℕ → Bool) → PartialOrder n r → (a b : ℕ) → a < n → b < n → PairOrdered n r a b
pairs_from_order n r h a b la lb = record {
  itself = λ e. subst (λ x. r a x ≡ true) e (h.reflexive a la);
  apart = h.antisymmetric a b la lb;
  onward = λ c lc. h.transitive a b c la lb lc;
}

-- the properties of a table that is an order
pub table_order : (t : OrderTable) → PartialOrder t.levels (table_entry t.rows)
table_order t = t.ordered

pub table_order_among : (t : OrderTable) → PartialOrder t.levels (among t.levels (table_entry t.rows))
table_order_among t = order_among _ _ (table_order t)
