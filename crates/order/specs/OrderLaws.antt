-- Laws of orders by a table, proved here so that the order itself can name them.
use Rattle.std.specs.Prelude.{◌≡◌, ℕ, ◌<◌, Bool, true, ◌&&◌, nat_lt}
use Rattle.std.proofs.Common.{sym, ◌∙◌}
use Rattle.std.proofs.lemmas.Bool.{and_parts, ltb-true, lt-ltb}
use Rattle.order.specs.Orders.{among, PartialOrder}

-- two levels of a relation among n levels are as the relation has them
pub among_in : (n : ℕ) (r : ℕ → ℕ → Bool) (a b : ℕ) → a < n → b < n → among n r a b ≡ r a b
among_in n r a b la lb = rw (lt-ltb a n la, lt-ltb b n lb)

-- what is below something among n levels is one of them, and so is what it is below
pub among_inside : (n : ℕ) (r : ℕ → ℕ → Bool) (a b : ℕ) → among n r a b ≡ true → (a < n) × (b < n)
among_inside n r a b h =
    let p = and_parts (nat_lt a n) (nat_lt b n && r a b) h in
    (ltb-true a n p.0, ltb-true b n (and_parts (nat_lt b n) (r a b) p.1).0)

-- relations that agree on n levels are partial orders alike
pub order_like : (n : ℕ) (r s : ℕ → ℕ → Bool) → ((a b : ℕ) → a < n → b < n → r a b ≡ s a b) → PartialOrder n r → PartialOrder n s
order_like n r s e h = record {
  reflexive = λ a l. sym (e a a l l) ∙ h.reflexive a l;
  antisymmetric = λ a b la lb p q. h.antisymmetric a b la lb (e a b la lb ∙ p) (e b a lb la ∙ q);
  transitive = λ a b c la lb lc p q. sym (e a c la lc) ∙ h.transitive a b c la lb lc (e a b la lb ∙ p) (e b c lb lc ∙ q);
}

-- the three properties of a relation make a partial order
pub order_of_properties : (n : ℕ) (r : ℕ → ℕ → Bool)
    → ((a : ℕ) → a < n → r a a ≡ true)
    → ((a b : ℕ) → a < n → b < n → r a b ≡ true → r b a ≡ true → a ≡ b)
    → ((a b c : ℕ) → a < n → b < n → c < n → r a b ≡ true → r b c ≡ true → r a c ≡ true)
    → PartialOrder n r
order_of_properties n r reflexive antisymmetric transitive = record { reflexive = reflexive; antisymmetric = antisymmetric; transitive = transitive }

-- a partial order stays one among its levels
pub order_among : (n : ℕ) (r : ℕ → ℕ → Bool) → PartialOrder n r → PartialOrder n (among n r)
order_among n r = order_like n r _ (λ a b la lb. sym (among_in n r a b la lb))
