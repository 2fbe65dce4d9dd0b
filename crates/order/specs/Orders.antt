-- The order of the levels.
use Rattle.std.specs.Prelude.{◌≡◌, ℕ, ◌<◌, Bool, true, false, ◌&&◌, List, [], nat_lt, slice_index_or}

-- what the table of an order says of levels a and b: row a, column b
abbrev pub table_entry : List (List Bool) → ℕ → ℕ → Bool
table_entry rows a b = slice_index_or (slice_index_or rows a []) b false

-- a relation on n levels; a number that is no level is neither below nor above any
abbrev pub among : ℕ → (ℕ → ℕ → Bool) → ℕ → ℕ → Bool
among n below a b = nat_lt a n && (nat_lt b n && below a b)

-- a partial order on n levels: each is below itself, no two different ones are each below the
-- other, and what is below a level is below whatever that level is below
pub record PartialOrder (n : ℕ) (below : ℕ → ℕ → Bool) : Type 0 where
  pub reflexive : (a : ℕ) → a < n → below a a ≡ true
  pub antisymmetric : (a b : ℕ) → a < n → b < n → below a b ≡ true → below b a ≡ true → a ≡ b
  pub transitive : (a b c : ℕ) → a < n → b < n → c < n → below a b ≡ true → below b c ≡ true → below a c ≡ true

-- what a partial order asks of two levels
pub record PairOrdered (n : ℕ) (below : ℕ → ℕ → Bool) (a b : ℕ) : Type 0 where
  pub itself : a ≡ b → below a b ≡ true
  pub apart : below a b ≡ true → below b a ≡ true → a ≡ b
  pub onward : (c : ℕ) → c < n → below a b ≡ true → below b c ≡ true → below a c ≡ true
