-- Tests of every number below another.
use Rattle.std.proofs.Common.{◌≡◌, ℕ, ◌+◌, ◌<◌, Bool, true, false, List, length, Option, sym, refl, ◌∙◌, subst, arith}
use Rattle.std.specs.Prelude.{IsTrue, ◌↔◌, slice_index}
use Rattle.std.proofs.iter.Yields.{nat_range_steps}
use Rattle.std.proofs.lemmas.Iterator.{cases_from_all, YieldsList-from_range}
use Rattle.std.proofs.lemmas.List.FromFn.{length-range_with_len, get_or-range_with_len}
use Rattle.std.specs.Bool.{MatchBool}
use Rattle.std.specs.Iterator.{YieldsThen}
use Rattle.std.specs.List.{FoldsTo, AllWithin, HoldsAt, range_with_len}
use Rattle.std.specs.Option.{MatchOption}
use Rattle.std.specs.declared.ops.Range.{Range}
use denote.Param.Members.{Mut, Called}

number_at : (n k : ℕ) → k < n → slice_index (range_with_len 0 n) k ≡ k
number_at n k l = get_or-range_with_len 0 n k 0 l ∙ (let e : 0 + k ≡ k = omega arith in e)

decided : (P : ℕ → Type 0) (n : ℕ) (r : Bool)
    → MatchBool r (AllWithin P (range_with_len 0 n) 0 (length (range_with_len 0 n))) ((k : ℕ) × (k < length (range_with_len 0 n)) × HoldsAt (λ x. P x → ⊥) (range_with_len 0 n) k)
    → IsTrue r ↔ ((k : ℕ) → k < n → P k)
decided P n true h =
    (λ _ k l. subst P (number_at n k l) (h k 0 (omega arith) (subst (λ m. k < m) (sym (length-range_with_len 0 n)) l)), λ _. refl)
decided P n false (k, l, not_there) =
    let below : k < n = subst (λ m. k < m) (length-range_with_len 0 n) l in
    (λ e. absurd (let z : ◌≡◌ {A = Bool} false true = e in cc), λ h. absurd (subst (λ x. P x → ⊥) (number_at n k below) (not_there 0) (h k below)))

-- `all` over the numbers below n is true exactly if each of them has the property that the test decides
pub all_below : {F : Type 0} {g : Mut F (ℕ × Unit {0}) Bool} {s : Range ℕ} (P : ℕ → Type 0) (n : ℕ) (u : Range ℕ) (f : F) (r : Bool)
    → (xs : List ℕ) × (o : Option ℕ) × (j : F) × YieldsThen nat_range_steps s xs o u × FoldsTo (λ p x q. Called g p (x, tt) true q) f xs j
    × MatchOption o (r ≡ true) (λ x. (r ≡ false) × ((h : F) × Called g j (x, tt) false h))
    → s ≡ record { start = 0; end = n }
    → ((x : ℕ) (q : F) → Called g f (x, tt) true q → (q ≡ f) × P x)
    → ((x : ℕ) (q : F) → Called g f (x, tt) false q → P x → ⊥)
    → IsTrue r ↔ ((k : ℕ) → k < n → P k)
all_below P n u f r ran is pass fail = decided P n r (cases_from_all u f r P (λ x. P x → ⊥) ran (YieldsList-from_range 0 n n is (omega arith)) pass fail)
