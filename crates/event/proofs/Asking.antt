-- Questions in their order.
use Rattle.std.proofs.Common.{◌≡◌, ℕ, List, [], ◌∷◌, sym, ◌∙◌, inl, inr}
use Rattle.event.specs.Questions.{Question, AllYes, FirstNo}

-- where every question is answered yes, none is the first that is answered no
pub never_both : (qs : List Question) (k : ℕ) → AllYes qs → FirstNo qs k → ⊥
never_both [] k yes_all none = none
never_both (q ∷ qs) k yes_all (inl (n, e)) = n yes_all.0
never_both (q ∷ qs) k yes_all (inr (y, rest)) = never_both qs k yes_all.1 rest

-- there is at most one first question that is answered no
pub one_first : (qs : List Question) (j k : ℕ) → FirstNo qs j → FirstNo qs k → j ≡ k
one_first [] j k none other = elim none [ ]
one_first (q ∷ qs) j k (inl (n, e)) (inl (m, d)) = e ∙ sym d
one_first (q ∷ qs) j k (inl (n, e)) (inr (y, rest)) = absurd (n y)
one_first (q ∷ qs) j k (inr (y, rest)) (inl (m, d)) = absurd (m y)
one_first (q ∷ qs) j k (inr (y, rest)) (inr (z, more)) = one_first qs j k rest more
