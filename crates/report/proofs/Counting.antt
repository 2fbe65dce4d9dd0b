-- Counting what a level sees of events.
use Rattle.std.proofs.Common.{◌≡◌, ℕ, ◌+◌, ◌<◌, Bool, true, false, cond, not, ◌&&◌, List, [], ◌∷◌, length, get_or, take, is_some, Some, None, filter, Option, sym, refl, ap, ◌∙◌, arith}
use Rattle.std.proofs.lemmas.List.Sums.{length-filter, sum_by_more}
use Rattle.event.specs.declared.Event.{Event}
use Rattle.std.specs.List.{cons_option}
use Rattle.plan.specs.Plans.{PlanModel, sees_whole, sight}
use Rattle.report.specs.Reports.{whole_count, cut_count, absent_count, CountsLaw}
use Rattle.report.specs.Seen.{IsSeen, is_whole, is_cut, is_absent}
use Rattle.report.specs.declared.seen.SeenEvent.{SeenEvent}
use Rattle.report.specs.declared.tally.Tally.{Tally}

-- the number of what a test keeps, one element more
pub kept_more : {X : Type 0} (p : X → Bool) (xs : List X) (i : ℕ) (d : X) → i < length xs
    → length (filter p (take (i + 1) xs)) ≡ length (filter p (take i xs)) + cond (p (get_or xs i d)) 1 0
kept_more p xs i d h =
    length-filter p (take (i + 1) xs) ∙ sum_by_more (λ x. cond (p x) 1 0) xs i d h
    ∙ ap (λ n. n + cond (p (get_or xs i d)) 1 0) (sym (length-filter p (take i xs)))

-- what is seen of an event says how it is counted
record Counts (P : PlanModel) (l : ℕ) (e : Event) (seen : Option SeenEvent) : Type 0 where
  whole : is_some (sight P l e) && sees_whole P l e.channel ≡ is_whole seen
  cut : is_some (sight P l e) && not (sees_whole P l e.channel) ≡ is_cut seen
  absent : not (is_some (sight P l e)) ≡ is_absent seen

counts_by_seen : (P : PlanModel) (l : ℕ) (e : Event) (seen : Option SeenEvent) → IsSeen P l e seen → Counts P l e seen
counts_by_seen P l e None h = record { whole = rw h refl; cut = rw h refl; absent = rw h refl }
counts_by_seen P l e (Some s) h = record { whole = rw (h.0, ← h.1) refl; cut = rw (h.0, ← h.1) refl; absent = rw h.0 refl }

one_or_other : (full : Bool) → cond full 1 0 + cond (not full) 1 0 + 0 ≡ 1
one_or_other true = refl
one_or_other false = refl

once : (seen : Option SeenEvent) → cond (is_whole seen) 1 0 + cond (is_cut seen) 1 0 + cond (is_absent seen) 1 0 ≡ 1
once None = refl
once (Some s) = one_or_other s.whole

-- the numbers of level l for the first i of some events
pub record Tallied (P : PlanModel) (l : ℕ) (es : List Event) (i : ℕ) (t : Tally) : Type 0 where
  pub whole : t.whole ≡ whole_count P l (take i es)
  pub cut : t.cut ≡ cut_count P l (take i es)
  pub absent : t.absent ≡ absent_count P l (take i es)
  pub all : t.whole + t.cut + t.absent ≡ i

-- a turn of a loop over events
pub tallied_more : (P : PlanModel) (l : ℕ) (es : List Event) (i : ℕ) (d : Event) (t u : Tally) (seen : Option SeenEvent) → i < length es
    → Tallied P l es i t → IsSeen P l (get_or es i d) seen
    → u.whole ≡ t.whole + cond (is_whole seen) 1 0 → u.cut ≡ t.cut + cond (is_cut seen) 1 0 → u.absent ≡ t.absent + cond (is_absent seen) 1 0
    → Tallied P l es (i + 1) u
tallied_more P l es i d t u seen h before is w c a =
    let k = counts_by_seen P l (get_or es i d) seen is in
    record {
      whole = w ∙ (λ j. before.whole j + cond (sym k.whole j) 1 0) ∙ sym (kept_more _ es i d h);
      cut = c ∙ (λ j. before.cut j + cond (sym k.cut j) 1 0) ∙ sym (kept_more _ es i d h);
      absent = a ∙ (λ j. before.absent j + cond (sym k.absent j) 1 0) ∙ sym (kept_more _ es i d h);
      all = omega (arith, w, c, a, once seen, before.all);
    }

-- an event in front is counted once, and lengthens the sight unless it is absent
counted_once : (e : Event) (ws cs as' ss es : List Event) (part : Option Event) (full : Bool)
    → (length ws + length cs + length as' ≡ length es) × (length ws + length cs ≡ length ss)
    → (length (cond (is_some part && full) (e ∷ ws) ws) + length (cond (is_some part && not full) (e ∷ cs) cs) + length (cond (not (is_some part)) (e ∷ as') as')
    ≡ length (e ∷ es))
    × (length (cond (is_some part && full) (e ∷ ws) ws) + length (cond (is_some part && not full) (e ∷ cs) cs) ≡ length (cons_option part ss))
counted_once e ws cs as' ss es None full h = (omega arith, omega arith)
counted_once e ws cs as' ss es (Some s) true h = (omega arith, omega arith)
counted_once e ws cs as' ss es (Some s) false h = (omega arith, omega arith)

pub counts_law : CountsLaw
counts_law P l [] = (refl, refl)
counts_law P l (e ∷ es) = counted_once e _ _ _ _ es (sight P l e) (sees_whole P l e.channel) (counts_law P l es)
