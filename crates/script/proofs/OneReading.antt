-- A line reads as one command, and a script has one list of answers.
use Rattle.std.proofs.Common.{◌≡◌, ℕ, List, [], ◌∷◌, ◌++◌, length, get_or, drop, Ok, Err, decimal, sym, refl, ap, ◌∙◌, subst, arith, length-append}
use Rattle.std.proofs.lemmas.Fmt.{decimal_injective}
use Rattle.event.proofs.Asking.{never_both, one_first}
use Rattle.event.proofs.Numbers.{distinct_numbers}
use Rattle.event.specs.Refusals.{refusal_number}
use Rattle.script.specs.Commands.{LineReads, line_questions, OneCommand}
use Rattle.script.specs.Scripts.{with_feeds, NoFeed, Answers, OneReading}
use Rattle.script.specs.declared.command.Command.TheVariants.{Feed, Collect}
use Rattle.script.proofs.Decimals.{decimal_digits}
use Rattle.script.proofs.Pieces.{Answer, no_answers}
use Rattle.script.proofs.Splits.{same_row}

pub one_command : OneCommand
one_command line (Feed e) (Feed f) (s, p) (t, q) =
    let h = same_row (decimal e.channel) (decimal f.channel) (32 ∷ decimal e.value) (32 ∷ decimal f.value)
    (decimal_digits e.channel s.0) (decimal_digits f.channel t.0) refl refl (ap (drop 2) (sym p ∙ q)) in
    let channels : e.channel ≡ f.channel = decimal_injective e.channel f.channel (omega arith) (omega arith) h.0 in
    let values : e.value ≡ f.value = decimal_injective e.value f.value (omega arith) (omega arith) (ap (drop 1) h.1) in
    λ i. Feed (record { channel = channels i; value = values i })
one_command line (Feed e) (Collect l) (s, p) (t, q) = absurd (omega (arith, ap (λ xs. get_or xs 0 0) (sym p ∙ q)))
one_command line (Collect l) (Feed e) (s, p) (t, q) = absurd (omega (arith, ap (λ xs. get_or xs 0 0) (sym p ∙ q)))
one_command line (Collect l) (Collect m) (s, p) (t, q) = ap Collect (decimal_injective l m (omega arith) (omega arith) (ap (drop 2) (sym p ∙ q)))

-- a line has one answer
one_answer : (line : List ℕ) (r s : Answer) → LineReads line r → LineReads line s → r ≡ s
one_answer line (Ok c) (Ok d) h k = ap Ok (one_command line c d h k)
one_answer line (Ok c) (Err f) h k = absurd (never_both (line_questions line) (refusal_number f) ((c, h), tt) k)
one_answer line (Err e) (Ok d) h k = absurd (never_both (line_questions line) (refusal_number e) ((d, k), tt) h)
one_answer line (Err e) (Err f) h k = ap Err (distinct_numbers e f (one_first (line_questions line) (refusal_number e) (refusal_number f) h k))

-- a piece ends before the first line feed
same_piece : (p q x y : List ℕ) → NoFeed p → NoFeed q → p ++ (10 ∷ x) ≡ q ++ (10 ∷ y) → (p ≡ q) × (x ≡ y)
same_piece [] [] x y h k e = (refl, ap (drop 1) e)
same_piece [] (c ∷ q) x y h k e = absurd (k.0 (sym (ap (λ xs. get_or xs 0 0) e)))
same_piece (b ∷ p) [] x y h k e = absurd (h.0 (ap (λ xs. get_or xs 0 0) e))
same_piece (b ∷ p) (c ∷ q) x y h k e =
    let first : b ≡ c = ap (λ xs. get_or xs 0 0) e in
    let rest = same_piece p q x y h.1 k.1 (ap (drop 1) e) in
    ((λ i. first i ∷ rest.0 i), rest.1)

-- a piece does not reach past a line feed
no_feed_in : (p q y : List ℕ) → NoFeed p → p ≡ q ++ (10 ∷ y) → ⊥
no_feed_in [] q y h e = omega (arith, ap length e, length-append q (10 ∷ y))
no_feed_in (b ∷ p) [] y h e = h.0 (ap (λ xs. get_or xs 0 0) e)
no_feed_in (b ∷ p) (c ∷ q) y h e = no_feed_in p q y h.1 (ap (drop 1) e)

-- pieces that are answered have no line feed
clear : (p : List ℕ) (ps : List (List ℕ)) (rs : List Answer) → Answers (p ∷ ps) rs → NoFeed p
clear [] ps rs h = tt
clear (b ∷ p) ps [] h = absurd h
clear (b ∷ p) ps (r ∷ rs) h = h.0

none_left : (rs : List Answer) → Answers [] rs → rs ≡ []
none_left [] h = refl
none_left (r ∷ rs) h = absurd h

-- the same first piece has the same answer before those to the rest
same_first : (p : List ℕ) (ps qs : List (List ℕ)) (rs ss : List Answer)
    → ((rs ss : List Answer) → Answers ps rs → Answers qs ss → rs ≡ ss)
    → Answers (p ∷ ps) rs → Answers (p ∷ qs) ss → rs ≡ ss
same_first [] ps qs rs ss rest h k = rest rs ss h k
same_first (b ∷ p) ps qs [] ss rest h k = absurd h
same_first (b ∷ p) ps qs (r ∷ rs) [] rest h k = absurd k
same_first (b ∷ p) ps qs (r ∷ rs) (s ∷ ss) rest h k =
    let first : r ≡ s = one_answer (b ∷ p) r s h.1 k.1 in
    let more : rs ≡ ss = rest rs ss h.2 k.2 in
    λ i. first i ∷ more i

same_answers : (ps qs : List (List ℕ)) (rs ss : List Answer) → with_feeds ps ≡ with_feeds qs → Answers ps rs → Answers qs ss → rs ≡ ss
same_answers [] qs rs ss e h k = none_left rs h ∙ sym (none_left ss (no_answers qs ss (sym e) k))
same_answers (p ∷ ps) [] rs ss e h k = none_left rs (no_answers (p ∷ ps) rs e h) ∙ sym (none_left ss k)
same_answers (p ∷ []) (q ∷ []) rs ss e h k =
    same_first q [] [] rs ss (λ rs ss h k. none_left rs h ∙ sym (none_left ss k)) (subst (λ x. Answers (x ∷ []) rs) e h) k
same_answers (p ∷ []) (q ∷ r ∷ qs) rs ss e h k = absurd (no_feed_in p q (with_feeds (r ∷ qs)) (clear p [] rs h) e)
same_answers (p ∷ r ∷ ps) (q ∷ []) rs ss e h k = absurd (no_feed_in q p (with_feeds (r ∷ ps)) (clear q [] ss k) (sym e))
same_answers (p ∷ r ∷ ps) (q ∷ s ∷ qs) rs ss e h k =
    let same = same_piece p q (with_feeds (r ∷ ps)) (with_feeds (s ∷ qs)) (clear p (r ∷ ps) rs h) (clear q (s ∷ qs) ss k) e in
    same_first q (r ∷ ps) (s ∷ qs) rs ss (λ rs ss h k. same_answers (r ∷ ps) (s ∷ qs) rs ss same.1 h k) (subst (λ x. Answers (x ∷ r ∷ ps) rs) same.0 h) k

pub one_reading : OneReading
one_reading script rs ss (ps, e, h) (qs, f, k) = same_answers ps qs rs ss (e ∙ sym f) h k
