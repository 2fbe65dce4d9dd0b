-- The pieces of a script, and the answers to them.
use Rattle.std.proofs.Common.{◌≡◌, ℕ, ◌<◌, ◌≢◌, Bool, List, [], ◌∷◌, ◌++◌, length, map, Result, refl, ap, ◌∙◌, subst, ⊎_elim, append-nil, arith, length-append, Bor}
use Rattle.std.specs.Bool.{◌==◌}
use Rattle.std.specs.List.{AllByRecursion, slice_split, onto_first, join_with_byte}
use Rattle.std.proofs.lemmas.Bool.{cases_Bool, eqb-false}
use Rattle.std.proofs.lemmas.List.{map-append}
use Rattle.std.proofs.lemmas.List.Splits.{slice_split-cons_yes, slice_split-cons_no, join_with_byte-slice_split}
use Rattle.event.specs.declared.Refusal.{Refusal}
use Rattle.script.specs.Commands.{LineReads}
use Rattle.script.specs.Scripts.{with_feeds, NoFeed, Answers, ScriptReads}
use Rattle.script.specs.declared.command.Command.{Command}

-- the answer to a line
abbrev pub Answer : Type 0
Answer = Result Command Refusal

-- no piece has a line feed
abbrev pub NoFeeds : List (List ℕ) → Type 0
NoFeeds = AllByRecursion NoFeed

-- the pieces so far, if none has a line feed, have these answers
pub record Answered (pieces : List (Bor (List ℕ))) (answers : List Answer) : Type 0 where
  pub told : NoFeeds (map (λ x. x.now) pieces) → Answers (map (λ x. x.now) pieces) answers

-- pieces of an empty text have no answers
pub no_answers : (ps : List (List ℕ)) (rs : List Answer) → with_feeds ps ≡ [] → Answers ps rs → Answers [] rs
no_answers [] rs e h = h
no_answers ([] ∷ []) rs e h = h
no_answers ((b ∷ bs) ∷ []) rs e h = absurd (omega (arith, ap length e))
no_answers (p ∷ q ∷ ps) rs e h = absurd (omega (arith, ap length e, length-append p (10 ∷ with_feeds (q ∷ ps))))

answers_append : (ps qs : List (List ℕ)) (rs ss : List Answer) → Answers ps rs → Answers qs ss → Answers (ps ++ qs) (rs ++ ss)
answers_append [] qs [] ss h k = k
answers_append [] qs (r ∷ rs) ss h k = absurd h
answers_append ([] ∷ ps) qs rs ss h k = answers_append ps qs rs ss h k
answers_append ((b ∷ bs) ∷ ps) qs [] ss h k = absurd h
answers_append ((b ∷ bs) ∷ ps) qs (r ∷ rs) ss h k = (h.0, h.1, answers_append ps qs rs ss h.2 k)

no_feeds_parts : (ps qs : List (List ℕ)) → NoFeeds (ps ++ qs) → NoFeeds ps × NoFeeds qs
no_feeds_parts [] qs h = (tt, h)
no_feeds_parts (p ∷ ps) qs h = let rest = no_feeds_parts ps qs h.1 in ((h.0, rest.0), rest.1)

line_answer : (line : List ℕ) (r : Answer) → 0 < length line → LineReads line r → NoFeed line → Answers (line ∷ []) (r ∷ [])
line_answer [] r some reads clear = absurd (omega arith)
line_answer (b ∷ bs) r some reads clear = (clear, reads, tt)

empty_answer : (line : List ℕ) → length line ≡ 0 → Answers (line ∷ []) []
empty_answer [] e = tt
empty_answer (b ∷ bs) e = absurd (omega arith)

pub none_answered : (answers : List Answer) → answers ≡ [] → Answered [] answers
none_answered answers e = record { told = λ _. rw e tt }

module _ (pieces : List (Bor (List ℕ))) (piece : Bor (List ℕ)) (answers : List Answer) (so_far : Answered pieces answers) where
  one_more : (new : List Answer) → (NoFeed piece.now → Answers (piece.now ∷ []) new) → Answered (pieces ++ piece ∷ []) (answers ++ new)
  one_more new h = record {
    told = rw map-append
        (λ clear. let parts = no_feeds_parts (map (λ x. x.now) pieces) (piece.now ∷ []) clear in
        answers_append (map (λ x. x.now) pieces) (piece.now ∷ []) answers new (so_far.told parts.0) (h parts.1.0));
  }

  pub empty_passed : length piece.now ≡ 0 → Answered (pieces ++ piece ∷ []) answers
  empty_passed e = subst (Answered (pieces ++ piece ∷ [])) (append-nil answers) (one_more [] (λ _. empty_answer piece.now e))

  pub line_answered : (r : Answer) → 0 < length piece.now → LineReads piece.now r → Answered (pieces ++ piece ∷ []) (answers ++ r ∷ [])
  line_answered r some reads = one_more (r ∷ []) (line_answer piece.now r some reads)

-- what a turn of the loop over the pieces does
pub ruleset answering = (none_answered, empty_passed, line_answered)

-- the test for a line feed
abbrev pub is_feed : ℕ → Bool
is_feed b = b == 10

onto_first_no_feed : (b : ℕ) (ps : List (List ℕ)) → b ≢ 10 → NoFeeds ps → NoFeeds (onto_first b ps)
onto_first_no_feed b [] h k = ((h, tt), tt)
onto_first_no_feed b (p ∷ ps) h k = ((h, k.0), k.1)

split_no_feeds : (bytes : List ℕ) → NoFeeds (slice_split is_feed bytes)
split_no_feeds [] = (tt, tt)
split_no_feeds (b ∷ bytes) =
    ⊎_elim
    (λ yes. rw (slice_split-cons_yes is_feed b bytes yes) (tt, split_no_feeds bytes))
    (λ no. rw (slice_split-cons_no is_feed b bytes no) (onto_first_no_feed b _ (eqb-false b 10 no) (split_no_feeds bytes)))
    (cases_Bool (is_feed b))

with_feeds_join : (ps : List (List ℕ)) → with_feeds ps ≡ join_with_byte 10 ps
with_feeds_join [] = refl
with_feeds_join (p ∷ []) = refl
with_feeds_join (p ∷ q ∷ ps) = ap (λ text. p ++ (10 ∷ text)) (with_feeds_join (q ∷ ps))

-- the pieces between the line feeds of a script are answered
pub all_answered : (script : List ℕ) (pieces : List (Bor (List ℕ))) (answers : List Answer) → map (λ x. x.now) pieces ≡ slice_split is_feed script → Answered pieces answers → ScriptReads script answers
all_answered script pieces answers e h =
    (slice_split is_feed script, with_feeds_join (slice_split is_feed script) ∙ join_with_byte-slice_split 10 script, subst (λ ps. Answers ps answers) e (h.told (rw e (split_no_feeds script))))
