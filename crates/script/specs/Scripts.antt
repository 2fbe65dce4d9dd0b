-- The lines of a script.
use Rattle.std.specs.Prelude.{◌≡◌, ℕ, ◌≤◌, ◌⊎◌, List, [], ◌∷◌, ◌++◌, length, Result, ◌≢◌}
use Rattle.event.specs.Questions.{Question, AllYes, FirstNo}
use Rattle.event.specs.Refusals.{refusal_number}
use Rattle.event.specs.declared.Refusal.{Refusal}
use Rattle.event.specs.declared.Refusal.TheVariants.{OutOfMemory}
use Rattle.script.specs.declared.command.Command.{Command}
use Rattle.script.specs.Commands.{LineReads}

-- what is asked of a script
abbrev pub script_questions : List ℕ → List Question
script_questions script = record { number = 16; asks = length script ≤ 65536 } ∷ []

-- a text with a line feed between each piece and the next
abbrev pub with_feeds : List (List ℕ) → List ℕ
with_feeds [] = []
with_feeds (p ∷ []) = p
with_feeds (p ∷ q ∷ ps) = p ++ (10 ∷ with_feeds (q ∷ ps))

-- no byte of a piece is a line feed
abbrev pub NoFeed : List ℕ → Type 0
NoFeed [] = Unit {0}
NoFeed (b ∷ bs) = (b ≢ 10) × NoFeed bs

-- answers to pieces of a text: an empty piece is no line, and each other one is without a line feed
-- and has its answer, in order
abbrev pub Answers : List (List ℕ) → List (Result Command Refusal) → Type 0
Answers [] [] = Unit {0}
Answers [] (r ∷ rs) = ⊥
Answers ([] ∷ ps) rs = Answers ps rs
Answers ((b ∷ bs) ∷ ps) [] = ⊥
Answers ((b ∷ bs) ∷ ps) (r ∷ rs) = NoFeed (b ∷ bs) × LineReads (b ∷ bs) r × Answers ps rs

-- the answers to the lines of a script: those to the pieces that, put together again, are the script
abbrev pub ScriptReads : List ℕ → List (Result Command Refusal) → Type 0
ScriptReads script rs = (pieces : List (List ℕ)) × (with_feeds pieces ≡ script) × Answers pieces rs

-- the answers that reading a script gives
abbrev pub ScriptRead : List ℕ → List (Result Command Refusal) → Type 0
ScriptRead script rs = AllYes (script_questions script) × ScriptReads script rs

-- why reading a script gives none: the first question that is answered no, or else want of memory
abbrev pub ScriptRefused : List ℕ → Refusal → Type 0
ScriptRefused script e = FirstNo (script_questions script) (refusal_number e) ⊎ (AllYes (script_questions script) × (e ≡ OutOfMemory))

-- however a script is put together of pieces, its lines have the same answers
abbrev pub OneReading : Type 0
OneReading = (script : List ℕ) (rs ss : List (Result Command Refusal)) → ScriptReads script rs → ScriptReads script ss → rs ≡ ss
