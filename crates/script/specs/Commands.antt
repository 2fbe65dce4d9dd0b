-- Which line is which command.
use Rattle.std.specs.Prelude.{◌≡◌, ℕ, ◌≤◌, List, [], ◌∷◌, ◌++◌, codes, decimal, Result, MatchResult}
use Rattle.event.specs.Questions.{Question, FirstNo}
use Rattle.event.specs.Refusals.{refusal_number}
use Rattle.event.specs.declared.Refusal.{Refusal}
use Rattle.script.specs.declared.command.Command.{Command}
use Rattle.script.specs.declared.command.Command.TheVariants.{Feed, Collect}

-- a command written out: its letter, and then each of its numbers in decimal, after one space
abbrev pub written : Command → List ℕ
written (Feed e) = codes "f " ++ (decimal e.channel ++ (codes " " ++ decimal e.value))
written (Collect level) = codes "c " ++ decimal level

-- numbers of a script go up to 65,535
abbrev pub Small : Command → Type 0
Small (Feed e) = (e.channel ≤ 65535) × (e.value ≤ 65535)
Small (Collect level) = level ≤ 65535

-- a line reads as a command exactly if it is that command written out
abbrev pub Reads : List ℕ → Command → Type 0
Reads line c = Small c × (line ≡ written c)

-- a line reads as at most one command
abbrev pub OneCommand : Type 0
OneCommand = (line : List ℕ) (c d : Command) → Reads line c → Reads line d → c ≡ d

-- what is asked of a line
abbrev pub line_questions : List ℕ → List Question
line_questions line = record { number = 15; asks = (c : Command) × Reads line c } ∷ []

-- the answer to a line: the command that it reads as, or the refusal
abbrev pub LineReads : List ℕ → Result Command Refusal → Type 0
LineReads line r = MatchResult r (λ c. Reads line c) (λ e. FirstNo (line_questions line) (refusal_number e))
