-- What some bytes are read as.
use Rattle.std.specs.Prelude.{ℕ, List, Option, MatchOption}

-- a value of which P holds, or none where P holds of none
abbrev pub IsReading : {A : Type 0} → (A → Type 0) → Option A → Type 0
IsReading {A} P r = MatchOption r ((x : A) → ¬ P x) P

-- a value that the bytes begin with, and the rest after it; or none where there is none
abbrev pub ReadsOn : {A : Type 0} → (List ℕ → A → List ℕ → Type 0) → List ℕ → Option (A × List ℕ) → Type 0
ReadsOn {A} Then bytes r = MatchOption r ((x : A) (rest : List ℕ) → ¬ Then bytes x rest) (λ p. Then bytes p.0 p.1)
