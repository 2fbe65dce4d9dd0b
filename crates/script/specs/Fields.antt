-- How a line goes on at a place.
use Rattle.std.specs.Prelude.{◌≡◌, ℕ, ◌≤◌, false, List, ◌∷◌, ◌++◌, decimal, ◌≢◌, slice_index}
use Rattle.std.specs.Char.{is_ascii_digit}
use Rattle.event.specs.declared.Event.{Event}

-- some bytes are a number in decimal and then a rest that does not begin with a digit
abbrev pub NumberThen : List ℕ → ℕ → List ℕ → Type 0
NumberThen bytes v rest = (v ≤ 65535) × (bytes ≡ decimal v ++ rest) × (is_ascii_digit (slice_index rest 0) ≡ false)

-- the same after one space
abbrev pub SpacedThen : List ℕ → ℕ → List ℕ → Type 0
SpacedThen bytes v rest = (v ≤ 65535) × (bytes ≡ 32 ∷ (decimal v ++ rest)) × (is_ascii_digit (slice_index rest 0) ≡ false)

-- the bytes are one space and then a number in decimal, and no more
abbrev pub LastNumber : List ℕ → ℕ → Type 0
LastNumber bytes v = (v ≤ 65535) × (bytes ≡ 32 ∷ decimal v)

-- the bytes are the two numbers of an event, each after one space
abbrev pub EventFields : List ℕ → Event → Type 0
EventFields bytes e = (e.channel ≤ 65535) × (e.value ≤ 65535) × (bytes ≡ 32 ∷ (decimal e.channel ++ (32 ∷ decimal e.value)))

-- the bytes are a letter, which is neither a space nor a digit, and then a rest
abbrev pub LetterThen : List ℕ → ℕ → List ℕ → Type 0
LetterThen bytes b rest = (bytes ≡ b ∷ rest) × (b ≢ 32) × (is_ascii_digit b ≡ false)
