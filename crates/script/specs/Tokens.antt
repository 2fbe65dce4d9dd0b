-- What the fields of a line are.
use Rattle.std.specs.Prelude.{◌≡◌, ℕ, ◌+◌, ◌<◌, true, false, List, [], ◌∷◌, length, take, drop, ◌≢◌, slice_index}
use Rattle.std.specs.Char.{is_ascii_digit}
use Rattle.std.specs.Str.{all_ascii_digits}
use Rattle.script.specs.declared.token.Token.{Token}
use Rattle.script.specs.declared.token.Token.TheVariants.{Letter, Number, Blank}

-- the bytes of a token
abbrev pub token_text : Token → List ℕ
token_text (Letter text place) = text.now
token_text (Number text place) = text.now
token_text (Blank text place) = text.now

-- its place in the line
abbrev pub token_place : Token → ℕ
token_place (Letter text place) = place
token_place (Number text place) = place
token_place (Blank text place) = place

-- a blank is one space; a letter is one byte that is neither a space nor a digit; a number is some
-- digits, as many as stand there in a row
abbrev pub TokenKind : List ℕ → Token → Type 0
TokenKind line (Letter text place) = (length text.now ≡ 1) × (slice_index text.now 0 ≢ 32) × (is_ascii_digit (slice_index text.now 0) ≡ false)
TokenKind line (Number text place) = (0 < length text.now) × (all_ascii_digits text.now ≡ true) × (is_ascii_digit (slice_index line (place + length text.now)) ≡ false)
TokenKind line (Blank text place) = text.now ≡ 32 ∷ []

-- t is the token of the line at a place: the part of the line that begins there, of its kind
pub record TokenAt (line : List ℕ) (at : ℕ) (t : Token) : Type 0 where
  pub place : token_place t ≡ at
  pub part : token_text t ≡ take (length (token_text t)) (drop at line)
  pub kind : TokenKind line t
