-- Rows of digits.
use Rattle.std.proofs.Common.{◌≡◌, ℕ, ◌+◌, ◌<◌, true, false, List, [], ◌∷◌, Bool, cond, length, get_or, take, drop, take_while, subst, sym, refl, ap, ◌∙◌, ⊎_elim, arith, Bor}
use Rattle.std.specs.Char.{is_ascii_digit}
use Rattle.std.specs.Int.{IsInRange}
use Rattle.std.specs.List.{prefix_len}
use Rattle.std.specs.Str.{all_ascii_digits}
use Rattle.std.proofs.lemmas.Bool.{and_from, both_ways, cases_lt, le-leb}
use Rattle.std.proofs.lemmas.List.{get_or_past, get_or-drop}
use Rattle.std.proofs.lemmas.List.Folds.{length-prefix_len}
use Rattle.std.proofs.lemmas.List.Sums.{prefix_len_stops, take_while-cons}
use Rattle.script.specs.Tokens.{TokenAt}
use Rattle.script.specs.declared.token.Token.TheVariants.{Number}

-- a byte from 48 to 57 passes the test for a digit
pub is_digit : (b : ℕ) → IsInRange 48 57 b → is_ascii_digit b ≡ true
is_digit b h = and_from _ _ (le-leb 48 b h.0) (le-leb b 57 h.1)

row_more : (digit : Bool) (b : ℕ) (ds : List ℕ) → is_ascii_digit b ≡ digit → all_ascii_digits ds ≡ true → all_ascii_digits (cond digit (b ∷ ds) []) ≡ true
row_more true b ds e h = and_from (is_ascii_digit b) _ e h
row_more false b ds e h = refl

row_digits : (text : List ℕ) → all_ascii_digits (take_while is_ascii_digit text) ≡ true
row_digits [] = refl
row_digits (b ∷ text) =
    subst (λ ds. all_ascii_digits ds ≡ true) (sym (take_while-cons is_ascii_digit b text)) (row_more (is_ascii_digit b) b _ refl (row_digits text))

-- no digit stands after the row
row_stops : (text : List ℕ) → is_ascii_digit (get_or text (length (take_while is_ascii_digit text)) 0) ≡ false
row_stops text =
    rw length-prefix_len
    (⊎_elim
    (λ inside. prefix_len_stops is_ascii_digit text 0 inside)
    (λ past. ap is_ascii_digit (get_or_past text (prefix_len is_ascii_digit text) 0 past))
    (cases_lt (prefix_len is_ascii_digit text) (length text)))

-- the row of digits at a place of a line is a number
pub number_token : (line rest : List ℕ) (at : ℕ) (x : Bor (List ℕ)) → rest ≡ drop at line → x.now ≡ take_while is_ascii_digit rest → IsInRange 48 57 (get_or rest 0 0) → TokenAt line at (Number x at)
number_token line rest at x left row digit =
    let stops : is_ascii_digit (get_or rest (length x.now) 0) ≡ false = rw row (row_stops rest) in
    let last : get_or line (at + length x.now) 0 ≡ get_or rest (length x.now) 0 = sym (get_or-drop at line (length x.now) 0) ∙ ap (λ l. get_or l (length x.now) 0) (sym left) in
    let some : 0 < length x.now = omega (arith, λ (none : length x.now ≡ 0). both_ways _ (ap (λ n. is_ascii_digit (get_or rest n 0)) (sym none) ∙ stops) (is_digit _ digit)) in
    let part : x.now ≡ take (length x.now) rest = rw (row, length-prefix_len) in
    record {
      place = refl;
      part = part ∙ ap (take (length x.now)) left;
      kind = (some, rw row (row_digits rest), ap is_ascii_digit last ∙ stops);
    }
