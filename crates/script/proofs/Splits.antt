-- How a line splits at a token.
use Rattle.std.proofs.Common.{◌≡◌, ℕ, ◌+◌, ◌<◌, ◌≤◌, true, false, List, [], ◌∷◌, ◌++◌, length, get_or, drop, decimal, IsTrue, ◌↔◌, Bool, sym, refl, ap, ◌∙◌, subst, append-nil, arith, length-drop, take-append-drop, Bor}
use Rattle.std.specs.Bool.{then_some}
use Rattle.std.specs.Char.{is_ascii_digit}
use Rattle.std.specs.Int.{IsInRange}
use Rattle.std.specs.Str.{all_ascii_digits}
use Rattle.std.proofs.lemmas.Fmt.{decimal_nonempty}
use Rattle.std.proofs.lemmas.List.{get_or-take, get_or-drop, get_or_append_left, get_or_past, nil_from_length}
use Rattle.std.proofs.lemmas.Bool.{and_parts, both_ways}
use Rattle.event.specs.declared.Event.{Event}
use Rattle.script.specs.Commands.{Reads}
use Rattle.script.specs.Readings.{IsReading}
use Rattle.script.specs.Fields.{NumberThen, SpacedThen, LastNumber, EventFields, LetterThen}
use Rattle.script.specs.Tokens.{TokenAt, token_text}
use Rattle.script.specs.declared.command.Command.{Command}
use Rattle.script.specs.declared.command.Command.TheVariants.{Feed, Collect}
use Rattle.script.specs.declared.token.Token.{Token}
use Rattle.script.specs.declared.token.Token.TheVariants.{Letter, Number, Blank}
use Rattle.script.proofs.Decimals.{digit_in, decimal_digits}
use Rattle.script.proofs.Rows.{is_digit}

-- two rows of digits, each before what does not begin with a digit: where the whole is the same, so are
-- the parts
pub same_row : (ds es s t : List ℕ) → all_ascii_digits ds ≡ true → all_ascii_digits es ≡ true → is_ascii_digit (get_or s 0 0) ≡ false → is_ascii_digit (get_or t 0 0) ≡ false → ds ++ s ≡ es ++ t → (ds ≡ es) × (s ≡ t)
same_row [] [] s t p q u v h = (refl, h)
same_row [] (e ∷ es) s t p q u v h =
    absurd (both_ways (is_ascii_digit e) (sym (ap (λ l. is_ascii_digit (get_or l 0 0)) h) ∙ u) (and_parts (is_ascii_digit e) (all_ascii_digits es) q).0)
same_row (d ∷ ds) [] s t p q u v h =
    absurd (both_ways (is_ascii_digit d) (ap (λ l. is_ascii_digit (get_or l 0 0)) h ∙ v) (and_parts (is_ascii_digit d) (all_ascii_digits ds) p).0)
same_row (d ∷ ds) (e ∷ es) s t p q u v h =
    let rest = same_row ds es s t (and_parts (is_ascii_digit d) (all_ascii_digits ds) p).1 (and_parts (is_ascii_digit e) (all_ascii_digits es) q).1 u v (ap (drop 1) h) in
    let first : d ≡ e = ap (λ l. get_or l 0 0) h in
    ((λ i. first i ∷ rest.0 i), rest.1)

-- a number begins with a digit
number_first : (bytes : List ℕ) (v : ℕ) (rest : List ℕ) → NumberThen bytes v rest → IsInRange 48 57 (get_or bytes 0 0)
number_first bytes v rest (small, e, ends) =
    let some : 0 < length (decimal v) = decimal_nonempty v (omega arith) in
    let same : get_or bytes 0 0 ≡ get_or (decimal v) 0 0 = ap (λ l. get_or l 0 0) e ∙ get_or_append_left (decimal v) rest 0 0 some in
    subst (IsInRange 48 57) (sym same) (digit_in (decimal v) (decimal_digits v small) 0 some)

module _ (line : List ℕ) (at : ℕ) where
  pub past_end_number : length line ≤ at → (v : ℕ) (rest : List ℕ) → ¬ NumberThen (drop at line) v rest
  past_end_number h v rest told = omega (arith, number_first _ v rest told, get_or_past (drop at line) 0 0 (omega (arith, length-drop at line)))

  -- a token's first byte is the first that is left of the line
  token_first : (t : Token) → TokenAt line at t → 0 < length (token_text t) → get_or (token_text t) 0 0 ≡ get_or (drop at line) 0 0
  token_first t h some = ap (λ l. get_or l 0 0) h.part ∙ get_or-take (length (token_text t)) (drop at line) 0 0 some

  -- a token of another kind
  pub no_number : (t : Token) → TokenAt line at t → ((x : Bor (List ℕ)) (p : ℕ) → t ≡ Number x p → ⊥) → (v : ℕ) (rest : List ℕ) → ¬ NumberThen (drop at line) v rest
  no_number (Letter x p) h not v rest told =
      both_ways _ (sym (ap is_ascii_digit (token_first (Letter x p) h (omega (arith, h.kind.0)))) ∙ h.kind.2) (is_digit _ (number_first _ v rest told))
  no_number (Number x p) h not v rest told = not x p refl
  no_number (Blank x p) h not v rest told =
      omega (arith, number_first _ v rest told, token_first (Blank x p) h (omega (arith, ap length h.kind)), ap (λ l. get_or l 0 0) h.kind)

  pub other_number : (x : Bor (List ℕ)) (p : ℕ) → TokenAt line at (Number x p) → ((v : ℕ) → ¬ ((v ≤ 65535) × (x.now ≡ decimal v))) → (v : ℕ) (rest : List ℕ) → ¬ NumberThen (drop at line) v rest
  other_number x p h none v rest (small, e, ends) =
      let n = length x.now in
      let splits : x.now ++ drop n (drop at line) ≡ drop at line = ap (λ l. l ++ drop n (drop at line)) h.part ∙ take-append-drop n (drop at line) in
      let next : get_or (drop n (drop at line)) 0 0 ≡ get_or line (p + n) 0 = get_or-drop n (drop at line) 0 0 ∙ get_or-drop at line (n + 0) 0 ∙ ap (λ i. get_or line i 0) (omega (arith, h.place)) in
      let stops : is_ascii_digit (get_or (drop n (drop at line)) 0 0) ≡ false = ap is_ascii_digit next ∙ h.kind.2 in
      none v (small, (same_row x.now (decimal v) (drop n (drop at line)) rest h.kind.1 (decimal_digits v small) stops ends (splits ∙ e)).0)

-- what follows a number after one space is the same for each such number
rest_same : (bytes s t : List ℕ) (v w : ℕ) → SpacedThen bytes v s → SpacedThen bytes w t → s ≡ t
rest_same bytes s t v w (p, e, u) (q, f, u') =
    (same_row (decimal v) (decimal w) s t (decimal_digits v p) (decimal_digits w q) u u' (ap (drop 1) (sym e ∙ f))).1

last_spaced : (bytes : List ℕ) (v : ℕ) → LastNumber bytes v → SpacedThen bytes v []
last_spaced bytes v (small, e) = (small, e ∙ ap (λ l. 32 ∷ l) (sym (append-nil (decimal v))), refl)

-- a line with no number after a space does not end with one
pub none_last : (bytes : List ℕ) → ((v : ℕ) (rest : List ℕ) → ¬ SpacedThen bytes v rest) → (v : ℕ) → ¬ LastNumber bytes v
none_last bytes none v h = none v [] (last_spaced bytes v h)

module _ (bytes rest : List ℕ) (v : ℕ) (told : SpacedThen bytes v rest) where
  -- the number is the last if nothing is left after it
  pub last_reading : (end : Bool) → (IsTrue end ↔ (length rest ≡ 0)) → IsReading (LastNumber bytes) (then_some end v)
  last_reading true h =
      let none : rest ≡ [] = nil_from_length rest (h.0 refl) in
      (told.0, told.1 ∙ ap (λ l. 32 ∷ l) (ap (λ l. decimal v ++ l) none ∙ append-nil (decimal v)))
  last_reading false h =
      λ w last. both_ways false refl (h.1 (ap length (rest_same bytes rest [] v w told (last_spaced bytes w last))))

  pub no_event : ((w : ℕ) → ¬ LastNumber rest w) → (e : Event) → ¬ EventFields bytes e
  no_event none e h = none e.value (h.1, rest_same bytes _ _ v e.channel told (h.0, h.2, refl))

-- a line that does not begin with a letter is no command
pub no_command : (line : List ℕ) → ((b : ℕ) (rest : List ℕ) → ¬ LetterThen line b rest) → (c : Command) → ¬ Reads line c
no_command line none (Feed e) h = none 102 _ (h.1, (λ q. omega arith), refl)
no_command line none (Collect level) h = none 99 _ (h.1, (λ q. omega arith), refl)
