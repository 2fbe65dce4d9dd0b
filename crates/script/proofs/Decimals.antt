-- Numbers in decimal.
use Rattle.std.proofs.Common.{◌≡◌, ℕ, zero, suc, ◌+◌, ◌-◌, ◌*◌, ◌<◌, ◌≤◌, true, List, length, get_or, take, Ok, Err, decimal, Result, sym, ap, ◌∙◌, arith}
use Rattle.std.specs.Char.{digit_value}
use Rattle.std.specs.Int.{IsInRange}
use Rattle.std.specs.Str.{all_ascii_digits}
use Rattle.std.specs.Str.Parse.{digits_value}
use Rattle.std.specs.Result.{OkIff, result_ok}
use Rattle.script.specs.Readings.{IsReading}
use Rattle.std.proofs.lemmas.Fmt.{digits_decimal, digits_value-decimal, decimal-digits_value, length-decimal-le, decimal_digit, decimal_nonempty, first_decimal}
use Rattle.std.proofs.lemmas.Int.Digits.{digits_value_more}
use Rattle.std.proofs.lemmas.Str.{digit_value_digit}
use Rattle.std.proofs.lemmas.Str.Parse.{IsNumeralModel, numerals_by_value, tells_all_ascii_digits, digit_at, digits_value_short, digits_value-take-le}

-- what digits are read as in base ten
abbrev pub reading : List ℕ → ℕ
reading = digits_value 10

rows : IsNumeralModel (λ ds. all_ascii_digits ds ≡ true) reading
rows = numerals_by_value _ tells_all_ascii_digits

pub decimal_digits : (v : ℕ) → v ≤ 65535 → all_ascii_digits (decimal v) ≡ true
decimal_digits v small = digits_decimal rows v (omega arith)

-- a decimal of several digits does not begin with a zero
decimal_lead : (v : ℕ) → v ≤ 65535 → 1 < length (decimal v) → get_or (decimal v) 0 0 ≡ 48 → ⊥
decimal_lead zero small long lead = omega (arith, ap length (decimal_digit 0 (omega arith)))
decimal_lead (suc v) small long lead = omega (arith, first_decimal (suc v) (omega arith) (omega arith))

-- the decimal of a number of a script has one digit to five
pub other_length : (ds : List ℕ) → ((1 ≤ length ds) × (length ds ≤ 5) → ⊥) → (v : ℕ) → ¬ ((v ≤ 65535) × (ds ≡ decimal v))
other_length ds other v (small, same) =
    other (omega (arith, ap length same, decimal_nonempty v (omega arith)), omega (arith, ap length same, length-decimal-le 5 v (omega arith) (omega arith) (omega arith)))

pub leading_zero : (ds : List ℕ) → (1 < length ds) × (get_or ds 0 0 ≡ 48) → (v : ℕ) → ¬ ((v ≤ 65535) × (ds ≡ decimal v))
leading_zero ds zero_first v (small, e) = decimal_lead v small (omega (arith, ap length e, zero_first.0)) (sym (ap (λ l. get_or l 0 0) e) ∙ zero_first.1)

module _ (ds : List ℕ) (all : all_ascii_digits ds ≡ true) where
  pub digit_in : (i : ℕ) → i < length ds → IsInRange 48 57 (get_or ds i 0)
  digit_in i h = digit_at ds i (rows.to ds all) h

  -- one digit more is read
  pub reading_more : (i : ℕ) → i < length ds → reading (take (i + 1) ds) ≡ reading (take i ds) * 10 + (get_or ds i 0 - 48)
  reading_more i h =
      let digit : digit_value (get_or ds i 0) + 48 ≡ get_or ds i 0 = digit_value_digit (get_or ds i 0) (digit_in i h) in
      digits_value_more 10 ds i h ∙ ap (λ d. reading (take i ds) * 10 + d) (omega (arith, digit))

  -- what is read of some of at most five digits
  pub reading_below : (i : ℕ) → length ds ≤ 5 → reading (take i ds) < 100000
  reading_below i five = omega (arith, digits_value-take-le 10 ds i (omega arith), digits_value_short rows ds 5 all five)

  -- what digits with no leading zero are read as, where it fits, is the number that they write out
  pub read_as : {E : Type 0} (r : Result ℕ E) (n : ℕ) → 0 < length ds → ((1 < length ds) × (get_or ds 0 0 ≡ 48) → ⊥) → n ≡ reading ds → OkIff r (n < 65536) n → IsReading (λ v. (v ≤ 65535) × (ds ≡ decimal v)) (result_ok r)
  read_as (Ok x) n some lead is (small, same) =
      let alone : get_or ds 0 0 ≡ 48 → length ds ≡ 1 = λ zero_first. omega (arith, some, λ (long : 1 < length ds). lead (long, zero_first)) in
      (omega (arith, small, same), sym (decimal-digits_value rows ds all some alone (omega (arith, small, is))) ∙ ap decimal (sym (same ∙ is)))
  read_as (Err e) n some lead is large =
      λ v (small, same). large (omega (arith, is, ap reading same, digits_value-decimal rows v (omega arith)))
