-- Laws of bits and fields.
use Rattle.std.proofs.Common.{◌≡◌, ℕ, zero, suc, ◌+◌, ◌-◌, ◌*◌, ◌/◌, ◌%◌, ◌^◌, ◌<◌, ◌≤◌, List, length, get_or, sym, refl, ap, ◌∙◌, pow-suc, div-one, add-one, arith, shr-shr}
use native.Mathlib.Decide.{dec_lt}
use Rattle.bits.specs.Fields.{bit, field}

pub bit_lt : (f : List ℕ) (i : ℕ) → bit f i < 2
bit_lt f i = omega arith

pub field_step : (f : List ℕ) (at w : ℕ) → field f at (w + 1) ≡ field f at w * 2 + bit f (at + w)
unfolding field
field_step f at w = rw add-one

pub field_lt : (f : List ℕ) (at w : ℕ) → field f at w < 2 ^ w
unfolding field
field_lt f at zero = omega arith
field_lt f at (suc w) = omega (arith, field_lt f at w, bit_lt f (at + w), pow-suc 2 w)

-- a bit by its byte and its place there
pub bit_at : (f : List ℕ) (p q t : ℕ) → p / 8 ≡ q → p % 8 ≡ t → bit f p ≡ get_or f q 0 / 2 ^ (7 - t) % 2
bit_at f p q t d m = rw (d, m)

-- the first k bits of a byte
front : (f : List ℕ) (i k : ℕ) → get_or f i 0 < 256 → k ≤ 8 → field f (8 * i) k ≡ get_or f i 0 / 2 ^ (8 - k)
unfolding field
front f i zero h l = omega arith
front f i (suc k) h l =
    let x = get_or f i 0 / 2 ^ (7 - k) in
    let a : 8 - suc k ≡ 7 - k = omega arith in
    let more : 8 - k ≡ (7 - k) + 1 = omega arith in
    let before : field f (8 * i) k ≡ x / 2 = front f i k h (omega arith) ∙ ap (λ z. get_or f i 0 / 2 ^ z) more ∙ sym (shr-shr (get_or f i 0) (7 - k) 1) in
    let here : bit f (8 * i + k) ≡ x % 2 = bit_at f (8 * i + k) i k (omega arith) (omega arith) in
    rw a (omega arith)

-- the eight bits of a byte write that byte
pub field_of_byte : (f : List ℕ) (i : ℕ) → get_or f i 0 < 256 → field f (8 * i) 8 ≡ get_or f i 0
field_of_byte f i h = front f i 8 h (omega arith) ∙ div-one (get_or f i 0)

-- equal fields have equal bits
pub same_bits : (f g : List ℕ) (p q w k : ℕ) → field f p w ≡ field g q w → k < w → bit f (p + k) ≡ bit g (q + k)
unfolding field
same_bits f g p q zero k e h = absurd (omega arith)
same_bits f g p q (suc w) k e h =
    elim (dec_lt k w) [
      | yes l ↦ same_bits f g p q w k (omega (arith, bit_lt f (p + w), bit_lt g (q + w))) l
      | no n ↦ (let last : k ≡ w = omega arith in
          ap (λ z. bit f (p + z)) last ∙ (let e2 : bit f (p + w) ≡ bit g (q + w) = omega (arith, bit_lt f (p + w), bit_lt g (q + w)) in e2) ∙ sym (ap (λ z. bit g (q + z)) last))
    ]

-- files of one length with equal bits are equal
pub same_file : (f g : List ℕ) → ((i : ℕ) → get_or f i 0 < 256) → ((i : ℕ) → get_or g i 0 < 256) → length f ≡ length g
    → ((i : ℕ) → i < 8 * length f → bit f i ≡ bit g i) → (i : ℕ) → i < length f → get_or f i 0 ≡ get_or g i 0
unfolding field
same_file f g bf bg e same i h =
    sym (field_of_byte f i (bf i)) ∙ equal 8 (omega arith) ∙ field_of_byte g i (bg i)
  where
    equal : (w : ℕ) → w ≤ 8 → field f (8 * i) w ≡ field g (8 * i) w
    equal zero l = refl
    equal (suc w) l = omega (arith, equal w (omega arith), same (8 * i + w) (omega arith))
