-- Bits of a file, and the numbers that they write.
use Rattle.std.specs.Prelude.{ℕ, zero, suc, ◌+◌, ◌-◌, ◌*◌, ◌/◌, ◌%◌, ◌^◌, List, slice_index}

-- bit i of a file, the most significant bit of each byte first; 0 past the end
abbrev pub bit : List ℕ → ℕ → ℕ
bit file i = slice_index file (i / 8) / 2 ^ (7 - i % 8) % 2

-- the number that the `width` bits from bit `at` on write, most significant first
unfoldable pub field : List ℕ → ℕ → ℕ → ℕ
field file at zero = 0
field file at (suc width) = field file at width * 2 + bit file (at + width)
