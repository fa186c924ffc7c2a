-- What the functions on bytes promise, in the words of scope's `Bits`: a field read, and a field written.
use Rattle.std.specs.Prelude.{ℕ, ◌+◌, ◌*◌, ◌/◌, ◌%◌, ◌^◌, ◌≤◌, ◌<◌, ◌≡◌, List, length, get_or}
use Rattle.scope.specs.Bits.{bits, field_at}

-- r is a power of two, at most 2 ^ 24
pub record Power (k r : ℕ) : Type 0 where
  pub is : r ≡ 2 ^ k
  pub some : 0 < r
  pub small : r ≤ 2 ^ 24

-- r is the byte at index i, or 0 past the end
pub record Byte (s : List ℕ) (i r : ℕ) : Type 0 where
  pub is : r ≡ get_or s i 0
  pub small : r < 256

-- the three bytes from index i on as one number, 0 for a byte past the end
abbrev pub word_at : List ℕ → ℕ → ℕ
word_at s i = get_or s i 0 * 65536 + get_or s (i + 1) 0 * 256 + get_or s (i + 2) 0

-- a number with v for the w bits that stand above its lowest k
abbrev pub mixed : ℕ → ℕ → ℕ → ℕ → ℕ
mixed old k w v = (old / 2 ^ k / 2 ^ w * 2 ^ w + v) * 2 ^ k + old % 2 ^ k

-- a field of w bits, at most 16, that lies within the bytes s from bit p on
pub record Within (s : List ℕ) (p w : ℕ) : Type 0 where
  pub narrow : w ≤ 16
  pub near : p < 2 ^ 32
  pub inside : p + w ≤ 8 * length s

-- r is the number in the field of w bits from bit p on
pub record Read (s : List ℕ) (p w r : ℕ) : Type 0 where
  pub is : r ≡ field_at (bits s) p w
  pub small : r < 2 ^ w
