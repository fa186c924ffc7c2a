-- Bits, most significant first. A bit is 0 or 1, and a byte is eight of them.
use Rattle.std.specs.Prelude.{ℕ, zero, suc, ◌+◌, ◌*◌, ◌/◌, ◌%◌, ◌^◌, List, [], ◌∷◌, ◌++◌, take, drop}

-- the lowest w bits of a number
unfoldable pub bits_of : ℕ → ℕ → List ℕ
bits_of zero x = []
bits_of (suc w) x = (x / 2 ^ w % 2) ∷ bits_of w x

-- the bits of bytes, one byte after the other
unfoldable pub bits : List ℕ → List ℕ
bits [] = []
bits (b ∷ bs) = bits_of 8 b ++ bits bs

-- the number that bits say, after others that said a
unfoldable pub number_from : ℕ → List ℕ → ℕ
number_from a [] = a
number_from a (b ∷ bs) = number_from (a * 2 + b) bs

-- the number of w bits from bit p on
abbrev pub field_at : List ℕ → ℕ → ℕ → ℕ
field_at bs p w = number_from 0 (take w (drop p bs))

-- n bytes made of bits
unfoldable pub bytes_of : ℕ → List ℕ → List ℕ
bytes_of zero bs = []
bytes_of (suc n) bs = number_from 0 (take 8 bs) ∷ bytes_of n (drop 8 bs)
