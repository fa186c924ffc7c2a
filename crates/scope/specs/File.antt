-- What a file of bytes says: its fields, refusals 1, 2 and 4, and the file of a row.
use Rattle.std.specs.Prelude.{ℕ, zero, suc, ◌+◌, ◌-◌, ◌*◌, ◌/◌, Bool, true, cond, ◌&&◌, List, [], ◌∷◌, ◌++◌, length, drop, replicate, ltb, leb, eqb}
use Rattle.scope.specs.declared.Fields.{Fields}
use Rattle.scope.specs.Outcome.{Outcome, gives, refuse, and_then}
use Rattle.scope.specs.Fields.{width, step, opening, edition, edition_width}
use Rattle.scope.specs.Bits.{bits, bits_of, bytes_of, field_at}

-- where the last field ends, reading from bit p on, or refusal 2: "input ends inside or before a field", where that field starts.
-- A field has at least one bit, so as many turns as there are bits are enough
unfoldable pub walk_bits : ℕ → Fields → ℕ → List ℕ → Outcome
walk_bits zero s p bs = cond (eqb (width s) 0) (gives p) (refuse 2 p)
walk_bits (suc n) s p bs =
    cond (eqb (width s) 0) (gives p)
    (cond (leb (p + width s) (length bs))
    (walk_bits n (step s (field_at bs p (width s))) (p + width s) bs)
    (refuse 2 p))

-- the numbers in the fields from bit p on
unfoldable pub fields_of : ℕ → Fields → ℕ → List ℕ → List ℕ
fields_of zero s p bs = []
fields_of (suc n) s p bs =
    cond (eqb (width s) 0) []
    (cond (leb (p + width s) (length bs))
    (field_at bs p (width s) ∷ fields_of n (step s (field_at bs p (width s))) (p + width s) bs)
    [])

-- every bit of the list is 0
unfoldable pub zeros : List ℕ → Bool
zeros [] = true
zeros (b ∷ bs) = eqb b 0 && zeros bs

-- "zero bits up to the next whole byte, and nothing after"; else refusal 4, "end of the last field, in bits"
unfoldable pub ends_at : List ℕ → ℕ → Outcome
ends_at bs end = cond (ltb (length bs) (end + 8) && zeros (drop end bs)) (gives end) (refuse 4 end)

-- refusals 1, 2 and 4 of a file, or where its last field ends
unfoldable pub walk_file : List ℕ → Outcome
walk_file file =
    cond (ltb (length (bits file)) edition_width) (refuse 2 0)
    (cond (eqb (field_at (bits file) 0 edition_width) edition)
    (and_then (walk_bits (length (bits file)) opening edition_width (bits file)) (ends_at (bits file)))
    (refuse 1 0))

-- "The same fields in the same order, one 16-bit number a field and no fill, make the plan's row": the row of a file
unfoldable pub row_of : List ℕ → List ℕ
row_of file = edition ∷ fields_of (length (bits file)) opening edition_width (bits file)

-- the bits of the fields that a row has after its edition
unfoldable pub packed : Fields → List ℕ → List ℕ
packed s [] = []
packed s (v ∷ vs) = bits_of (width s) v ++ packed (step s v) vs

-- the bits of a row, the edition's first
abbrev pub row_bits : List ℕ → List ℕ
row_bits row = bits_of edition_width edition ++ packed opening (drop 1 row)

-- how many bytes hold that many bits
abbrev pub whole_bytes : ℕ → ℕ
whole_bytes n = (n + 7) / 8

-- the file of a row: its bits, and zero bits up to the next whole byte
unfoldable pub file_of : List ℕ → List ℕ
file_of row =
    bytes_of (whole_bytes (length (row_bits row)))
    (row_bits row ++ replicate (8 * whole_bytes (length (row_bits row)) - length (row_bits row)) 0)
