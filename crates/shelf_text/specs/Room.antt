-- Bytes enough for every sheet: 250 lines of at most 354 bytes, and the sums.
use Rattle.std.specs.Prelude.{ℕ}

abbrev pub sheet_room : ℕ
sheet_room = 88752
