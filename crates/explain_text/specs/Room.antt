-- Bytes enough for every text of the program `explain`: the longest listing behind a line of two pairs, and a refusal.
use Rattle.std.specs.Prelude.{ℕ}

abbrev pub explain_room : ℕ
explain_room = 36954
