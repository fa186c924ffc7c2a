-- What unpacking a file gives: the answer of its walk, and its row at the front of the buffer.
use Rattle.std.specs.Prelude.{ℕ, ◌≤◌, ◌≡◌, List, ◌++◌, length, drop}
use Rattle.scope.specs.Outcome.{Outcome, outcome_of}
use Rattle.scope.specs.Fields.{opening, edition_width}
use Rattle.scope.specs.Bits.{bits}
use Rattle.scope.specs.File.{walk_bits, row_of}
use Rattle.scope.specs.Limits.{longest_row}
use Rattle.forms.specs.declared.Unpacked.{Unpacked}

-- the walk over the fields of a file after its edition: where the last one ends, or refusal 2
abbrev pub walk_fields : List ℕ → Outcome
walk_fields file = walk_bits (length (bits file)) opening edition_width (bits file)

-- `walked` is what the walk gives. The file's row, as far as its fields go, is written to the front of the buffer, and no more
pub record Unpacks (file entry exit : List ℕ) (walked : Outcome) (r : Unpacked) : Type 0 where
  pub answer : outcome_of r.answer ≡ walked
  pub count : r.count ≡ length (row_of file)
  pub few : r.count ≤ longest_row
  pub row : exit ≡ row_of file ++ drop (length (row_of file)) entry
