-- What holds of files and rows, for any row and any file of bytes: they give each other, each is accepted where the other is, and how
-- long they can be.
use Prim.Native.Nat.{ℕ, ◌+◌, ◌≤◌, ◌<◌}
use mathlib.Core.Path.{◌≡◌, sym, ◌∙◌, ap}
use mathlib.Core.List.{List}
use lib.ListN.{length, get_or, take, drop}
use lib.Seq.{take_at}
use Rattle.scope.specs.Outcome.{Outcome, gives}
use Rattle.scope.specs.Row.{walk_row}
use Rattle.scope.specs.File.{walk_file, row_of, row_bits, file_of}
use Rattle.bits.proofs.Laws.{AreBytes}
use Rattle.scope.specs.Limits.{longest_row, longest_file}
use Rattle.forms.specs.declared.Unpacked.{Unpacked}
use Rattle.forms.specs.Unpack.{Unpacks}
use Rattle.forms.proofs.Round as round
use Rattle.forms.proofs.Front as front

-- an accepted file is the file of its row
pub file_row_file : (file : List ℕ) (end : ℕ) → walk_file file ≡ gives end → AreBytes file → file_of (row_of file) ≡ file
file_row_file = round.file_row_file

-- and its row is accepted
pub file-row : (file : List ℕ) (end : ℕ) → walk_file file ≡ gives end → walk_row (row_of file) ≡ gives (length (row_of file))
file-row = round.file-row

-- an accepted row is the row of its file
pub row_file_row : (row : List ℕ) (n : ℕ) → walk_row row ≡ gives n → row_of (file_of row) ≡ row
row_file_row = round.row_file_row

-- and its file is accepted: its last field ends after the row's bits
pub row-file : (row : List ℕ) (n : ℕ) → walk_row row ≡ gives n → walk_file (file_of row) ≡ gives (length (row_bits row))
row-file = round.row-file

-- the answer for a row is how many numbers it has
pub row_count : (row : List ℕ) (n : ℕ) → walk_row row ≡ gives n → n ≡ length row
row_count = round.row_count

-- "The longest file is 7,348 bytes"; "the plan's row, at most 10,405 numbers", of 16 bits each
pub row-most : (row : List ℕ) (n : ℕ) → walk_row row ≡ gives n → length row ≤ longest_row
row-most = round.row-most

pub row_file_most : (row : List ℕ) (n : ℕ) → walk_row row ≡ gives n → length (file_of row) ≤ longest_file
row_file_most = round.row_file_most

pub row_small : (row : List ℕ) (n : ℕ) → walk_row row ≡ gives n → (i : ℕ) → get_or row i 0 < 65536
row_small = round.row_small

pub file-most : (file : List ℕ) (end : ℕ) → walk_file file ≡ gives end → length file ≤ longest_file
file-most = round.file-most

-- of a longer file, one byte more than that is enough to read
pub front_decides : (file : List ℕ) → longest_file < length file → walk_file (take (longest_file + 1) file) ≡ walk_file file
front_decides = front.front_decides

-- what `forms::unpack` leaves at the front of the buffer is the file's row
pub unpacked_row : (file entry exit : List ℕ) (walked : Outcome) (r : Unpacked) → Unpacks file entry exit walked r →
    take r.count exit ≡ row_of file
unpacked_row file entry exit walked r h =
    ap (take r.count) h.row ∙ take_at (row_of file) (drop (length (row_of file)) entry) r.count (sym h.count)
