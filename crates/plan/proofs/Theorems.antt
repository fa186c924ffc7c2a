-- The file half of demand 2, on the questions as they are asked: accepted files, read and written back, are the same bytes, and good
-- rows, written and read back, the same numbers. And demand 1: what is allowed of a call is one outcome.
use Prim.Native.Nat.{ℕ, ◌≤◌}
use mathlib.Core.Path.{◌≡◌, sym, ◌∙◌}
use mathlib.Core.List.{List}
use native.Mathlib.Omega.{arith}
use lib.ListN.{length}
use Rattle.scope.specs.Outcome.{Answer}
use Rattle.scope.specs.Outcome.{outcome_of, gives, and_then, room}
use Rattle.scope.specs.File.{walk_file, row_of, file_of}
use Rattle.scope.specs.Plan.{plan_of}
use Rattle.scope.specs.Rules.{rules}
use Rattle.scope.specs.Questions.{judge, read_file, write_file}
use Rattle.bits.proofs.Laws.{AreBytes}
use Rattle.scope.specs.Limits.{longest_row, longest_file}
use Rattle.forms.proofs.Theorems.{file_row_file, file-row, row_file_row, row-file, file-most, row-most, row_file_most}
use Rattle.plan.specs.Answers.{GoodRow, Reads, Writes}
use Rattle.scope.proofs.Outcomes.{same_answer}
use Rattle.scope.proofs.Rules.{rules_give}
use Rattle.plan.proofs.Outcomes.{then-back, room-there, only_one}
use Rattle.plan.proofs.Ways.{good-row}

-- what reading a file gives, taken apart: its form is right, and its row is good
accepted_file : (file : List ℕ) (lent n : ℕ) → read_file file lent ≡ gives n → (end : ℕ) × (walk_file file ≡ gives end) × GoodRow (row_of file)
unfolding read_file
accepted_file file lent n e =
    let w = then-back (walk_file file) (λ _. and_then (rules (plan_of (row_of file))) (λ _. room (length (row_of file)) lent)) n e in
    let r = then-back (rules (plan_of (row_of file))) (λ _. room (length (row_of file)) lent) n w.2 in
    (w.0, w.1, record { form = file-row file w.0 w.1; keeps = rules_give (plan_of (row_of file)) r.0 r.1 })

pub judged : (row : List ℕ) → GoodRow row → judge row ≡ gives (length row)
unfolding judge
judged row g = rw (g.form, g.keeps)

-- an accepted file, read and written back: the row is good, its file is the same bytes, and writing it gives as many
pub file-back : (file : List ℕ) (lent n : ℕ) → AreBytes file → read_file file lent ≡ gives n →
    (file_of (row_of file) ≡ file) × (write_file (row_of file) (length file) ≡ gives (length file)) × (length file ≤ longest_file)
unfolding write_file
file-back file lent n bytes e =
    let a = accepted_file file lent n e in
    let same : file_of (row_of file) ≡ file = file_row_file file a.0 a.1 bytes in
    (same, rw (judged (row_of file) a.2, same) (room-there (length file) (length file) (omega arith)), file-most file a.0 a.1)

-- a good row, written and read back: its file is accepted, and its row is the same numbers
pub row_back : (row : List ℕ) (n : ℕ) → judge row ≡ gives n →
    (row_of (file_of row) ≡ row) × (read_file (file_of row) (length row) ≡ gives (length row)) × (length row ≤ longest_row) ×
    (length (file_of row) ≤ longest_file)
unfolding read_file
row_back row n e =
    let g = good-row row n e in
    let same : row_of (file_of row) ≡ row = row_file_row row (length row) g.form in (
      same,
      rw (row-file row (length row) g.form, same, g.keeps) (room-there (length row) (length row) (omega arith)),
      row-most row (length row) g.form,
      row_file_most row (length row) g.form,
    )

-- two outcomes that a promise of this crate allows are equal
pub one_judgement : (row : List ℕ) (a b : Answer) → outcome_of a ≡ judge row → outcome_of b ≡ judge row → a ≡ b
one_judgement row a b h g = same_answer a b (h ∙ sym g)

pub one_reading : (file entry exit exit' : List ℕ) (a b : Answer) → Reads file entry exit a → Reads file entry exit' b →
    (a ≡ b) × (exit ≡ exit')
one_reading file entry exit exit' a b h g = only_one _ _ entry exit exit' a b h g

pub one_writing : (row entry exit exit' : List ℕ) (a b : Answer) → Writes row entry exit a → Writes row entry exit' b → (a ≡ b) × (exit ≡ exit')
one_writing row entry exit exit' a b h g = only_one _ _ entry exit exit' a b h g
