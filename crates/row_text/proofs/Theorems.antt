-- What holds of a row as text: what is printed of a row says the row, it has room in `ROOM` bytes, and a call allows one outcome.
use Prim.Native.Nat.{ℕ, suc, ◌*◌, ◌≤◌, ◌<◌}
use mathlib.Core.Path.{◌≡◌, refl, sym, ◌∙◌, ap}
use mathlib.Core.Bool.{true, false}
use mathlib.Core.List.{List, [], ◌∷◌, ◌++◌, append_assoc}
use native.Mathlib.Omega.{arith}
use lib.ListN.{length, get_or, take, length-append}
use Rattle.scope.specs.Outcome.{Answer}
use Rattle.scope.specs.Outcome.{Outcome, gives, refused}
use Rattle.scope.specs.File.{row_of}
use Rattle.scope.specs.Questions.{read_file}
use Rattle.scope.specs.Limits.{longest_row, plan_room}
use Rattle.scope.specs.Lines.{decimal}
use Rattle.text.proofs.Decimal.{decimal-most}
use Rattle.text.proofs.Read.{number_along}
use Rattle.listing.proofs.Lines.{refused-size}
use Rattle.listing.specs.Prints.{Says, Front}
use Rattle.listing.proofs.Printing.{says-only}
use Rattle.listing.proofs.Fronts.{from_front}
use Rattle.forms.proofs.Theorems.{row_small}
use Rattle.plan.specs.Answers.{Writes}
use Rattle.plan.proofs.Reading.{read-room, read-good}
use Rattle.plan.proofs.Theorems.{one_writing}
use Rattle.row_text.specs.Rows.{mark, row_line, row_text, row_text_room, numbers_from, numbers_of}
use Rattle.row_text.proofs.Words.{from_digit}
use Rattle.row_text.proofs.Ways.{text-refused, text_given}

-- every number of a row has 16 bits
abbrev pub Small : List ℕ → Type 0
Small row = (i : ℕ) → get_or row i 0 < 65536

-- a number of 16 bits in decimal is read as that number
number_read : (n : ℕ) (s : List ℕ) → n < 65536 → numbers_from false 0 (decimal n ++ s) ≡ numbers_from true n s
number_read n s l = number_along 65535 numbers_from from_digit n s (omega arith) (omega arith)

mark-read : (n : ℕ) (row s : List ℕ) → numbers_from true n (mark row ∷ s) ≡ n ∷ numbers_from false 0 s
unfolding numbers_from
mark-read n [] s = refl
mark-read n (m ∷ row) s = refl

-- what is printed of a row says the row
pub row_back : (row : List ℕ) → Small row → numbers_of (row_line row) ≡ row
unfolding numbers_from row_line
row_back [] small = refl
row_back (n ∷ row) small =
    ap (numbers_from false 0) (append_assoc (decimal n) (mark row ∷ []) (row_line row))
    ∙ number_read n (mark row ∷ row_line row) (small 0)
    ∙ mark-read n row (row_line row)
    ∙ ap (λ (t : List ℕ). n ∷ t) (row_back row (λ i. small (suc i)))

-- and has at most six bytes a number
line-room : (row : List ℕ) → Small row → length (row_line row) ≤ 6 * length row
unfolding row_line
line-room [] small = omega arith
line-room (n ∷ row) small =
    let rest = line-room row (λ i. small (suc i)) in
    let d = decimal-most n 4 (let l = small 0 in omega arith) in
    let a = length-append (decimal n ++ (mark row ∷ [])) (row_line row) in
    let b = length-append (decimal n) (mark row ∷ []) in
    omega arith

-- so the text of every plan file has room in `ROOM` bytes
pub text-room : (file : List ℕ) → length (row_text file) ≤ row_text_room
text-room file = by (read_file file longest_row) refl
  where
    by : (o : Outcome) → read_file file longest_row ≡ o → length (row_text file) ≤ row_text_room
    by (gives n) e =
        let g = read-good file (row_of file) longest_row n e refl in
        let few = (read-room file longest_row n e).1 in
        let l = line-room (row_of file) (row_small (row_of file) (length (row_of file)) g.form) in
        omega (arith, ap length (text_given file (row_of file) n e refl))
    by (refused r) e = omega (arith, refused-size r, ap length (text-refused file r e))

-- and what the program has read of a file prints what the file prints
pub front : (plan file : List ℕ) (p : ℕ) → length plan ≡ plan_room → Front plan p file → row_text (take p plan) ≡ row_text file
front plan file p l f =
    let is : take p plan ≡ take plan_room file = f ∙ ap (λ (n : ℕ). take n file) l in
    ap row_text is
    ∙ from_front (λ (whole : List ℕ). row_text (take plan_room file) ≡ row_text whole) file
    (λ r front whole _. text-refused (take plan_room file) r front ∙ sym (text-refused file r whole)) refl

-- two outcomes that a promise of this crate allows are equal
pub one_text : (file entry exit exit' : List ℕ) (r r' : Answer) → Says (read_file file longest_row) (row_text file) entry exit r →
    Says (read_file file longest_row) (row_text file) entry exit' r' → (r ≡ r') × (exit ≡ exit')
one_text file entry exit exit' r r' p q = says-only p q

pub one_packing : (text entry exit exit' : List ℕ) (r r' : Answer) →
    Writes (numbers_of text) entry exit r → Writes (numbers_of text) entry exit' r' → (r ≡ r') × (exit ≡ exit')
one_packing text entry exit exit' r r' p q = one_writing (numbers_of text) entry exit exit' r r' p q
