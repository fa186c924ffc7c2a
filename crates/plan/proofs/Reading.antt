-- What a caller of `plan::read_file` and `plan::write_file` learns: the outcome, that the front of the buffer is the row, that the row is
-- good, and that what was written lies in the buffer.
use Prim.Native.Nat.{ℕ, ◌≤◌}
use mathlib.Core.Path.{◌≡◌, refl, sym, ◌∙◌, ap, subst}
use mathlib.Core.Bool.{Bool, true, false, cond}
use mathlib.Core.List.{List, ◌++◌}
use native.Mathlib.Omega.{arith}
use lib.ListN.{length, take, drop, length-append}
use lib.Seq.{take_at, length-take-le}
use lib.Dec.{leb}
use borrow.Author.Tests.{leb-true}
use Rattle.scope.specs.Outcome.{Answer}
use Rattle.std.specs.Prelude.{Ok, Err}
use Rattle.scope.specs.declared.Refusal.{Refusal}
use Rattle.scope.proofs.Outcomes.{not-both}
use Rattle.scope.specs.Outcome.{Outcome, number, gives, refused, refuse, and_then, room}
use Rattle.scope.specs.File.{walk_file, row_of, file_of}
use Rattle.scope.specs.Plan.{plan_of}
use Rattle.scope.specs.Rules.{rules}
use Rattle.scope.specs.Questions.{after, judge, read_file, write_file}
use Rattle.forms.proofs.Theorems.{file-row}
use Rattle.plan.specs.Answers.{GoodRow, Reads, Writes}
use Rattle.plan.proofs.Outcomes.{then-back}
use Rattle.plan.proofs.Ways.{gave, refused_as, good-row}

room_back : (needed lent n : ℕ) → room needed lent ≡ gives n → (n ≡ needed) × (needed ≤ lent)
room_back needed lent n e = by (leb needed lent) refl e
  where
    by : (t : Bool) → leb needed lent ≡ t → cond t (gives needed) (refuse 13 needed) ≡ gives n → (n ≡ needed) × (needed ≤ lent)
    by true l e = (cc, leb-true needed lent l)
    by false l e = not-both e

-- how many numbers the row has, and that there is room for them
pub read-room : (file : List ℕ) (lent n : ℕ) → read_file file lent ≡ gives n → (n ≡ length (row_of file)) × (length (row_of file) ≤ lent)
unfolding read_file
read-room file lent n e =
    let w = then-back (walk_file file) (λ _. and_then (rules (plan_of (row_of file))) (λ _. room (length (row_of file)) lent)) n e in
    let r = then-back (rules (plan_of (row_of file))) (λ _. room (length (row_of file)) lent) n w.2 in
    room_back (length (row_of file)) lent n r.2

-- and that it is good
pub read-judged : (file : List ℕ) (lent n : ℕ) → read_file file lent ≡ gives n → judge (row_of file) ≡ gives (length (row_of file))
unfolding read_file judge
read-judged file lent n e =
    let w = then-back (walk_file file) (λ _. and_then (rules (plan_of (row_of file))) (λ _. room (length (row_of file)) lent)) n e in
    let r = then-back (rules (plan_of (row_of file))) (λ _. room (length (row_of file)) lent) n w.2 in
    rw (file-row file w.0 w.1, r.1)

pub read-good : (file row : List ℕ) (lent n : ℕ) → read_file file lent ≡ gives n → row ≡ row_of file → GoodRow row
read-good file row lent n e is = subst GoodRow (sym is) (good-row (row_of file) (length (row_of file)) (read-judged file lent n e))

-- a file that was read
module _ (file entry exit : List ℕ) (a : Answer) (h : Reads file entry exit a) where
  pub read_given : (lent n : ℕ) → length entry ≡ lent → a ≡ Ok n → read_file file lent ≡ gives n
  read_given lent n l e = ap (read_file file) (sym l) ∙ gave n e h.answer

  pub read-refused : (lent : ℕ) (r : Refusal) → length entry ≡ lent → a ≡ Err r → read_file file lent ≡ refused r
  read-refused lent r l e = ap (read_file file) (sym l) ∙ refused_as r e h.answer

  module _ (n : ℕ) (e : a ≡ Ok n) where
    written : exit ≡ row_of file ++ drop (length (row_of file)) entry
    unfolding after
    written = h.buffer ∙ ap (λ (o : Outcome). after o (row_of file) entry) (gave n e h.answer)

    count : n ≡ length (row_of file)
    count = (read-room file (length entry) n (gave n e h.answer)).0

    pub read-row : take n exit ≡ row_of file
    read-row = ap (take n) written ∙ take_at (row_of file) (drop (length (row_of file)) entry) n (sym count)

    pub read-known : number (judge (take n exit)) ≡ 0
    read-known = ap (λ (row : List ℕ). number (judge row)) read-row ∙ ap number (read-judged file (length entry) n (gave n e h.answer))

    pub read-fit : n ≤ length exit
    read-fit = omega (arith, simp length-append at (ap length written), count)

    pub read-long : n ≡ length (take n exit)
    read-long = sym (length-take-le n exit read-fit)

-- a row that was written
write_room : (row : List ℕ) (lent n : ℕ) → write_file row lent ≡ gives n → n ≡ length (file_of row)
unfolding write_file
write_room row lent n e =
    let w = then-back (judge row) (λ _. room (length (file_of row)) lent) n e in
    (room_back (length (file_of row)) lent n w.2).0

pub write_fit : (row entry exit : List ℕ) (a : Answer) → Writes row entry exit a → (n : ℕ) → a ≡ Ok n → n ≤ length exit
unfolding after
write_fit row entry exit a h n e =
    let o : write_file row (length entry) ≡ gives n = gave n e h.answer in
    let is : exit ≡ file_of row ++ drop (length (file_of row)) entry = h.buffer ∙ ap (λ (o : Outcome). after o (file_of row) entry) o in
    omega (arith, simp length-append at (ap length is), write_room row (length entry) n o)
