-- Laws of a row as a line of decimals: what is left of it at an index, and how long it is.
use Prim.Native.Nat.{ℕ, ◌+◌, ◌*◌, ◌^◌, ◌≤◌, ◌<◌}
use mathlib.Core.Path.{◌≡◌, sym, ap}
use mathlib.Core.List.{List, [], ◌∷◌, ◌++◌}
use native.Mathlib.Omega.{arith}
use native.Mathlib.Numerals.{add-one}
use lib.ListN.{length, get_or, drop, length-append, drop_of_length-le}
use lib.Seq.{drop-cons}
use Rattle.scope.specs.Lines.{decimal}
use Rattle.text.specs.Text.{Told}
use Rattle.text.proofs.Decimal.{decimal-all}
use Rattle.row_text.specs.Rows.{mark, row_line}

-- what is left of a row at an index
pub drop_more : (row : List ℕ) (i : ℕ) → i < length row → drop i row ≡ get_or row i 0 ∷ drop (i + 1) row
drop_more row i h = rw (add-one, drop-cons row i 0)

pub mark-more : (row : List ℕ) (i : ℕ) → i + 1 < length row → 32 ≡ mark (drop (i + 1) row)
mark-more row i h = ap mark (sym (drop_more row (i + 1) h))

pub line-more : (row : List ℕ) (i n m : ℕ) → i < length row → n ≡ get_or row i 0 → m ≡ mark (drop (i + 1) row) →
    row_line (drop i row) ≡ (decimal n ++ (m ∷ [])) ++ row_line (drop (i + 1) row)
unfolding row_line
line-more row i n m h p q = rw (drop_more row i h, p, q)

pub line-done : (row : List ℕ) (i : ℕ) → length row ≤ i → row_line (drop i row) ≡ []
unfolding row_line
line-done row i h = rw (drop_of_length-le row h)

line-size : (row : List ℕ) → length (row_line row) ≤ 21 * length row
unfolding row_line
line-size [] = omega arith
line-size (n ∷ row) =
    let rest = line-size row in
    let d = decimal-all n in
    let a = length-append (decimal n ++ (mark row ∷ [])) (row_line row) in
    let b = length-append (decimal n) (mark row ∷ []) in
    omega arith

pub line-told : (row : List ℕ) → length row < 2 ^ 32 → Told 0 (row_line row)
line-told row h = let s = line-size row in record { fits = omega arith }
