-- The loops that pack a row: what is written so far and what is left are the whole row's bits.
use Prim.Native.Nat.{ℕ, suc, ◌+◌, ◌-◌, ◌*◌, ◌^◌, ◌≤◌, ◌<◌}
use mathlib.Core.Path.{◌≡◌, refl, sym, ◌∙◌, ap}
use mathlib.Core.Bool.{Bool, true, false, cond}
use mathlib.Core.List.{List, [], ◌∷◌, ◌++◌, append_assoc, append-nil}
use native.Mathlib.Numerals.{add-one}
use native.Mathlib.Omega.{arith}
use lib.ListN.{length, get_or, take, drop, replicate, length-append, drop_of_length-le}
use lib.Seq.{drop-cons, take_at, sets, sets-eq, length-take-le}
use lib.Dec.{eqb}
use Rattle.scope.specs.declared.Fields.{Fields}
use Rattle.scope.proofs.Outcomes.{not-both}
use Rattle.scope.specs.Outcome.{gives, refuse}
use Rattle.scope.specs.Fields.{width, step, opening, edition}
use Rattle.scope.specs.Row.{walk_from, walk_row}
use Rattle.scope.specs.Bits.{bits_of, bits, bytes_of}
use Rattle.scope.specs.File.{packed, row_bits, whole_bytes, file_of}
use Rattle.bits.proofs.Laws.{AreBytes, length-bits_of, length-bits, bytes_bits, bits_zero, length-bytes_of}
use Rattle.scope.specs.Limits.{longest_bits}
use Rattle.forms.specs.Pack.{Fitting, Packed}
use Rattle.grammar.proofs.Most.{wide_opening}
use Rattle.forms.proofs.Accepted.{Walks, next, walks, walks_wide}

-- an accepted row: its edition, and a walk over the rest
pub row_walks : (row : List ℕ) (n : ℕ) → walk_row row ≡ gives n → Walks opening (drop 1 row)
unfolding walk_row
row_walks [] n e = not-both e
row_walks (v ∷ vs) n e = by (eqb v edition) e
  where
    by : (t : Bool) → cond t (walk_from opening 1 vs) (refuse 1 0) ≡ gives n → Walks opening vs
    by true e = walks opening 1 n vs e
    by false e = not-both e

pub row_bits_most : (row : List ℕ) → Walks opening (drop 1 row) → length (row_bits row) ≤ longest_bits
row_bits_most row h =
    rw (length-append (bits_of 4 1) (packed opening (drop 1 row)), length-bits_of 4 1) (omega (arith, walks_wide h, wide_opening))

pub length-file : (row : List ℕ) → length (file_of row) ≡ whole_bytes (length (row_bits row))
unfolding file_of
length-file row = length-bytes_of (whole_bytes (length (row_bits row))) _

pub walks_head : {s : Fields} {v : ℕ} {vs : List ℕ} → Walks s (v ∷ vs) → (width s ≡ 0 → ⊥) × (v < 2 ^ width s) × Walks (step s v) vs
walks_head (next h l more) = (h, l, more)

-- the bits of the rest, one number on
pub rest-next : (row : List ℕ) (s : Fields) (i : ℕ) → i < length row →
    packed s (drop i row) ≡ bits_of (width s) (get_or row i 0) ++ packed (step s (get_or row i 0)) (drop (i + 1) row)
unfolding packed
rest-next row s i l =
    rw (drop-cons row i 0 l)
    (ap (λ (n : ℕ). bits_of (width s) (get_or row i 0) ++ packed (step s (get_or row i 0)) (drop n row)) (sym (add-one i)))

pub rest-none : (row : List ℕ) (s : Fields) (i : ℕ) → length row ≤ i → packed s (drop i row) ≡ []
unfolding packed
rest-none row s i l = rw (drop_of_length-le row l)

-- counting: so many bits so far, and those of the rest
abbrev pub Counts : List ℕ → Fields → ℕ → ℕ → Type 0
Counts row s p i = p + length (packed s (drop i row)) ≡ length (row_bits row)

pub counts-first : (row : List ℕ) (s : Fields) → s ≡ opening → Counts row s 4 1
counts-first row s e =
    rw e (sym (length-append (bits_of 4 1) (packed opening (drop 1 row)) ∙ ap (λ (n : ℕ). n + length (packed opening (drop 1 row)))
    (length-bits_of 4 1)))

pub counts-next : (row : List ℕ) (s t : Fields) (p i w v : ℕ) → Counts row s p i → i < length row → w ≡ width s → v ≡ get_or row i 0 →
    t ≡ step s v →
    Counts row t (p + w) (i + 1)
counts-next row s t p i w v h l is read leads =
    let e : length (packed s (drop i row)) ≡ width s + length (packed (step s (get_or row i 0)) (drop (i + 1) row)) =
    ap length (rest-next row s i l)
    ∙ length-append (bits_of (width s) (get_or row i 0)) (packed (step s (get_or row i 0)) (drop (i + 1) row))
    ∙ ap (λ (n : ℕ). n + length (packed (step s (get_or row i 0)) (drop (i + 1) row))) (length-bits_of (width s) (get_or row i 0)) in
    rw (leads, read, is) (omega arith)

pub counts-room : (row : List ℕ) (s : Fields) (p i : ℕ) → Counts row s p i → i < length row → p + width s ≤ length (row_bits row)
counts-room row s p i h l = omega (arith, counts-next row s (step s (get_or row i 0)) p i (width s) (get_or row i 0) h l refl refl refl)

pub counts-done : (row : List ℕ) (s : Fields) (p i : ℕ) → Counts row s p i → length row ≤ i → p ≡ length (row_bits row)
counts-done row s p i h l = let e : length (packed s (drop i row)) ≡ 0 = ap length (rest-none row s i l) in omega arith

-- writing: the loop stands at bit p of the file, with the numbers from index i on still to write
pub record OnPack (row file₀ file : List ℕ) (s : Fields) (p i : ℕ) : Type 0 where
  pub written : take p (bits file) ++ packed s (drop i row) ≡ row_bits row
  pub counts : Counts row s p i
  pub walks : Walks s (drop i row)
  pub long : length file ≡ length file₀
  pub fits : length (row_bits row) ≤ 8 * length file
  pub narrow : s.slot ≤ 16

-- bits put after the first p
put-after : (bs : List ℕ) (p w v : ℕ) → p + w ≤ length bs → take (p + w) (sets bs p (bits_of w v)) ≡ take p bs ++ bits_of w v
put-after bs p w v l =
    let long : length (bits_of w v) ≡ w = length-bits_of w v in
    let size : length (take p bs ++ bits_of w v) ≡ p + w =
    length-append (take p bs) (bits_of w v) ∙ ap (λ (n : ℕ). n + length (bits_of w v)) (length-take-le p bs (omega arith)) ∙
    ap (λ (n : ℕ). p + n) long in
    ap (take (p + w)) (sets-eq (bits_of w v) bs p (omega arith)) ∙
    take_at (take p bs ++ bits_of w v) (drop (p + length (bits_of w v)) bs) (p + w) size

pub edition-inside : (row file : List ℕ) → Fitting row file → 4 ≤ 8 * length file
edition-inside row file h = omega (arith, h.room, length-file row, counts-first row opening refl)

pub pack_first : (row file after : List ℕ) (s : Fields) → Fitting row file → length after ≡ length file →
    bits after ≡ sets (bits file) 0 (bits_of 4 1) →
    s ≡ opening → OnPack row after after s 4 1
pack_first row file after s h same put start =
    let walk : Walks opening (drop 1 row) = row_walks row (length row) h.complete in
    let size = length-file row in
    let count : Counts row opening 4 1 = counts-first row opening refl in
    let room : 0 + 4 ≤ length (bits file) = rw length-bits (omega (arith, edition-inside row file h)) in
    rw start
    (record {
      written = ap (λ (l : List ℕ). take 4 l ++ packed opening (drop 1 row)) put ∙
          ap (λ (l : List ℕ). l ++ packed opening (drop 1 row)) (put-after (bits file) 0 4 1 room);
      counts = count;
      walks = walk;
      long = refl;
      fits = omega (arith, h.room);
      narrow = omega arith;
    })

module _ (row file₀ file : List ℕ) (s : Fields) (p i : ℕ) (on : OnPack row file₀ file s p i) where
  pub head : i < length row → (width s ≡ 0 → ⊥) × (get_or row i 0 < 2 ^ width s) × Walks (step s (get_or row i 0)) (drop (suc i) row)
  head l = walks_head (rw (drop-cons row i 0 l) at on.walks)

  -- the next field lies within the file
  pub next-inside : i < length row → p + width s ≤ 8 * length file
  next-inside l = omega (arith, on.fits, counts-room row s p i on.counts l)

  pub packs_on : (after : List ℕ) (t : Fields) (w v : ℕ) → i < length row → w ≡ width s → v ≡ get_or row i 0 → length after ≡ length file →
      bits after ≡ sets (bits file) p (bits_of w v) → t ≡ step s v → OnPack row file₀ after t (p + w) (i + 1)
  packs_on after t w v l is read same put leads =
      let inside : p + w ≤ length (bits file) = rw (is, length-bits file) (next-inside l) in
      record {
        written =
            ap (λ (b : List ℕ). take (p + w) b ++ packed t (drop (i + 1) row)) put
            ∙ ap (λ (b : List ℕ). b ++ packed t (drop (i + 1) row)) (put-after (bits file) p w v inside)
            ∙ append_assoc (take p (bits file)) (bits_of w v) (packed t (drop (i + 1) row))
            ∙ rw (leads, read, is) (ap (λ (b : List ℕ). take p (bits file) ++ b) (sym (rest-next row s i l)) ∙ on.written);
        counts = counts-next row s t p i w v on.counts l is read leads;
        walks = rw (leads, read, add-one i) (head l).2;
        long = same ∙ on.long;
        fits = rw same on.fits;
        narrow = rw leads on.narrow;
      }

  pub packs_done : length row ≤ i → Packed row file p
  packs_done l =
      record {
        end = counts-done row s p i on.counts l;
        written = sym (append-nil (take p (bits file))) ∙ ap (λ (b : List ℕ). take p (bits file) ++ b) (sym (rest-none row s i l)) ∙
            on.written;
      }

-- the zero bits after the last field make the file whole
pub packs_whole : (row before after : List ℕ) (p : ℕ) → Packed row before p → length before ≡ length (file_of row) →
    length after ≡ length before → AreBytes after →
    bits after ≡ sets (bits before) p (bits_of (8 * length before - p) 0) → after ≡ file_of row
unfolding file_of
packs_whole row before after p h size same bytes put =
    let n = whole_bytes (length (row_bits row)) in
    let long : length before ≡ n = size ∙ length-file row in
    let k = 8 * length before - p in
    let end : p ≡ length (row_bits row) = h.end in
    let room : p + k ≡ length (bits before) = rw length-bits (omega arith) in
    let zero-length : length (bits_of k 0) ≡ k = length-bits_of k 0 in
    let none : drop (p + length (bits_of k 0)) (bits before) ≡ [] = drop_of_length-le (bits before) {i = p + length (bits_of k 0)}
    (omega arith) in
    let k-is : k ≡ 8 * n - length (row_bits row) = omega arith in
    let whole : bits after ≡ row_bits row ++ replicate (8 * n - length (row_bits row)) 0 =
    put ∙ sets-eq (bits_of k 0) (bits before) p (omega arith)
    ∙ ap (λ (l : List ℕ). take p (bits before) ++ bits_of k 0 ++ l) none
    ∙ append-nil (take p (bits before) ++ bits_of k 0)
    ∙ ap (λ (l : List ℕ). l ++ bits_of k 0) h.written
    ∙ ap (λ (l : List ℕ). row_bits row ++ l) (bits_zero k ∙ ap (λ (m : ℕ). replicate m 0) k-is) in
    sym (bytes_bits after bytes)
    ∙ ap (λ (l : List ℕ). bytes_of (length after) l) whole
    ∙ ap (λ (m : ℕ). bytes_of m (row_bits row ++ replicate (8 * n - length (row_bits row)) 0)) (same ∙ long)
