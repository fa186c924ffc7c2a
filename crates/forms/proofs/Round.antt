-- Files and rows give each other: an accepted file is the file of its row, an accepted row is the row of its file, and each is accepted
-- where the other is. How long they can be.
use Prim.Native.Nat.{ℕ, zero, suc, ◌+◌, ◌-◌, ◌*◌, ◌≤◌, ◌<◌}
use mathlib.Core.Path.{◌≡◌, refl, sym, ◌∙◌, ap}
use mathlib.Core.Bool.{Bool, true, false, cond, ◌&&◌}
use mathlib.Core.List.{List, [], ◌∷◌, ◌++◌, append_assoc, append-nil}
use native.Mathlib.Omega.{arith}
use lib.ListN.{length, get_or, take, drop, replicate, length-append, length-replicate, length-drop, take-append-drop}
use lib.Seq.{take-add, take_at, drop_at, drop-drop, length-take-le}
use lib.Dec.{ltb, eqb}
use borrow.Author.Tests.{eqb-true, ltb-true, ltb-false, lt-ltb}
use Rattle.scope.specs.declared.Fields.{Fields}
use Rattle.scope.proofs.Outcomes.{not-both}
use Rattle.scope.specs.Outcome.{Outcome, gives, refused, refuse, and_then}
use Rattle.scope.specs.Fields.{width, step, opening, edition}
use Rattle.scope.specs.Row.{walk_from, walk_row}
use Rattle.scope.specs.Bits.{bits_of, bits, field_at, number_from, bytes_of}
use Rattle.scope.specs.File.{walk_bits, fields_of, zeros, ends_at, walk_file, row_of, packed, row_bits, whole_bytes, file_of}
use Rattle.bits.proofs.Laws.{AreBits, AreBytes, length-bits_of, length-bits, are-bits, are-bits_of, are-append, field_bits, number-bits_of}
use Rattle.bits.proofs.Laws.{bytes_bits, bits-bytes}
use Rattle.scope.specs.Limits.{longest_row, longest_file}
use Rattle.grammar.proofs.Most.{numbers-opening, wide_opening}
use Rattle.forms.proofs.Walk.{bits-end, bits-step, fields_end, fields_step}
use Rattle.forms.proofs.Tail.{and_split, zeros-are}
use Rattle.forms.proofs.Accepted.{Walks, done, next, walks_back, walks_numbers, walks_turns, walks_small, Goes, stop, on, goes}
use Rattle.forms.proofs.Accepted.{goes-inside, goes-bound, goes_walks, same_end}
use Rattle.forms.proofs.Whole.{file_opens}
use Rattle.forms.proofs.Packing.{row_walks, row_bits_most, length-file}

-- what an accepted file has
pub record Accepts (file : List ℕ) (end : ℕ) : Type 0 where
  pub some : length file ≡ 0 → ⊥
  pub first : field_at (bits file) 0 4 ≡ edition
  pub way : Goes (bits file) end (length (bits file)) opening 4
  pub last : length (bits file) < end + 8
  pub fill : zeros (drop end (bits file)) ≡ true

pub ends-are : (bs : List ℕ) (e end : ℕ) → ends_at bs e ≡ gives end → (e ≡ end) × (length bs < e + 8) × (zeros (drop e bs) ≡ true)
unfolding ends_at
ends-are bs e end h = by (ltb (length bs) (e + 8) && zeros (drop e bs)) refl h
  where
    by : (t : Bool) → (ltb (length bs) (e + 8) && zeros (drop e bs)) ≡ t → cond t (gives e) (refuse 4 e) ≡ gives end →
        (e ≡ end) × (length bs < e + 8) × (zeros (drop e bs) ≡ true)
    by true t h = let both = and_split (ltb (length bs) (e + 8)) (zeros (drop e bs)) t in
        (same_end e end h, ltb-true (length bs) (e + 8) both.0, both.1)
    by false t h = not-both h

pub accepts : (file : List ℕ) (end : ℕ) → walk_file file ≡ gives end → Accepts file end
unfolding walk_file
accepts file end e = by (ltb (length (bits file)) 4) refl (eqb (field_at (bits file) 0 4) edition) refl e
  where
    all : length (bits file) ≡ 8 * length file
    all = length-bits file

    walked : (o : Outcome) → 4 ≤ length (bits file) → field_at (bits file) 0 4 ≡ edition →
        walk_bits (length (bits file)) opening 4 (bits file) ≡ o →
        and_then o (ends_at (bits file)) ≡ gives end → Accepts file end
    walked (gives m) l f w e =
        let are = ends-are (bits file) m end e in
        record {
          some = λ z. omega (arith, all);
          first = f;
          way = goes (bits file) end (length (bits file)) opening 4 (w ∙ ap gives are.0);
          last = omega (arith, are.0, are.1);
          fill = rw are.0 at are.2;
        }
    walked (refused r) l f w e = not-both e

    by : (t : Bool) → ltb (length (bits file)) 4 ≡ t → (u : Bool) → eqb (field_at (bits file) 0 4) edition ≡ u →
        cond t (refuse 2 0) (cond u (and_then (walk_bits (length (bits file)) opening 4 (bits file)) (ends_at (bits file))) (refuse 1 0)) ≡ gives
        end →
        Accepts file end
    by true t u v e = not-both e
    by false t true v e =
        walked (walk_bits (length (bits file)) opening 4 (bits file)) (ltb-false (length (bits file)) 4 t)
        (eqb-true (field_at (bits file) 0 4) edition v) refl e
    by false t false v e = not-both e

-- the fields of the bits, packed again, are those bits
goes-packed : {bs : List ℕ} {end n : ℕ} {s : Fields} {p : ℕ} → AreBits bs → Goes bs end n s p →
    take p bs ++ packed s (fields_of n s p bs) ≡ take end bs
unfolding packed
goes-packed {bs} {n = n} {s = s} {p = p} b (stop z e) = rw (fields_end bs s p n z, e) (append-nil _)
goes-packed {bs} {end} {s = s} {p = p} b (on {n = n} h l more) =
    let v = field_at bs p (width s) in
    let rest = packed (step s v) (fields_of n (step s v) (p + width s) bs) in
    rw (fields_step bs s p n h l, field_bits bs p (width s) b l)
    (sym (append_assoc (take p bs) (take (width s) (drop p bs)) rest)
    ∙ ap (λ (t : List ℕ). t ++ rest) (sym (take-add p (width s) bs))
    ∙ goes-packed b more)

module _ (file : List ℕ) (end : ℕ) (walked : walk_file file ≡ gives end) where
  ok : Accepts file end
  ok = accepts file end walked

  all : length (bits file) ≡ 8 * length file
  all = length-bits file

  inside : end ≤ length (bits file)
  inside = goes-inside ok.way (omega (arith, all, ok.some))

  row-bits : row_bits (row_of file) ≡ take end (bits file)
  unfolding row_of
  row-bits =
      let four : 0 + 4 ≤ length (bits file) = omega (arith, all, ok.some) in
      let front : bits_of 4 1 ≡ take 4 (bits file) = ap (bits_of 4) (sym ok.first) ∙ field_bits (bits file) 0 4 (are-bits file) four in
      rw front (goes-packed (are-bits file) ok.way)

  -- an accepted file's row is accepted
  pub file-row : walk_row (row_of file) ≡ gives (length (row_of file))
  unfolding walk_row row_of
  file-row = walks_back 1 (goes_walks (are-bits file) ok.way) ∙ ap gives (omega arith)

  -- an accepted file is its row's file
  pub file_row_file : AreBytes file → file_of (row_of file) ≡ file
  unfolding file_of
  file_row_file bytes =
      let row = row_of file in
      let size : length (row_bits row) ≡ end = ap length row-bits ∙ length-take-le end (bits file) inside in
      let n : whole_bytes (length (row_bits row)) ≡ length file = omega (arith, all, inside, ok.last) in
      let left : 8 * whole_bytes (length (row_bits row)) - length (row_bits row) ≡ length (drop end (bits file)) =
      rw (n, size, length-drop end (bits file), all) in
      let zero_bits : replicate (8 * whole_bytes (length (row_bits row)) - length (row_bits row)) 0 ≡ drop end (bits file) =
      ap (λ (m : ℕ). replicate m 0) left ∙ sym (zeros-are (drop end (bits file)) ok.fill) in
      ap (λ (l : List ℕ). bytes_of (whole_bytes (length (row_bits row))) (row_bits row ++ l)) zero_bits
      ∙ ap (λ (l : List ℕ). bytes_of (whole_bytes (length (row_bits row))) (l ++ drop end (bits file))) row-bits
      ∙ ap (λ (l : List ℕ). bytes_of (whole_bytes (length (row_bits row))) l) (take-append-drop end (bits file))
      ∙ ap (λ (m : ℕ). bytes_of m (bits file)) n
      ∙ bytes_bits file bytes

  -- no accepted file is longer
  pub file-most : length file ≤ longest_file
  file-most = omega (arith, all, ok.last, goes-bound (are-bits file) ok.way, wide_opening)

-- a walk over the fields of packed numbers gives them back
walks_goes : {s : Fields} {vs : List ℕ} (bs rest : List ℕ) (p m : ℕ) → Walks s vs → drop p bs ≡ packed s vs ++ rest → length vs ≤ m →
    (walk_bits m s p bs ≡ gives (p + length (packed s vs))) × (fields_of m s p bs ≡ vs)
unfolding packed
walks_goes {s} bs rest p m (done z) e l = (bits-end bs s p m z ∙ ap gives (omega arith), fields_end bs s p m z)
walks_goes bs rest p zero (next h small more) e l = absurd (omega arith)
walks_goes {s} bs rest p (suc m) (next {v = v} {vs = vs} h small more) e l =
    let w = width s in
    let after = packed (step s v) vs in
    let is : drop p bs ≡ bits_of w v ++ (after ++ rest) = e ∙ append_assoc (bits_of w v) after rest in
    let field : field_at bs p w ≡ v =
    ap (λ (t : List ℕ). number_from 0 (take w t)) is ∙ ap (number_from 0) (take_at (bits_of w v) (after ++ rest) w (length-bits_of w v)) ∙
    number-bits_of w v small in
    let beyond : drop (p + w) bs ≡ after ++ rest = sym (drop-drop w p bs) ∙ ap (drop w) is ∙
    drop_at (bits_of w v) (after ++ rest) w (length-bits_of w v) in
    let long : length bs - p ≡ w + length (after ++ rest) =
    sym (length-drop p bs) ∙ ap length is ∙ length-append (bits_of w v) (after ++ rest) ∙
    ap (λ (n : ℕ). n + length (after ++ rest)) (length-bits_of w v) in
    let fits : p + w ≤ length bs = omega (arith, h) in
    let on = walks_goes bs rest (p + w) m more beyond (omega arith) in
    let size : p + w + length after ≡ p + length (bits_of w v ++ after) =
    rw (length-append (bits_of w v) after, length-bits_of w v) (omega arith) in
    (bits-step bs s p m h fits ∙ rw field (on.0 ∙ ap gives size), fields_step bs s p m h fits ∙ rw (field, on.1))

are-packed : (s : Fields) (vs : List ℕ) → AreBits (packed s vs)
unfolding packed
are-packed s [] i = omega arith
are-packed s (v ∷ vs) i = are-append (bits_of (width s) v) (packed (step s v) vs) (are-bits_of (width s) v) (are-packed (step s v) vs) i

are-zeros : (k : ℕ) → AreBits (replicate k 0)
are-zeros zero i = omega arith
are-zeros (suc k) zero = omega arith
are-zeros (suc k) (suc i) = are-zeros k i

zeros-replicate : (k : ℕ) → zeros (replicate k 0) ≡ true
unfolding zeros
zeros-replicate zero = refl
zeros-replicate (suc k) = zeros-replicate k

module _ (row : List ℕ) (n : ℕ) (walked : walk_row row ≡ gives n) where
  path : Walks opening (drop 1 row)
  path = row_walks row n walked

  split : row ≡ edition ∷ drop 1 row
  unfolding walk_row
  split = by row walked
    where
      head : (t : Bool) (v : ℕ) (vs : List ℕ) → eqb v edition ≡ t → cond t (walk_from opening 1 vs) (refuse 1 0) ≡ gives n →
          v ∷ vs ≡ edition ∷ vs
      head true v vs t e = ap (λ (x : ℕ). x ∷ vs) (eqb-true v edition t)
      head false v vs t e = not-both e

      by : (r : List ℕ) → walk_row r ≡ gives n → r ≡ edition ∷ drop 1 r
      by [] e = not-both e
      by (v ∷ vs) e = head (eqb v edition) v vs refl e

  long : length row ≡ suc (length (drop 1 row))
  long = ap length split

  -- the answer is how many numbers there are
  pub row_count : n ≡ length row
  unfolding walk_row
  row_count =
      let whole : walk_row row ≡ gives (1 + length (drop 1 row)) = ap walk_row split ∙ walks_back 1 path in
      omega (arith, same_end n (1 + length (drop 1 row)) (sym walked ∙ whole), long)

  pub row-most : length row ≤ longest_row
  row-most = omega (arith, long, walks_numbers path, numbers-opening)

  pub row_file_most : length (file_of row) ≤ longest_file
  row_file_most = omega (arith, length-file row, row_bits_most row path)

  pub row_small : (i : ℕ) → get_or row i 0 < 65536
  row_small i = rw split (by i)
    where
      by : (i : ℕ) → get_or (edition ∷ drop 1 row) i 0 < 65536
      by zero = omega arith
      by (suc i) = walks_small (omega arith) path i

  -- the bits of the row's file
  spare : ℕ
  spare = 8 * whole_bytes (length (row_bits row)) - length (row_bits row)

  file-bits : bits (file_of row) ≡ row_bits row ++ replicate spare 0
  unfolding file_of spare
  file-bits =
      let size : length (row_bits row ++ replicate spare 0) ≡ 8 * whole_bytes (length (row_bits row)) =
      rw (length-append (row_bits row) (replicate spare 0), length-replicate {A = ℕ} spare 0) (omega arith) in
      bits-bytes (whole_bytes (length (row_bits row))) (row_bits row ++ replicate spare 0) size
      (are-append (row_bits row) (replicate spare 0)
      (are-append (bits_of 4 1) (packed opening (drop 1 row)) (are-bits_of 4 1) (are-packed opening (drop 1 row)))
      (are-zeros spare))

  parts : bits (file_of row) ≡ bits_of 4 1 ++ (packed opening (drop 1 row) ++ replicate spare 0)
  parts = file-bits ∙ append_assoc (bits_of 4 1) (packed opening (drop 1 row)) (replicate spare 0)

  bits-long : length (row_bits row) ≡ 4 + length (packed opening (drop 1 row))
  bits-long = length-append (bits_of 4 1) (packed opening (drop 1 row)) ∙
      ap (λ (k : ℕ). k + length (packed opening (drop 1 row))) (length-bits_of 4 1)

  file-long : length (bits (file_of row)) ≡ length (row_bits row) + spare
  file-long = ap length file-bits ∙ length-append (row_bits row) (replicate spare 0) ∙
      ap (λ (k : ℕ). length (row_bits row) + k) (length-replicate spare 0)

  back : (walk_bits (length (bits (file_of row))) opening 4 (bits (file_of row)) ≡ gives (4 + length (packed opening (drop 1 row)))) ×
      (fields_of (length (bits (file_of row))) opening 4 (bits (file_of row)) ≡ drop 1 row)
  back =
      walks_goes (bits (file_of row)) (replicate spare 0) 4 (length (bits (file_of row))) path
      (ap (drop 4) parts ∙ drop_at (bits_of 4 1) (packed opening (drop 1 row) ++ replicate spare 0) 4 (length-bits_of 4 1))
      (omega (arith, walks_turns path, file-long, bits-long))

  -- an accepted row is its file's row
  pub row_file_row : row_of (file_of row) ≡ row
  unfolding row_of
  row_file_row = ap (λ (vs : List ℕ). edition ∷ vs) back.1 ∙ sym split

  -- and its file is accepted, with the row's bits before the fill
  pub row-file : walk_file (file_of row) ≡ gives (length (row_bits row))
  unfolding ends_at spare
  row-file =
      let bs = bits (file_of row) in
      let end = length (row_bits row) in
      let some : length (file_of row) ≡ 0 → ⊥ = λ z. omega (arith, file-long, bits-long, length-bits (file_of row)) in
      let first : field_at bs 0 4 ≡ edition =
      ap (λ (t : List ℕ). number_from 0 (take 4 t)) parts
      ∙ ap (number_from 0) (take_at (bits_of 4 1) (packed opening (drop 1 row) ++ replicate spare 0) 4 (length-bits_of 4 1))
      ∙ number-bits_of 4 1 (omega arith) in
      let ends : ends_at bs end ≡ gives end =
      rw (
        lt-ltb (length bs) (end + 8) (omega (arith, file-long)),
        ap (drop end) file-bits ∙ drop_at (row_bits row) (replicate spare 0) end refl,
        zeros-replicate spare,
      ) in
      file_opens (file_of row) some first
      ∙ ap (λ (o : Outcome). and_then o (ends_at bs)) (back.0 ∙ ap gives (sym bits-long))
      ∙ ends
