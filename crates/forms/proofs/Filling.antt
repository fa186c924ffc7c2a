-- The loop that unpacks a file: what is read so far and what is left give the whole row and the whole answer.
use Prim.Native.Nat.{ℕ, suc, ◌+◌, ◌-◌, ◌*◌, ◌≤◌, ◌<◌}
use mathlib.Core.Path.{◌≡◌, refl, sym, ◌∙◌, ap}
use mathlib.Core.List.{List, [], ◌∷◌, ◌++◌, append-nil}
use native.Mathlib.Numerals.{add-one}
use native.Mathlib.Omega.{arith}
use lib.ListN.{length, take, drop, set, length-set, take-append-drop}
use lib.Seq.{take-suc-set, drop-set-lt, drop-drop, append_snoc, length-take-le}
use Rattle.scope.specs.declared.Fields.{Fields}
use Rattle.scope.specs.Outcome.{Outcome, outcome_of}
use Rattle.scope.specs.Fields.{width, step, opening, edition}
use Rattle.scope.specs.Bits.{bits, field_at}
use Rattle.scope.specs.File.{walk_bits, fields_of, row_of}
use Rattle.bits.specs.Word.{Read}
use Rattle.bits.proofs.Laws.{length-bits}
use Rattle.scope.specs.Limits.{longest_row, longest_bits}
use Rattle.forms.specs.declared.Unpacked.{Unpacked}
use Rattle.forms.specs.Unpack.{Unpacks}
use Rattle.grammar.proofs.Most.{numbers, wide, falls, numbers-opening, wide_opening}
use Rattle.forms.proofs.Walk.{bits-step, fields_step}

-- so many turns are left after i numbers
abbrev pub turns : List ℕ → ℕ → ℕ
turns file i = length (bits file) + 1 - i

-- the walk over a file stands at bit p, with i numbers in the row. `row₀` is the buffer as the loop began
pub record OnFile (file row₀ row : List ℕ) (s : Fields) (p i : ℕ) : Type 0 where
  pub same : walk_bits (turns file i) s p (bits file) ≡ walk_bits (length (bits file)) opening 4 (bits file)
  pub written : take i row ++ fields_of (turns file i) s p (bits file) ≡ row_of file
  pub rest : drop i row ≡ drop i row₀
  pub long : length row ≡ length row₀
  pub few : i + numbers s ≤ longest_row
  pub short : p + wide s ≤ longest_bits
  pub passed : i + 3 ≤ p
  pub begun : 1 ≤ i
  pub inside : p ≤ 8 * length file
  pub narrow : s.slot ≤ 16

pub starts : (file row : List ℕ) (s : Fields) → 0 < length file → longest_row ≤ length row → s ≡ opening →
    OnFile file (set row 0 edition) (set row 0 edition) s 4 1
unfolding row_of
starts file [] s some room e = absurd (omega arith)
starts file (x ∷ row) s some room e =
    let n : turns file 1 ≡ length (bits file) = omega arith in
    rw e
    (record {
      same = ap (λ (k : ℕ). walk_bits k opening 4 (bits file)) n;
      written = ap (λ (k : ℕ). edition ∷ fields_of k opening 4 (bits file)) n;
      rest = refl;
      long = refl;
      few = omega (arith, numbers-opening);
      short = omega (arith, wide_opening);
      passed = omega arith;
      begun = omega arith;
      inside = omega arith;
      narrow = omega arith;
    })

module _ (file row₀ row : List ℕ) (s : Fields) (p i : ℕ) (on : OnFile file row₀ row s p i) where
  pub goes_on : (t : Fields) (w v : ℕ) → longest_row ≤ length row₀ → w ≡ width s → (w ≡ 0 → ⊥) → p + w ≤ 8 * length file → Read file p w v →
      t ≡ step s v →
      OnFile file row₀ (set row i v) t (p + w) (i + 1)
  goes_on t w v room is some fits read next =
      let bs = bits file in
      let nonzero : width s ≡ 0 → ⊥ = λ z. some (is ∙ z) in
      let all : length bs ≡ 8 * length file = length-bits file in
      let one : turns file i ≡ suc (turns file (i + 1)) = omega (arith, on.passed) in
      let within : p + width s ≤ length bs = omega arith in
      let v' : v ≡ field_at bs p (width s) = read.is ∙ ap (field_at bs p) is in
      let place : i < length row = omega (arith, on.few, on.long, falls (λ w. 1) s v nonzero (rw is at read.small)) in
      record {
        same =
            rw (next, v', is)
            (sym (ap (λ (k : ℕ). walk_bits k s p bs) one ∙ bits-step bs s p (turns file (i + 1)) nonzero within) ∙ on.same);
        written =
            rw (add-one i, take-suc-set row i v place, append_snoc (take i row) v (fields_of (turns file (suc i)) t (p + w) bs))
            (rw (← add-one i, next, v', is)
            (ap (λ (l : List ℕ). take i row ++ l)
            (sym (ap (λ (k : ℕ). fields_of k s p bs) one ∙ fields_step bs s p (turns file (i + 1)) nonzero within))
            ∙ on.written));
        rest =
            drop-set-lt (i + 1) row i v (omega arith) ∙ sym (drop-drop 1 i row) ∙ ap (drop 1) on.rest ∙ drop-drop 1 i row₀;
        long = length-set row i v ∙ on.long;
        few = rw next (omega (arith, on.few, falls (λ w. 1) s v nonzero (rw is at read.small)));
        short = rw next (omega (arith, on.short, falls (λ w. w) s v nonzero (rw is at read.small)));
        passed = omega (arith, on.passed);
        begun = omega arith;
        inside = fits;
        narrow = rw next on.narrow;
      }

  -- no field is left, or the file ends inside the next one
  filled : fields_of (turns file i) s p (bits file) ≡ [] → take i row ≡ row_of file
  filled e = sym (append-nil (take i row)) ∙ ap (λ (l : List ℕ). take i row ++ l) (sym e) ∙ on.written

  pub gives_row : (entry : List ℕ) (r : Unpacked) (o : Outcome) → row₀ ≡ set entry 0 edition → longest_row ≤ length row₀ →
      fields_of (turns file i) s p (bits file) ≡ [] → walk_bits (turns file i) s p (bits file) ≡ o → outcome_of r.answer ≡ o → r.count ≡ i →
      Unpacks file entry row (walk_bits (length (bits file)) opening 4 (bits file)) r
  gives_row entry r o first room none ends is count =
      let inl : i ≤ length row = omega (arith, on.few, on.long) in
      let size : length (row_of file) ≡ i = ap length (sym (filled none)) ∙ length-take-le i row inl in
      let after : drop i row ≡ drop (length (row_of file)) entry =
      on.rest ∙ ap (drop i) first ∙ drop-set-lt i entry 0 edition (omega (arith, on.begun)) ∙ ap (λ (k : ℕ). drop k entry) (sym size) in
      record {
        answer = is ∙ sym ends ∙ on.same;
        count = count ∙ sym size;
        few = omega (arith, on.few);
        row = sym (take-append-drop i row) ∙ ap (λ (l : List ℕ). l ++ drop i row) (filled none) ∙ ap (λ (l : List ℕ). row_of file ++ l) after;
      }
