-- 64,000 bytes are as many as 250 lines can have, each with its line feed: of a text that has one byte more, the first 64,001 bytes have a line
-- that is bad, and the whole text has the same.
use Prim.Native.Nat.{ℕ, zero, suc, ◌+◌, ◌-◌, ◌*◌, ◌≤◌, ◌<◌}
use mathlib.Core.Path.{◌≡◌, refl, sym, ◌∙◌, ap}
use mathlib.Core.Bool.{Bool, true, false, ◌||◌}
use mathlib.Core.List.{List, [], ◌∷◌}
use native.Mathlib.Omega.{arith}
use lib.ListN.{length, take, drop, length-drop}
use lib.Seq.{take_all, length-take-le, take-nil}
use lib.Dec.{ltb, eqb}
use borrow.Author.Tests.{lt-ltb, le-ltb, eq-eqb, ne_eqb, ltb-true, ltb-false, eqb-true, eqb-false}
use Rattle.scope.specs.Limits.{most_names, longest_name, names_room}
use Rattle.scope.specs.Outcome.{gives, refuse}
use Rattle.scope.specs.Shelf.{names_of, check_names}
use Rattle.scope.proofs.Outcomes.{not-both}
use Rattle.names.specs.Names.{name_size, bad_size}
use Rattle.names.proofs.Names.{size-most, names-first, size-taken, size-long}
use Rattle.names.proofs.Check.{check_from, from-bad, from-good, from_first, positive}

drop-take : (k m : ℕ) (xs : List ℕ) → drop k (take m xs) ≡ take (m - k) (drop k xs)
drop-take zero m xs = let e : m - 0 ≡ m = omega arith in ap (λ (j : ℕ). take j xs) (sym e)
drop-take (suc k) m [] = ap (drop (suc k)) (take-nil m) ∙ sym (take-nil (m - suc k))
drop-take (suc k) zero (x ∷ xs) = let e : 0 - suc k ≡ 0 = omega arith in ap (λ (j : ℕ). take j (drop k xs)) (sym e)
drop-take (suc k) (suc m) (x ∷ xs) =
    let e : suc m - suc k ≡ m - k = omega arith in
    drop-take k m xs ∙ ap (λ (j : ℕ). take j (drop k xs)) (sym e)

-- a line that would be refused, in the text and in its front
record Refused (i : ℕ) (text : List ℕ) (m : ℕ) : Type 0 where
  pub line : ℕ
  pub whole : check_from i (names_of text) ≡ refuse 24 line
  pub front : check_from i (names_of (take m text)) ≡ refuse 24 line

many : (i size : ℕ) → most_names ≤ i → bad_size i size ≡ true
many i size h = rw (lt-ltb most_names (i + 1) (omega arith))

none : (i size : ℕ) → i < most_names → size ≡ 0 → bad_size i size ≡ true
none i size h e = rw (le-ltb most_names (i + 1) (omega arith), eq-eqb size 0 e)

long : (i size : ℕ) → longest_name < size → bad_size i size ≡ true
long i size h = rw (lt-ltb longest_name size h) (or-true (ltb most_names (i + 1) || eqb size 0))
  where
    or-true : (t : Bool) → (t || true) ≡ true
    or-true true = refl
    or-true false = refl

fine : (i size : ℕ) → i < most_names → 0 < size → size ≤ longest_name → bad_size i size ≡ false
fine i size h g l = rw (le-ltb most_names (i + 1) (omega arith), ne_eqb size 0 (λ e. omega arith), le-ltb longest_name size l)

module _ (i m : ℕ) (text : List ℕ) (some : 0 < m) (within : m ≤ length text) where
  taken : length (take m text) ≡ m
  taken = length-take-le m text within

  first : names_of text ≡ take (name_size text) text ∷ names_of (drop (name_size text + 1) text)
  first = names-first text (omega arith)

  front-first : names_of (take m text) ≡
      take (name_size (take m text)) (take m text) ∷ names_of (drop (name_size (take m text) + 1) (take m text))
  front-first = let l = taken in names-first (take m text) (omega arith)

  first-length : length (take (name_size text) text) ≡ name_size text
  first-length = length-take-le (name_size text) text (size-most text)

  front_length : length (take (name_size (take m text)) (take m text)) ≡ name_size (take m text)
  front_length = length-take-le (name_size (take m text)) (take m text) (size-most (take m text))

  -- both have a bad line here
  here : bad_size i (name_size text) ≡ true → bad_size i (name_size (take m text)) ≡ true → Refused i text m
  here b f =
      record {
        line = i;
        whole = from-bad i _ _ _ first (ap (bad_size i) first-length ∙ b);
        front = from-bad i _ _ _ front-first (ap (bad_size i) front_length ∙ f);
      }

  -- neither has, and the rest of both is refused
  later : bad_size i (name_size text) ≡ false → name_size text < m →
      Refused (i + 1) (drop (name_size text + 1) text) (m - (name_size text + 1)) → Refused i text m
  later b l r =
      let same : name_size (take m text) ≡ name_size text = size-taken m text l in
      let rest : drop (name_size (take m text) + 1) (take m text) ≡ take (m - (name_size text + 1)) (drop (name_size text + 1) text) =
      ap (λ (k : ℕ). drop (k + 1) (take m text)) same ∙ drop-take (name_size text + 1) m text
      in
      record {
        line = r.line;
        whole = from-good i _ _ _ first (ap (bad_size i) first-length ∙ b) ∙ r.whole;
        front =
            from-good i _ _ _ front-first (ap (bad_size i) (front_length ∙ same) ∙ b) ∙
            ap (λ (xs : List ℕ). check_from (i + 1) (names_of xs)) rest ∙ r.front;
      }

-- with so many lines to come, and a byte more than they can have
refused-front : (lines i m : ℕ) (text : List ℕ) → i + lines ≡ most_names → lines * 256 < m → m ≤ length text → Refused i text m
refused-front zero i m text e h l =
    here i m text (omega arith) l (many i (name_size text) (omega arith)) (many i (name_size (take m text)) (omega arith))
refused-front (suc lines) i m text e h l = by (ltb longest_name (name_size text)) refl (eqb (name_size text) 0) refl (refused-front lines (i + 1))
  where
    by : (t : Bool) → ltb longest_name (name_size text) ≡ t → (u : Bool) → eqb (name_size text) 0 ≡ u →
        ((k : ℕ) (rest : List ℕ) → i + 1 + lines ≡ most_names → lines * 256 < k → k ≤ length rest → Refused (i + 1) rest k) → Refused i text m
    by true t u v r =
        let s = ltb-true longest_name (name_size text) t in
        here i m text (omega arith) l (long i (name_size text) s)
        (long i (name_size (take m text)) (size-long m (suc longest_name) text s (omega arith)))
    by false t true v r =
        let z = eqb-true (name_size text) 0 v in
        here i m text (omega arith) l (none i (name_size text) (omega arith) z)
        (none i (name_size (take m text)) (omega arith) (size-taken m text (omega arith) ∙ z))
    by false t false v r =
        let s = ltb-false longest_name (name_size text) t in
        let n = length-drop (name_size text + 1) text in
        later i m text (omega arith) l (fine i (name_size text) (omega arith) (positive (name_size text) (eqb-false (name_size text) 0 v)) s)
        (omega arith)
        (r (m - (name_size text + 1)) (drop (name_size text + 1) text) (omega arith) (omega arith) (omega arith))

-- What was read decides: of the first n bytes of a buffer the check is that of the whole input, and where it passes they are the whole input.
pub record Decides (read whole : List ℕ) : Type 0 where
  pub same : check_names (names_of read) ≡ check_names (names_of whole)
  pub all : (count : ℕ) → check_names (names_of read) ≡ gives count → read ≡ whole

pub front_decides : (buffer : List ℕ) (n : ℕ) (whole : List ℕ) → length buffer ≡ names_room → take n buffer ≡ take (length buffer) whole →
    Decides (take n buffer) whole
front_decides buffer n whole size read = by (ltb names_room (length whole)) refl
  where
    front : take n buffer ≡ take names_room whole
    front = read ∙ ap (λ (k : ℕ). take k whole) size

    by : (t : Bool) → ltb names_room (length whole) ≡ t → Decides (take n buffer) whole
    by true e =
        let l = ltb-true names_room (length whole) e in
        let r = refused-front most_names 0 names_room whole refl (omega arith) (omega arith) in
        let fails : check_names (names_of (take n buffer)) ≡ refuse 24 r.line =
        ap (λ (xs : List ℕ). check_names (names_of xs)) front ∙ sym (from_first (names_of (take names_room whole))) ∙ r.front
        in
        record {
          same = fails ∙ sym r.whole ∙ from_first (names_of whole);
          all = λ count g. not-both (sym fails ∙ g);
        }
    by false e =
        let is : take n buffer ≡ whole = front ∙ take_all names_room whole (ltb-false names_room (length whole) e) in
        record { same = ap (λ (xs : List ℕ). check_names (names_of xs)) is; all = λ count g. is }
