-- Names checked from the front, line by line: that it gives what `check_names` says, one step of it, and what names that pass it are.
use Prim.Native.Nat.{ℕ, zero, suc, ◌+◌, ◌-◌, ◌≤◌, ◌<◌}
use mathlib.Core.Path.{◌≡◌, refl, sym, ◌∙◌, ap}
use mathlib.Core.Bool.{Bool, true, false, cond, ◌||◌}
use mathlib.Core.List.{List, [], ◌∷◌}
use native.Mathlib.Omega.{arith}
use native.Mathlib.Numerals.{add-one}
use lib.ListN.{length, take, drop, drop_of_length-le}
use lib.Seq.{drop-cons}
use lib.Dec.{ltb, eqb}
use borrow.Author.Tests.{lt-ltb, le-ltb, ltb-false, eqb-false}
use Rattle.scope.specs.Limits.{most_names, longest_name}
use Rattle.scope.specs.Lowest.{seek, lowest}
use Rattle.scope.specs.Outcome.{Outcome, gives, refuse}
use Rattle.scope.specs.Shelf.{name_of, bad_name, names_of, check_names}
use Rattle.scope.proofs.Bools.{or_left, or_right}
use Rattle.scope.proofs.Lowest.{seek_found, seek-next, seek-done, seek-low}
use Rattle.scope.proofs.Outcomes.{not-both}
use Rattle.names.specs.Names.{name_end, bad_size}
use Rattle.names.proofs.Names.{names-next, names-end, name-length}

-- the names from line i on
unfoldable pub check_from : ℕ → List (List ℕ) → Outcome
check_from i [] = gives i
check_from i (name ∷ names) = cond (bad_size i (length name)) (refuse 24 i) (check_from (i + 1) names)

module _ (i : ℕ) where
  pub from-none : (names : List (List ℕ)) → names ≡ [] → check_from i names ≡ gives i
  unfolding check_from
  from-none names e = rw e

  module _ (names : List (List ℕ)) (name : List ℕ) (rest : List (List ℕ)) (e : names ≡ name ∷ rest) where
    pub from-bad : bad_size i (length name) ≡ true → check_from i names ≡ refuse 24 i
    unfolding check_from
    from-bad t = rw (e, t)

    pub from-good : bad_size i (length name) ≡ false → check_from i names ≡ check_from (i + 1) rest
    unfolding check_from
    from-good t = rw (e, t)

-- it is the lowest bad line, or their number
module _ (names : List (List ℕ)) where
  abbrev settled : ℕ → Outcome
  settled k = cond (ltb k (length names)) (refuse 24 k) (gives (length names))

  from_lowest : (n i : ℕ) → i + n ≡ length names → check_from i (drop i names) ≡ settled (seek (bad_name names) (length names - i) i)
  from_lowest zero i h =
      let e : i ≡ length names = omega arith in
      from-none i (drop i names) (drop_of_length-le names {i = i} (omega arith)) ∙
      ap gives e ∙
      sym (ap settled (seek-done (bad_name names) (length names) i (omega arith)) ∙
      ap (λ (t : Bool). cond t (refuse 24 i) (gives (length names))) (le-ltb i (length names) (omega arith)))
  from_lowest (suc n) i h = by (bad_name names i) refl (from_lowest n (i + 1) (omega arith))
    where
      here : drop i names ≡ name_of names i ∷ drop (i + 1) names
      here = drop-cons names i [] (omega arith) ∙ ap (λ (k : ℕ). name_of names i ∷ drop k names) (sym (add-one i))

      by : (t : Bool) → bad_name names i ≡ t →
          check_from (i + 1) (drop (i + 1) names) ≡ settled (seek (bad_name names) (length names - (i + 1)) (i + 1)) →
          check_from i (drop i names) ≡ settled (seek (bad_name names) (length names - i) i)
      by true e r =
          from-bad i (drop i names) (name_of names i) (drop (i + 1) names) here e ∙
          sym (ap settled (seek_found (bad_name names) (length names) i (omega arith) e) ∙
          ap (λ (t : Bool). cond t (refuse 24 i) (gives (length names))) (lt-ltb i (length names) (omega arith)))
      by false e r =
          from-good i (drop i names) (name_of names i) (drop (i + 1) names) here e ∙ r ∙
          ap settled (sym (seek-next (bad_name names) (length names) i (omega arith) e))

  pub from_first : check_from 0 names ≡ check_names names
  unfolding check_names
  from_first =
      let e : length names - 0 ≡ length names = omega arith in
      from_lowest (length names) 0 (omega arith) ∙ ap (λ (k : ℕ). settled (seek (bad_name names) k 0)) e

-- A loop over the lines of a text, at the line that begins at index `from`: it is bad, it is good, it is not there.
module _ (text : List ℕ) (line from : ℕ) where
  module _ (end : ℕ) (h : from < length text) (e : end ≡ name_end text from) where
    size : (t : Bool) → bad_size line (end - from) ≡ t → bad_size line (length (take (name_end text from - from) (drop from text))) ≡ t
    size t b =
        let n : length (take (name_end text from - from) (drop from text)) ≡ end - from =
        name-length text from (omega arith) ∙ ap (λ (k : ℕ). k - from) (sym e)
        in
        ap (bad_size line) n ∙ b

    pub line-bad : bad_size line (end - from) ≡ true → check_from line (names_of (drop from text)) ≡ refuse 24 line
    line-bad b = from-bad line _ _ _ (names-next text from h) (size true b)

    pub line-good : bad_size line (end - from) ≡ false →
        check_from line (names_of (drop from text)) ≡ check_from (line + 1) (names_of (drop (end + 1) text))
    line-good b =
        from-good line _ _ _ (names-next text from h) (size false b) ∙
        ap (λ (k : ℕ). check_from (line + 1) (names_of (drop (k + 1) text))) (sym e)

  pub line-end : length text ≤ from → check_from line (names_of (drop from text)) ≡ gives line
  line-end h = from-none line _ (names-end text from h)

-- a line that is not bad
pub record Good (i size : ℕ) : Type 0 where
  pub few : i < most_names
  pub some : 0 < size
  pub short : size ≤ longest_name

pub positive : (n : ℕ) → (n ≡ 0 → ⊥) → 0 < n
positive zero f = absurd (f refl)
positive (suc n) f = omega arith

pub good : (i size : ℕ) → bad_size i size ≡ false → Good i size
good i size b =
    let many = ltb most_names (i + 1) in
    let none = eqb size 0 in
    let first = or_left (many || none) (ltb longest_name size) b in
    let not_None = eqb-false size 0 (or_right many none first) in
    let f = ltb-false most_names (i + 1) (or_left many none first) in
    record {
      few = omega arith;
      some = positive size not_None;
      short = ltb-false longest_name size (or_right (many || none) (ltb longest_name size) b);
    }

-- names that pass: at most 250, "each of 1 to 255 bytes"
pub record Checked (names : List (List ℕ)) (n : ℕ) : Type 0 where
  pub count : n ≡ length names
  pub few : length names ≤ most_names
  pub each : (i : ℕ) → i < length names → Good i (length (name_of names i))

pub checked : (names : List (List ℕ)) (n : ℕ) → check_names names ≡ gives n → Checked names n
unfolding check_names
checked names n g = by (ltb (lowest (bad_name names) (length names)) (length names)) refl g
  where
    all : length names ≤ lowest (bad_name names) (length names) → (i : ℕ) → i < length names → Good i (length (name_of names i))
    all h i l = good i (length (name_of names i)) (seek-low (bad_name names) (length names) 0 i (omega arith) (omega arith))

    most : (k : ℕ) → ((i : ℕ) → i < k → Good i (length (name_of names i))) → k ≤ most_names
    most zero a = omega arith
    most (suc k) a = let f = (a k (omega arith)).few in omega arith

    by : (t : Bool) → ltb (lowest (bad_name names) (length names)) (length names) ≡ t →
        cond t (refuse 24 (lowest (bad_name names) (length names))) (gives (length names)) ≡ gives n → Checked names n
    by true e p = not-both p
    by false e p =
        let each = all (ltb-false _ _ e) in
        record { count = let f : n ≡ length names = cc in f; few = most (length names) each; each = each }
