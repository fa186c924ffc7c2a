-- Laws of names in a text: where a name ends, how one follows another, and what is left of a name where a text is cut off.
use Prim.Native.Nat.{ℕ, zero, suc, ◌+◌, ◌-◌, ◌≤◌, ◌<◌}
use mathlib.Core.Path.{◌≡◌, refl, sym, ◌∙◌, ap}
use mathlib.Core.Bool.{Bool, true, false, cond, not}
use mathlib.Core.List.{List, [], ◌∷◌}
use native.Mathlib.Omega.{arith}
use lib.ListN.{length, take, drop, length-drop, drop_of_length-le}
use lib.Seq.{drop-drop, length-take-le}
use lib.Dec.{ltb, eqb}
use borrow.Author.Tests.{ltb-false}
use Rattle.std.proofs.Common.{Option, Some, None}
use Rattle.std.specs.List.{position}
use Rattle.std.specs.Option.{unwrap_or}
use Rattle.scope.specs.Shelf.{begins, names_of}
use Rattle.names.specs.Names.{name_size, name_end}

size_none : name_size [] ≡ 0
unfolding name_size
size_none = refl

size_more : (b : ℕ) (text : List ℕ) → name_size (b ∷ text) ≡ cond (eqb b 10) 0 (suc (name_size text))
unfolding name_size
size_more b text = by (eqb b 10)
  where
    by : (t : Bool) → cond (not t) (1 + name_size text) 0 ≡ cond t 0 (suc (name_size text))
    by true = refl
    by false = omega arith

pub size-most : (text : List ℕ) → name_size text ≤ length text
size-most [] = omega (arith, size_none)
size-most (b ∷ text) = rw (size_more b text) (by (eqb b 10) (size-most text))
  where
    by : (t : Bool) → name_size text ≤ length text → cond t 0 (suc (name_size text)) ≤ suc (length text)
    by true h = omega arith
    by false h = omega arith

-- it is the first place of a line feed, if there is one
pub size_is : (text : List ℕ) (r : Option ℕ) → r ≡ position (λ b. eqb b 10) text → unwrap_or r (length text) ≡ name_size text
unfolding name_size
size_is text r e = rw e (by (ltb (name_size text) (length text)) refl)
  where
    by : (t : Bool) → ltb (name_size text) (length text) ≡ t → unwrap_or (cond t (Some (name_size text)) None) (length text) ≡ name_size text
    by true h = refl
    by false h = omega (arith, size-most text, ltb-false (name_size text) (length text) h)

-- the end of a name that begins at index i
module _ (text : List ℕ) (i : ℕ) where
  pub end_past : length text ≤ i → name_end text i ≡ i
  end_past h =
      let none : name_size (drop i text) ≡ 0 = ap name_size (drop_of_length-le text h) ∙ size_none in
      omega arith

  pub end_found : (rest : List ℕ) → rest ≡ drop i text → (n : ℕ) → n ≡ name_size rest → i + n ≡ name_end text i
  end_found rest e n h = rw (h, e)

  -- it lies between the name's first byte and the text's end
  pub end-most : i ≤ length text → name_end text i ≤ length text
  end-most h =
      let m = size-most (drop i text) in
      let l = length-drop i text in
      omega arith

-- a text that is not empty begins with a name, and the others follow its line feed
split : (b : ℕ) (text : List ℕ) →
    names_of (b ∷ text) ≡ take (name_size (b ∷ text)) (b ∷ text) ∷ names_of (drop (name_size (b ∷ text) + 1) (b ∷ text))
unfolding names_of
split b [] = rw (size_more b [], size_none) (by (eqb b 10))
  where
    by : (t : Bool) → cond t ([] ∷ []) ((b ∷ []) ∷ []) ≡
        take (cond t 0 1) (b ∷ []) ∷ names_of (drop (cond t 0 1 + 1) (b ∷ []))
    by true = refl
    by false = refl
split b (c ∷ text) = rw (size_more b (c ∷ text)) (by (eqb b 10) (split c text))
  where
    by : (t : Bool) → names_of (c ∷ text) ≡ take (name_size (c ∷ text)) (c ∷ text) ∷ names_of (drop (name_size (c ∷ text) + 1) (c ∷ text)) →
        cond t ([] ∷ names_of (c ∷ text)) (begins b (names_of (c ∷ text))) ≡
        take (cond t 0 (suc (name_size (c ∷ text)))) (b ∷ c ∷ text) ∷ names_of (drop (cond t 0 (suc (name_size (c ∷ text))) + 1) (b ∷ c ∷ text))
    by true r = refl
    by false r =
        let e : suc (name_size (c ∷ text)) + 1 ≡ suc (name_size (c ∷ text) + 1) = omega arith in
        ap (begins b) r ∙ ap (λ (k : ℕ). (b ∷ take (name_size (c ∷ text)) (c ∷ text)) ∷ names_of (drop k (b ∷ c ∷ text))) (sym e)

pub names-first : (text : List ℕ) → 0 < length text → names_of text ≡ take (name_size text) text ∷ names_of (drop (name_size text + 1) text)
names-first [] h = absurd (omega arith)
names-first (b ∷ text) h = split b text

pub names-none : names_of [] ≡ []
unfolding names_of
names-none = refl

-- the same of what follows an index
module _ (text : List ℕ) (from : ℕ) where
  pub names-next : from < length text →
      names_of (drop from text) ≡ take (name_end text from - from) (drop from text) ∷ names_of (drop (name_end text from + 1) text)
  names-next h =
      let l = length-drop from text in
      let n : name_size (drop from text) ≡ name_end text from - from = omega arith in
      let e : from + (name_size (drop from text) + 1) ≡ name_end text from + 1 = omega arith in
      let rest : drop (name_size (drop from text) + 1) (drop from text) ≡ drop (name_end text from + 1) text =
      drop-drop (name_size (drop from text) + 1) from text ∙ ap (λ (k : ℕ). drop k text) e
      in
      names-first (drop from text) (omega arith) ∙
      ap (λ (xs : List ℕ). take (name_size (drop from text)) (drop from text) ∷ names_of xs) rest ∙
      ap (λ (k : ℕ). take k (drop from text) ∷ names_of (drop (name_end text from + 1) text)) n

  pub names-end : length text ≤ from → names_of (drop from text) ≡ []
  names-end h = ap names_of (drop_of_length-le text h) ∙ names-none

  -- so many bytes has the name there
  pub name-length : from ≤ length text → length (take (name_end text from - from) (drop from text)) ≡ name_end text from - from
  name-length h =
      let m = end-most text from h in
      let l = length-drop from text in
      length-take-le (name_end text from - from) (drop from text) (omega arith)

-- Of a text that is cut off, a name that ends before is as it was, and one that is long is still long.
pub size-taken : (m : ℕ) (text : List ℕ) → name_size text < m → name_size (take m text) ≡ name_size text
size-taken zero text h = absurd (omega arith)
size-taken (suc m) [] h = refl
size-taken (suc m) (b ∷ text) h =
    rw (size_more b (take m text), size_more b text) (by (eqb b 10) (rw (size_more b text) at h) (size-taken m text))
  where
    by : (t : Bool) → cond t 0 (suc (name_size text)) < suc m → (name_size text < m → name_size (take m text) ≡ name_size text) →
        cond t 0 (suc (name_size (take m text))) ≡ cond t 0 (suc (name_size text))
    by true h r = refl
    by false h r = ap suc (r (omega arith))

pub size-long : (m x : ℕ) (text : List ℕ) → x ≤ name_size text → x ≤ m → x ≤ name_size (take m text)
size-long zero x text h g = omega arith
size-long (suc m) x [] h g = h
size-long (suc m) x (b ∷ text) h g =
    rw (size_more b (take m text)) (by (eqb b 10) (rw (size_more b text) at h) (size-long m (x - 1) text))
  where
    by : (t : Bool) → x ≤ cond t 0 (suc (name_size text)) → (x - 1 ≤ name_size text → x - 1 ≤ m → x - 1 ≤ name_size (take m text)) →
        x ≤ cond t 0 (suc (name_size (take m text)))
    by true h r = h
    by false h r = let s = r (omega arith) (omega arith) in omega arith
