-- Laws of a text laid over a buffer: one byte, one text after another, and what the buffer then holds.
use Prim.Native.Nat.{ℕ, suc, ◌+◌, ◌≤◌, ◌<◌}
use mathlib.Core.Path.{◌≡◌, refl, sym, ◌∙◌, ap}
use mathlib.Core.List.{List, [], ◌∷◌, ◌++◌, append_assoc}
use native.Mathlib.Omega.{arith}
use native.Mathlib.Numerals.{add-one}
use lib.ListN.{length, get_or, set, take, drop, length-append, drop_of_length-le}
use lib.Seq.{sets, sets-eq, set_out, length-sets, drop-cons}
use Rattle.text.specs.Text.{laid, Told, Puts}

-- it is the run of stores of `lib.Seq`
pub laid_sets : {A : Type 0} (b : List A) (i : ℕ) (s : List A) → laid b i s ≡ sets b i s
unfolding laid
laid_sets b i [] = refl
laid_sets b i (x ∷ s) = laid_sets (set b i x) (i + 1) s ∙ ap (λ (k : ℕ). sets (set b i x) k s) (add-one i)

pub length-laid : {A : Type 0} (b : List A) (i : ℕ) (s : List A) → length (laid b i s) ≡ length b
length-laid b i s = ap length (laid_sets b i s) ∙ length-sets b i s

-- where there is room, the text stands there and all else is as it was
pub laid-whole : {A : Type 0} (b : List A) (i : ℕ) (s : List A) → i + length s ≤ length b → laid b i s ≡ take i b ++ (s ++ drop (i + length s) b)
laid-whole b i s h = laid_sets b i s ∙ sets-eq s b i h ∙ append_assoc (take i b) s (drop (i + length s) b)

-- from the front of a buffer
pub laid-front : {A : Type 0} (b s : List A) → length s ≤ length b → laid b 0 s ≡ s ++ drop (length s) b
laid-front b s h =
    let e : 0 + length s ≡ length s = omega arith in
    laid-whole b 0 s (omega arith) ∙ ap (λ (k : ℕ). s ++ drop k b) e

-- a text behind the end changes nothing
pub laid_none : {A : Type 0} (b : List A) (i : ℕ) (s : List A) → length b ≤ i → laid b i s ≡ b
unfolding laid
laid_none {A} b i [] h = refl
laid_none {A} b i (x ∷ s) h =
    let e : set b i x ≡ b = set_out b i x h in
    ap (λ (c : List A). laid c (i + 1) s) e ∙ laid_none b (i + 1) s (omega arith)

pub laid_nil : {A : Type 0} (b : List A) (i : ℕ) → laid b i [] ≡ b
unfolding laid
laid_nil b i = refl

-- no text at all
pub puts_none : {A : Type 0} (b : List A) (i : ℕ) → Puts [] b b i i
puts_none b i = record { buffer = sym (laid_nil b i); ends = omega arith }

pub laid_one : {A : Type 0} (b : List A) (i : ℕ) (x : A) → laid b i (x ∷ []) ≡ set b i x
unfolding laid
laid_one b i x = refl

-- so it is laid by a store
pub puts_one : {A : Type 0} (b : List A) (n : ℕ) (x : A) → Puts (x ∷ []) b (set b n x) n (n + 1)
puts_one b n x = record { buffer = sym (laid_one b n x); ends = refl }

pub laid_cons : {A : Type 0} (b : List A) (i : ℕ) (x : A) (s : List A) → laid b i (x ∷ s) ≡ laid (set b i x) (i + 1) s
unfolding laid
laid_cons b i x s = refl

-- one text after another
pub laid-append : {A : Type 0} (b : List A) (i : ℕ) (s t : List A) → laid b i (s ++ t) ≡ laid (laid b i s) (i + length s) t
unfolding laid
laid-append b i [] t = let e : i + 0 ≡ i = omega arith in ap (λ (k : ℕ). laid b k t) (sym e)
laid-append b i (x ∷ s) t =
    let e : i + 1 + length s ≡ i + suc (length s) = omega arith in
    laid-append (set b i x) (i + 1) s t ∙ ap (λ (k : ℕ). laid (laid (set b i x) (i + 1) s) k t) e

-- the index after two texts can be told: so can that after the first, and from there on that after the second
pub told-first : {A : Type 0} {i : ℕ} (s t : List A) → Told i (s ++ t) → Told i s
told-first s t h = let e = length-append s t in let f = h.fits in record { fits = omega arith }

module _ {A : Type 0} {s b c : List A} {i j : ℕ} (p : Puts s b c i j) where
  pub told-rest : (t : List A) → Told i (s ++ t) → Told j t
  told-rest t h =
      let e = length-append s t in
      let n = p.ends in
      let f = h.fits in
      record { fits = omega arith }

  -- one call after another
  pub then : {t d : List A} {k : ℕ} → Puts t c d j k → Puts (s ++ t) b d i k
  then {t} {d} {k} q =
      let e = length-append s t in
      let n = p.ends in
      let m = q.ends in
      record {
        buffer =
            q.buffer ∙ ap (λ (x : ℕ). laid c x t) n ∙ ap (λ (x : List A). laid x (i + length s) t) p.buffer ∙ sym (laid-append b i s t);
        ends = omega arith;
      }

-- A loop that has laid a part of a text over a buffer b from index `at` on: `rest` is to come, from index i on, over the buffer c.
pub record Left {A : Type 0} (text b : List A) (at : ℕ) (rest c : List A) (i : ℕ) : Type 0 where
  pub buffer : laid c i rest ≡ laid b at text
  pub ends : i + length rest ≡ at + length text

pub left-first : {A : Type 0} (text b : List A) (at : ℕ) → Left text b at text b at
left-first text b at = record { buffer = refl; ends = refl }

module _ {A : Type 0} {text b : List A} {at : ℕ} where
  -- the rest under another name
  pub left_is : {rest rest' c : List A} {i : ℕ} → rest ≡ rest' → Left text b at rest c i → Left text b at rest' c i
  left_is e l = rw e at l

  pub left-told : (s t : List A) {c : List A} {i : ℕ} → Told at text → Left text b at (s ++ t) c i → Told i s
  left-told s t h l =
      let e = length-append s t in
      let n = l.ends in
      let f = h.fits in
      record { fits = omega arith }

  pub left-more : {s t c d : List A} {i j : ℕ} → Left text b at (s ++ t) c i → Puts s c d i j → Left text b at t d j
  left-more {s} {t} {c} {d} {i} {j} l p =
      let e = length-append s t in
      let n = p.ends in
      let m = l.ends in
      record {
        buffer =
            ap (λ (x : ℕ). laid d x t) n ∙ ap (λ (x : List A). laid x (i + length s) t) p.buffer ∙ sym (laid-append c i s t) ∙ l.buffer;
        ends = omega arith;
      }

  pub left-done : {c : List A} {i : ℕ} → Left text b at [] c i → Puts text b c at i
  left-done {c} {i} l =
      let n : i + 0 ≡ at + length text = l.ends in
      record { buffer = sym (laid_nil c i) ∙ l.buffer; ends = omega arith }

  pub left-same : {rest c : List A} {i : ℕ} → Left text b at rest c i → length c ≡ length b
  left-same {rest} {c} {i} l = sym (length-laid c i rest) ∙ ap length l.buffer ∙ length-laid b at text

-- what is left of a word at its index i: one byte and the bytes after it, and nothing at its end
pub word_more : (w : List ℕ) (i : ℕ) → i < length w → drop i w ≡ (get_or w i 0 ∷ []) ++ drop (i + 1) w
word_more w i h = rw (add-one, drop-cons w i 0)

pub word_done : (w : List ℕ) (i : ℕ) → length w ≤ i → drop i w ≡ []
word_done w i h = drop_of_length-le w h
