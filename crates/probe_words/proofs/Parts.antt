-- Laws of parts of a list: a part moved to the front, and bytes as pairs of digits.
use Rattle.std.proofs.Common.{◌≡◌, ℕ, ◌+◌, ◌-◌, ◌/◌, ◌%◌, ◌≤◌, ◌<◌, List, [], ◌∷◌, ◌++◌, length, get_or, take, drop, refl, arith, add-one, drop-cons, length-take, length-drop, le-leb, Bool, true, false, cond, ◌&&◌, ◌⊎◌, leb, inl, inr}
use Rattle.std.proofs.lemmas.Bool.{lt-leb}
use lib.ListN.{drop_of_length-le}
use Rattle.std.specs.List.{copy_within}
use Rattle.text.specs.Text.{Puts}
use Rattle.text.proofs.Laid.{laid-front, puts_none}
use Rattle.probe_words.specs.Words.{part_of, glyph_of, pairs_of}

-- bytes as pairs of digits, at an index
pub pairs-more : (s : List ℕ) (i : ℕ) → i < length s →
    pairs_of (drop i s) ≡ (glyph_of (get_or s i 0 / 16) ∷ glyph_of (get_or s i 0 % 16) ∷ []) ++ pairs_of (drop (i + 1) s)
unfolding pairs_of
pairs-more s i h = rw (drop-cons s i 0, add-one)

pub pairs-done : (s : List ℕ) (i : ℕ) → length s ≤ i → pairs_of (drop i s) ≡ []
unfolding pairs_of
pairs-done s i h = rw (drop_of_length-le s h)

-- a part that is none, and one that has been copied to the front
pub no_part : {P : Type 0} (s : List ℕ) (from to : ℕ) → (to ≤ from) ⊎ (P × (length s < to)) → Puts (part_of s from to) s s 0 0
no_part s from to h = let e : part_of s from to ≡ [] = elim h [ inl l ↦ turned l | inr l ↦ long l.1 ] in rw e (puts_none s 0)
  where
    turned : to ≤ from → part_of s from to ≡ []
    turned l = by (leb from to) (leb to (length s))
      where
        by : (t u : Bool) → cond (t && u) (take (to - from) (drop from s)) [] ≡ []
        by true true = let e : to - from ≡ 0 = omega arith in rw e
        by true false = refl
        by false u = refl

    long : length s < to → part_of s from to ≡ []
    long l = rw (lt-leb to (length s) l) (by (leb from to))
      where
        by : (t : Bool) → cond (t && false) (take (to - from) (drop from s)) [] ≡ []
        by true = refl
        by false = refl

pub moved : (b : List ℕ) (from to : ℕ) → from < to → to ≤ length b → Puts (part_of b from to) b (copy_within b from to 0) 0 (to - from)
moved b from to h l =
    let e : part_of b from to ≡ take (to - from) (drop from b) = rw (le-leb from to (omega arith), le-leb to (length b) l) in
    let n : length (take (to - from) (drop from b)) ≡ to - from = simp (length-take, length-drop) (omega arith) in
    rw e (record { buffer = rw (laid-front b (take (to - from) (drop from b)) (omega arith), n) (grind arith); ends = omega arith })
