-- Of a longer text, what `pack` reads decides: in six bytes for each there are as many numbers, or a word that is none and ends the row.
use Prim.Native.Nat.{ℕ, zero, suc, ◌+◌, ◌-◌, ◌*◌, ◌≤◌, ◌<◌}
use mathlib.Core.Path.{◌≡◌, refl, sym, ◌∙◌, ap, subst}
use mathlib.Core.Bool.{Bool, true, false, not, cond, ◌||◌, false≢true}
use mathlib.Core.List.{List, [], ◌∷◌}
use mathlib.Core.Logic.{◌⊎◌, inl, inr}
use native.Mathlib.Omega.{arith}
use lib.ListN.{length, get_or, take, length-take}
use lib.Seq.{take_all}
use lib.Dec.{ltb}
use borrow.Author.Tests.{ltb-true, leb-true}
use Rattle.scope.specs.Outcome.{Answer}
use Rattle.std.specs.Prelude.{Ok}
use Rattle.scope.specs.Lines.{is_digit}
use Rattle.scope.proofs.Bools.{and_left, and_right}
use Rattle.text.specs.Reading.{goes_on}
use Rattle.listing.specs.Prints.{Front}
use Rattle.plan.specs.Answers.{Writes}
use Rattle.plan.proofs.Reading.{write_fit}
use Rattle.row_text.specs.Rows.{ends, no_number, numbers_from, numbers_of, pack_room, Packs}
use Rattle.row_text.proofs.Front.{writes-front, front-writes}

-- two rows are the same, or have n numbers, the same ones in both, at their front
abbrev Alike : ℕ → List ℕ → List ℕ → Type 0
Alike n x y = (x ≡ y) ⊎ ((n ≤ length x) × (n ≤ length y) × (take n x ≡ take n y))

-- the least that d digits say without a needless zero
abbrev least : ℕ → ℕ
least d = get_or (0 ∷ 0 ∷ 10 ∷ 100 ∷ 1000 ∷ 10000 ∷ []) d 100000

one_digit_more : (d a x : ℕ) → d ≤ 5 → least d ≤ a → (0 < d → 0 < a) → least (suc d) ≤ a * 10 + x
one_digit_more zero a x h l s = omega arith
one_digit_more (suc zero) a x h l s = let p = s (omega arith) in omega arith
one_digit_more (suc (suc zero)) a x h l s = omega arith
one_digit_more (suc (suc (suc zero))) a x h l s = omega arith
one_digit_more (suc (suc (suc (suc zero)))) a x h l s = omega arith
one_digit_more (suc (suc (suc (suc (suc zero))))) a x h l s = omega arith
one_digit_more (suc (suc (suc (suc (suc (suc d)))))) a x h l s = absurd (omega arith)

five_digits : (d a : ℕ) → d ≤ 5 → least (suc d) ≤ a → a ≤ 65535 → suc d ≤ 5
five_digits zero a h l m = omega arith
five_digits (suc zero) a h l m = omega arith
five_digits (suc (suc zero)) a h l m = omega arith
five_digits (suc (suc (suc zero))) a h l m = omega arith
five_digits (suc (suc (suc (suc zero)))) a h l m = omega arith
five_digits (suc (suc (suc (suc (suc zero))))) a h l m = absurd (omega arith)
five_digits (suc (suc (suc (suc (suc (suc d)))))) a h l m = absurd (omega arith)

-- a byte that goes on with a number is one digit more of at most five
pub goes : (begun : Bool) (d a b : ℕ) → d ≤ 5 → least d ≤ a → (0 < d → begun ≡ true) → goes_on 65535 begun a b ≡ true →
    (suc d ≤ 5) × (least (suc d) ≤ a * 10 + (b - 48))
goes begun d a b h l s g =
    let rest = and_right (is_digit b) _ g in
    let small = leb-true (a * 10 + (b - 48)) 65535 (and_right (not begun || ltb 0 a) _ rest) in
    let more = one_digit_more d a (b - 48) h l (λ p. some begun (s p) (and_left (not begun || ltb 0 a) _ rest)) in
    (five_digits d (a * 10 + (b - 48)) h more small, more)
  where
    some : (t : Bool) → t ≡ true → (not t || ltb 0 a) ≡ true → 0 < a
    some true e o = ltb-true 0 a o
    some false e o = absurd (false≢true e)

-- one number more in front of both
with_number : (n a : ℕ) (x y : List ℕ) → Alike n x y → Alike (suc n) (a ∷ x) (a ∷ y)
with_number n a x y (inl e) = inl (ap (λ (z : List ℕ). a ∷ z) e)
with_number n a x y (inr e) = inr (omega (arith, e.0), omega (arith, e.1), ap (λ (z : List ℕ). a ∷ z) e.2)

-- a text and its first bytes, six for each of n numbers but for the d digits that were read already
alike : (n d : ℕ) (begun : Bool) (a k : ℕ) (text : List ℕ) → d ≤ 5 → least d ≤ a → (0 < d → begun ≡ true) → 6 * n ≤ k + d →
    Alike n (numbers_from begun a (take k text)) (numbers_from begun a text)
unfolding numbers_from
alike zero d begun a k text h l s r = inr (omega arith, omega arith, refl)
alike (suc n) d begun a zero text h l s r = absurd (omega arith)
alike (suc n) d begun a (suc k) [] h l s r = inl refl
alike (suc n) d begun a (suc k) (b ∷ text) h l s r =
    by (goes_on 65535 begun a b) refl (ends begun b) refl
    (λ g. let m = goes begun d a b h l s g in alike (suc n) (suc d) true (a * 10 + (b - 48)) k text m.0 m.1 (λ p. refl) (omega arith))
    (alike n 0 false 0 k text (omega arith) (omega arith) (λ p. absurd (omega arith)) (omega arith))
  where
    by : (g : Bool) → goes_on 65535 begun a b ≡ g → (e : Bool) → ends begun b ≡ e →
        (goes_on 65535 begun a b ≡ true →
        Alike (suc n) (numbers_from true (a * 10 + (b - 48)) (take k text)) (numbers_from true (a * 10 + (b - 48)) text)) →
        Alike n (numbers_from false 0 (take k text)) (numbers_from false 0 text) →
        Alike (suc n)
        (cond g (numbers_from true (a * 10 + (b - 48)) (take k text)) (cond e (a ∷ numbers_from false 0 (take k text)) (no_number ∷ [])))
        (cond g (numbers_from true (a * 10 + (b - 48)) text) (cond e (a ∷ numbers_from false 0 text) (no_number ∷ [])))
    by true g e x more rest = more g
    by false g true x more rest = with_number n a _ _ rest
    by false g false x more rest = inl refl

-- so what is written of what `pack` reads of a text is written of the whole text
pub packs_whole : (text entry exit : List ℕ) (n : ℕ) (r : Answer) → length text ≡ pack_room → Writes (numbers_of (take n text)) entry exit r →
    Packs text n entry exit r
packs_whole text entry exit n r l w = record { all = λ whole f. written whole (f ∙ ap (λ (k : ℕ). take k whole) l) }
  where
    same : (row other : List ℕ) → row ≡ other → Writes row entry exit r → Writes other entry exit r
    same row other e = subst (λ (z : List ℕ). Writes z entry exit r) e

    by : (row other : List ℕ) → Alike 10406 row other → Writes row entry exit r → Writes other entry exit r
    by row other (inl e) v = same row other e v
    by row other (inr e) v = writes-front other entry e.1 exit r (same _ _ e.2 (front-writes row entry e.0 exit r v))

    written : (whole : List ℕ) → take n text ≡ take pack_room whole → Writes (numbers_of whole) entry exit r
    written whole front =
        by (numbers_of (take pack_room whole)) (numbers_of whole)
        (alike 10406 0 false 0 pack_room whole (omega arith) (omega arith) (λ p. absurd (omega arith)) (omega arith))
        (same _ _ (ap numbers_of front) w)

-- and lies within the bytes that it is written to, since what was read is the front of itself
pub packs_within : (text entry exit : List ℕ) (n : ℕ) (r : Answer) → Packs text n entry exit r → (bytes : ℕ) → r ≡ Ok bytes →
    bytes ≤ length exit
packs_within text entry exit n r p bytes e =
    let front : Front text n (take n text) = sym (take_all (length text) (take n text) (omega (arith, length-take n text))) in
    write_fit _ entry exit r (p.all (take n text) front) bytes e
