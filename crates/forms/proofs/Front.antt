-- Of a file that is longer than the longest accepted one, one byte more than that decides: the rest changes no answer.
use Prim.Native.Nat.{ℕ, zero, suc, ◌+◌, ◌*◌, ◌^◌, ◌≤◌, ◌<◌}
use mathlib.Core.Path.{◌≡◌, refl, sym, ◌∙◌, ap}
use mathlib.Core.Bool.{Bool, true, false}
use mathlib.Core.List.{List}
use native.Mathlib.Omega.{arith}
use lib.ListN.{length, take, drop, length-drop, take-append-drop}
use lib.Seq.{take-append-le, drop-append-le, length-take-le}
use lib.Dec.{eqb}
use lib.Pow.{pow_pos}
use borrow.Author.Tests.{eqb-true, eqb-false, le-ltb}
use Rattle.scope.specs.declared.Fields.{Fields}
use Rattle.scope.specs.Outcome.{Outcome, gives, refused, refuse, and_then}
use Rattle.scope.specs.Fields.{width, step, opening, edition}
use Rattle.scope.specs.Bits.{bits, field_at, number_from}
use Rattle.scope.specs.File.{walk_bits, ends_at, walk_file}
use Rattle.bits.proofs.Laws.{AreBits, length-bits, bits-take, are-bits, field_small}
use Rattle.scope.specs.Limits.{longest_file}
use Rattle.grammar.proofs.Most.{numbers, wide, falls, numbers-opening, wide_opening}
use Rattle.forms.proofs.Walk.{bits-end, bits-step}
use Rattle.forms.proofs.Accepted.{goes, goes-bound}
use Rattle.forms.proofs.Whole.{file_opens, other-edition}

-- the bits of that many bytes
abbrev enough : ℕ
enough = 8 * (longest_file + 1)

-- a field among the first k bits
field_front : (bs : List ℕ) (k p w : ℕ) → k ≤ length bs → p + w ≤ k → field_at (take k bs) p w ≡ field_at bs p w
field_front bs k p w l h =
    let long : length (take k bs) ≡ k = length-take-le k bs l in
    let inside : p ≤ length (take k bs) = omega arith in
    let room : w ≤ length (drop p (take k bs)) = rw (length-drop p (take k bs), long) (omega arith) in
    ap (number_from 0)
    (sym
    (ap (λ (t : List ℕ). take w (drop p t)) (sym (take-append-drop k bs))
    ∙ ap (take w) (drop-append-le p (take k bs) (drop k bs) inside)
    ∙ take-append-le w (drop p (take k bs)) (drop k bs) room))

-- where no number can follow, no field is left
none_left : (s : Fields) → numbers s ≤ 0 → width s ≡ 0
none_left s h = by (eqb (width s) 0) refl
  where
    by : (t : Bool) → eqb (width s) 0 ≡ t → width s ≡ 0
    by true t = eqb-true (width s) 0 t
    by false t = absurd (omega (arith, falls (λ w. 1) s 0 (eqb-false (width s) 0 t) (pow_pos (width s))))

-- a walk that the first k bits have room for goes the same over them, and so many turns are enough
walk_front : (bs : List ℕ) (k n m : ℕ) (s : Fields) (p : ℕ) → AreBits bs → k ≤ length bs → p + wide s ≤ k → numbers s ≤ n → numbers s ≤ m →
    walk_bits n s p (take k bs) ≡ walk_bits m s p bs
walk_front bs k zero m s p b l room f g = bits-end (take k bs) s p zero (none_left s f) ∙ sym (bits-end bs s p m (none_left s f))
walk_front bs k (suc n) zero s p b l room f g = bits-end (take k bs) s p (suc n) (none_left s g) ∙ sym (bits-end bs s p zero (none_left s g))
walk_front bs k (suc n) (suc m) s p b l room f g =
    by (eqb (width s) 0) refl (walk_front bs k n m (step s (field_at bs p (width s))) (p + width s) b l)
  where
    v : ℕ
    v = field_at bs p (width s)

    by : (t : Bool) → eqb (width s) 0 ≡ t →
        (p + width s + wide (step s v) ≤ k → numbers (step s v) ≤ n → numbers (step s v) ≤ m →
        walk_bits n (step s v) (p + width s) (take k bs) ≡ walk_bits m (step s v) (p + width s) bs) →
        walk_bits (suc n) s p (take k bs) ≡ walk_bits (suc m) s p bs
    by true t more = bits-end (take k bs) s p (suc n) (eqb-true (width s) 0 t) ∙ sym (bits-end bs s p (suc m) (eqb-true (width s) 0 t))
    by false t more =
        let some : width s ≡ 0 → ⊥ = eqb-false (width s) 0 t in
        let first = falls (λ w. w) s 0 some (pow_pos (width s)) in
        let near : p + width s ≤ k = omega arith in
        let inside : p + width s ≤ length bs = omega arith in
        let small : v < 2 ^ width s = field_small bs p (width s) b inside in
        let long : length (take k bs) ≡ k = length-take-le k bs l in
        bits-step (take k bs) s p n some (omega arith)
        ∙ ap (λ (x : ℕ). walk_bits n (step s x) (p + width s) (take k bs)) (field_front bs k p (width s) l near)
        ∙ more (omega (arith, falls (λ w. w) s v some small)) (omega (arith, falls (λ w. 1) s v some small))
        (omega (arith, falls (λ w. 1) s v some small))
        ∙ sym (bits-step bs s p m some inside)

-- where so much follows the last field, it is refused
far : (bs : List ℕ) (end : ℕ) → end + 8 ≤ length bs → ends_at bs end ≡ refuse 4 end
unfolding ends_at
far bs end l = rw (le-ltb (length bs) (end + 8) l)

pub front_decides : (file : List ℕ) → longest_file < length file → walk_file (take (longest_file + 1) file) ≡ walk_file file
front_decides file more = by (eqb (field_at (bits file) 0 4) edition) refl
  where
    short : List ℕ
    short = take (longest_file + 1) file

    size : length short ≡ (longest_file + 1)
    size = length-take-le (longest_file + 1) file more

    is : bits short ≡ take enough (bits file)
    is = bits-take (longest_file + 1) file

    all : length (bits file) ≡ 8 * length file
    all = length-bits file

    kept : enough ≤ length (bits file)
    kept = omega (arith, all)

    long : length (bits short) ≡ enough
    long = ap length is ∙ length-take-le enough (bits file) kept

    same : field_at (bits short) 0 4 ≡ field_at (bits file) 0 4
    same = ap (λ (t : List ℕ). field_at t 0 4) is ∙ field_front (bits file) enough 0 4 kept (omega arith)

    some : length short ≡ 0 → ⊥
    some z = omega (arith, size)

    some' : length file ≡ 0 → ⊥
    some' z = omega arith

    walked : walk_bits (length (bits short)) opening 4 (bits short) ≡ walk_bits (length (bits file)) opening 4 (bits file)
    walked =
        ap (λ (t : List ℕ). walk_bits (length (bits short)) opening 4 t) is
        ∙ walk_front (bits file) enough (length (bits short)) (length (bits file)) opening 4 (are-bits file) kept
        (omega (arith, wide_opening)) (omega (arith, numbers-opening, long)) (omega (arith, numbers-opening, kept))

    after : (o : Outcome) → walk_bits (length (bits file)) opening 4 (bits file) ≡ o →
        and_then o (ends_at (bits short)) ≡ and_then o (ends_at (bits file))
    after (gives end) w =
        let most : end ≤ 4 + wide opening = goes-bound (are-bits file) (goes (bits file) end (length (bits file)) opening 4 w) in
        far (bits short) end (omega (arith, long, wide_opening)) ∙ sym (far (bits file) end (omega (arith, kept, wide_opening)))
    after (refused r) w = refl

    by : (t : Bool) → eqb (field_at (bits file) 0 4) edition ≡ t → walk_file short ≡ walk_file file
    by true t =
        let first : field_at (bits file) 0 4 ≡ edition = eqb-true (field_at (bits file) 0 4) edition t in
        file_opens short some (same ∙ first)
        ∙ ap (λ (o : Outcome). and_then o (ends_at (bits short))) walked
        ∙ after (walk_bits (length (bits file)) opening 4 (bits file)) refl
        ∙ sym (file_opens file some' first)
    by false t =
        let other : field_at (bits file) 0 4 ≡ edition → ⊥ = eqb-false (field_at (bits file) 0 4) edition t in
        other-edition short some (λ e. other (sym same ∙ e)) ∙ sym (other-edition file some' other)
