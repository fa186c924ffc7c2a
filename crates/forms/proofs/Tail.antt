-- How a file ends: "zero bits up to the next whole byte, and nothing after".
use Prim.Native.Nat.{ℕ, zero, suc, ◌+◌, ◌-◌, ◌*◌, ◌<◌}
use mathlib.Core.Path.{◌≡◌, refl, sym, ◌∙◌, ap}
use mathlib.Core.Bool.{Bool, true, false, cond, ◌&&◌}
use mathlib.Core.List.{List, [], ◌∷◌}
use native.Mathlib.Omega.{arith}
use lib.ListN.{length, take, drop, replicate, length-drop}
use lib.Seq.{take_all}
use lib.Dec.{ltb, eqb}
use lib.Pow.{pow_pos}
use borrow.Author.Tests.{lt-ltb, le-ltb, eq-eqb, eqb-true}
use Rattle.scope.specs.Outcome.{gives, refuse}
use Rattle.scope.specs.Bits.{bits, number_from, field_at}
use Rattle.scope.specs.File.{zeros, ends_at, whole_bytes}
use Rattle.bits.proofs.Laws.{number-from, length-bits}

pub and_split : (a b : Bool) → (a && b) ≡ true → (a ≡ true) × (b ≡ true)
and_split true b e = (refl, e)
and_split false b e = let z : ◌≡◌ {A = ℕ} 0 1 = cc in absurd (omega arith)

-- bits are zeros exactly if they say 0
pub zeros-are : (bs : List ℕ) → zeros bs ≡ true → bs ≡ replicate (length bs) 0
unfolding zeros
zeros-are [] z = refl
zeros-are (b ∷ bs) z =
    let both = and_split (eqb b 0) (zeros bs) z in
    let e : b ≡ 0 = eqb-true b 0 both.0 in
    rw e (ap (λ (l : List ℕ). 0 ∷ l) (zeros-are bs both.1))

pub zeros-number : (bs : List ℕ) → zeros bs ≡ true → number_from 0 bs ≡ 0
unfolding zeros number_from
zeros-number [] z = refl
zeros-number (b ∷ bs) z =
    let both = and_split (eqb b 0) (zeros bs) z in
    let e : 0 * 2 + b ≡ 0 = omega (arith, eqb-true b 0 both.0) in
    rw e (zeros-number bs both.1)

pub number-zeros : (bs : List ℕ) → number_from 0 bs ≡ 0 → zeros bs ≡ true
unfolding zeros number_from
number-zeros [] z = refl
number-zeros (b ∷ bs) z =
    let both = none (0 * 2 + b) z in
    rw (eq-eqb b 0 (omega (arith, both.0))) (number-zeros bs both.1)
  where
    none : (a : ℕ) → number_from a bs ≡ 0 → (a ≡ 0) × (number_from 0 bs ≡ 0)
    none zero e = (refl, e)
    none (suc a) e = absurd (omega (arith, number-from (suc a) bs, pow_pos (length bs)))

module _ (file : List ℕ) (end : ℕ) where
  pub ends_more : whole_bytes end < length file → ends_at (bits file) end ≡ refuse 4 end
  unfolding ends_at
  ends_more l = rw (le-ltb (length (bits file)) (end + 8) (rw length-bits (omega arith)))

  rest : whole_bytes end ≡ length file → take (8 * whole_bytes end - end) (drop end (bits file)) ≡ drop end (bits file)
  rest e = take_all (8 * whole_bytes end - end) (drop end (bits file)) (rw (length-drop, length-bits) (omega arith))

  pub ends_zero : whole_bytes end ≡ length file → field_at (bits file) end (8 * whole_bytes end - end) ≡ 0 → ends_at (bits file) end ≡ gives end
  unfolding ends_at
  ends_zero e z =
      rw (
        lt-ltb (length (bits file)) (end + 8) (rw length-bits (omega arith)),
        number-zeros (drop end (bits file)) (ap (number_from 0) (sym (rest e)) ∙ z),
      )

  pub ends_one : whole_bytes end ≡ length file → (field_at (bits file) end (8 * whole_bytes end - end) ≡ 0 → ⊥) →
      ends_at (bits file) end ≡ refuse 4 end
  unfolding ends_at
  ends_one e h = by (zeros (drop end (bits file))) refl
    where
      by : (t : Bool) → zeros (drop end (bits file)) ≡ t →
          cond (ltb (length (bits file)) (end + 8) && zeros (drop end (bits file))) (gives end) (refuse 4 end) ≡ refuse 4 end
      by true z = absurd (h (ap (number_from 0) (rest e) ∙ zeros-number (drop end (bits file)) z))
      by false z = rw (z, lt-ltb (length (bits file)) (end + 8) (rw length-bits (omega arith)))
