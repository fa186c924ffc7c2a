-- Slots that rise, taken apart and put together again.
use Prim.Native.Nat.{ℕ, ◌+◌, ◌≤◌, ◌<◌}
use native.Mathlib.Omega.{arith}
use mathlib.Core.Path.{◌≡◌, refl}
use mathlib.Core.Bool.{true, not, ◌&&◌, and-eq-true_iff}
use mathlib.Core.List.{List, [], ◌∷◌}
use lib.Dec.{ltb}
use borrow.Author.Tests.{ltb-true, ltb-false, lt-ltb, le-ltb, not-true}
use Rattle.scope.specs.Plan.{Place}
use Rattle.scope.specs.Good.{slots_rise}

pub record Rises (t least : ℕ) (p : Place) (ps : List Place) : Type 0 where
  pub low : least ≤ p.slot
  pub high : p.slot < t
  pub rest : slots_rise t (p.slot + 1) ps ≡ true

pub rises : (t least : ℕ) (p : Place) (ps : List Place) → slots_rise t least (p ∷ ps) ≡ true → Rises t least p ps
unfolding slots_rise
rises t least p ps h =
    let two = (and-eq-true_iff (not (ltb p.slot least) && ltb p.slot t) (slots_rise t (p.slot + 1) ps)).0 h in
    let one = (and-eq-true_iff (not (ltb p.slot least)) (ltb p.slot t)).0 two.0 in
    record {
      low = ltb-false p.slot least (not-true (ltb p.slot least) one.0);
      high = ltb-true p.slot t one.1;
      rest = two.1;
    }

pub rising : (t least : ℕ) (p : Place) (ps : List Place) → Rises t least p ps → slots_rise t least (p ∷ ps) ≡ true
unfolding slots_rise
rising t least p ps r = rw (le-ltb p.slot least r.low, lt-ltb p.slot t r.high) r.rest

-- slots that rise from a later slot on rise from an earlier one on
pub earlier : (t a b : ℕ) (ps : List Place) → a ≤ b → slots_rise t b ps ≡ true → slots_rise t a ps ≡ true
unfolding slots_rise
earlier t a b [] h r = refl
earlier t a b (p ∷ ps) h r =
    let s = rises t b p ps r in
    rising t a p ps (record { low = omega (arith, s.low); high = s.high; rest = s.rest })
