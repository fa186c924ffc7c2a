-- Laws of "the lowest such": for loops that look for it, and for readers.
use Prim.Native.Nat.{ℕ, zero, suc, ◌+◌, ◌-◌, ◌≤◌, ◌<◌}
use mathlib.Core.Path.{◌≡◌, refl}
use mathlib.Core.Bool.{Bool, true, false, cond}
use native.Mathlib.Omega.{arith}
use lib.Dec.{ltb}
use borrow.Author.Tests.{ltb-true, ltb-false}
use Rattle.scope.specs.Lowest.{seek}

module _ (test : ℕ → Bool) where
  -- a loop at i, with the numbers below n to look at: it is found, it goes on, it is done
  pub seek_found : (n i : ℕ) → i < n → test i ≡ true → seek test (n - i) i ≡ i
  unfolding seek
  seek_found n i h t =
      let e : n - i ≡ suc (n - (i + 1)) = omega arith in
      rw (e, t)

  pub seek-next : (n i : ℕ) → i < n → test i ≡ false → seek test (n - i) i ≡ seek test (n - (i + 1)) (i + 1)
  unfolding seek
  seek-next n i h t =
      let e : n - i ≡ suc (n - (i + 1)) = omega arith in
      rw (e, t)

  pub seek-done : (n i : ℕ) → n ≤ i → seek test (n - i) i ≡ i
  unfolding seek
  seek-done n i h =
      let e : n - i ≡ zero = omega arith in
      rw e

  -- it lies between the first number looked at and the one after the last
  pub seek-from : (n i : ℕ) → i ≤ seek test n i
  unfolding seek
  seek-from zero i = omega arith
  seek-from (suc n) i = by (test i) (seek-from n (i + 1))
    where
      by : (t : Bool) → i + 1 ≤ seek test n (i + 1) → i ≤ cond t i (seek test n (i + 1))
      by true h = omega arith
      by false h = omega arith

  pub seek-most : (n i : ℕ) → seek test n i ≤ i + n
  unfolding seek
  seek-most zero i = omega arith
  seek-most (suc n) i = by (test i) (seek-most n (i + 1))
    where
      by : (t : Bool) → seek test n (i + 1) ≤ i + 1 + n → cond t i (seek test n (i + 1)) ≤ i + suc n
      by true h = omega arith
      by false h = omega arith

  -- what was found passes the test
  pub seek_is : (n i : ℕ) → seek test n i < i + n → test (seek test n i) ≡ true
  unfolding seek
  seek_is zero i h = let z : i < i = omega arith in absurd (omega arith)
  seek_is (suc n) i h = by (test i) refl h (seek_is n (i + 1))
    where
      by : (t : Bool) → test i ≡ t → cond t i (seek test n (i + 1)) < i + suc n →
          (seek test n (i + 1) < i + 1 + n → test (seek test n (i + 1)) ≡ true) → test (cond t i (seek test n (i + 1))) ≡ true
      by true e h r = e
      by false e h r = r (omega arith)

  -- and nothing before it does
  pub seek-low : (n i j : ℕ) → i ≤ j → j < seek test n i → test j ≡ false
  unfolding seek
  seek-low zero i j h g = absurd (omega arith)
  seek-low (suc n) i j h g = by (test i) refl g (λ k. seek-low n (i + 1) j k)
    where
      at : (k : ℕ) → i ≡ k → test i ≡ false → test k ≡ false
      at k e t = rw e at t

      split : (b : Bool) → ltb i j ≡ b → test i ≡ false → j < seek test n (i + 1) →
          (i + 1 ≤ j → j < seek test n (i + 1) → test j ≡ false) → test j ≡ false
      split true b e g r = let l : i < j = ltb-true i j b in r (omega arith) g
      split false b e g r = let l : j ≤ i = ltb-false i j b in at j (omega arith) e

      by : (t : Bool) → test i ≡ t → j < cond t i (seek test n (i + 1)) →
          (i + 1 ≤ j → j < seek test n (i + 1) → test j ≡ false) → test j ≡ false
      by true e g r = absurd (omega arith)
      by false e g r = split (ltb i j) refl e g r

-- tests that agree on the numbers looked at find the same
pub seek-same : (s t : ℕ → Bool) (n i : ℕ) → ((j : ℕ) → i ≤ j → j < i + n → s j ≡ t j) → seek s n i ≡ seek t n i
unfolding seek
seek-same s t zero i h = refl
seek-same s t (suc n) i h =
    let here : s i ≡ t i = h i (omega arith) (omega arith) in
    let more : seek s n (i + 1) ≡ seek t n (i + 1) = seek-same s t n (i + 1) (λ j a b. h j (omega arith) (omega arith)) in
    rw (here, more)
