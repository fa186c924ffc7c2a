-- Laws of what is left: its first place or link, and where it ends.
use Prim.Native.Nat.{ℕ, zero, suc, ◌+◌, ◌-◌, ◌≤◌, ◌<◌}
use mathlib.Core.Path.{◌≡◌, ap}
use mathlib.Core.Bool.{Bool, true, false, cond}
use mathlib.Core.List.{List, [], ◌∷◌}
use native.Mathlib.Omega.{arith}
use Rattle.scope.specs.Plan.{at, numbers_at, flagged, place_at, place_size, places_at, after_places, second_count}

module _ (row : List ℕ) where
  pub numbers-none : (i n : ℕ) → n ≡ 0 → numbers_at row i n ≡ []
  unfolding numbers_at
  numbers-none i n h = rw h

  pub numbers-next : (i n : ℕ) → 0 < n → numbers_at row i n ≡ at row i ∷ numbers_at row (i + 1) (n - 1)
  unfolding numbers_at
  numbers-next i n h =
      let e : n ≡ suc (n - 1) = omega arith in
      ap (numbers_at row i) e

  pub places_none : (i n : ℕ) → n ≡ 0 → places_at row i n ≡ []
  unfolding places_at
  places_none i n h = rw h

  pub places_next : (i n : ℕ) → 0 < n → places_at row i n ≡ place_at row i ∷ places_at row (i + place_size row i) (n - 1)
  unfolding places_at
  places_next i n h =
      let e : n ≡ suc (n - 1) = omega arith in
      ap (places_at row i) e

  pub after_next : (i n : ℕ) → 0 < n → after_places row i n ≡ after_places row (i + place_size row i) (n - 1)
  unfolding after_places
  after_next i n h =
      let e : n ≡ suc (n - 1) = omega arith in
      ap (after_places row i) e

  -- a place takes some numbers, so as many places end no nearer
  pub size-some : (i : ℕ) → 3 ≤ place_size row i
  size-some i = by (flagged row i)
    where
      by : (b : Bool) → 3 ≤ cond b (4 + second_count row i) 3
      by true = omega arith
      by false = omega arith

  pub after-least : (i n : ℕ) → i + n ≤ after_places row i n
  unfolding after_places
  after-least i zero = omega arith
  after-least i (suc n) = omega (arith, after-least (i + place_size row i) n, size-some i)

  pub after-size : (i n : ℕ) → 0 < n → i + place_size row i + (n - 1) ≤ after_places row i n
  after-size i n h = rw (after_next i n h) (after-least (i + place_size row i) (n - 1))
