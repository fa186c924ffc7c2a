-- Laws of the indexes of places and messages, for loops that pass them one by one.
use Prim.Native.Nat.{ℕ, zero, suc, ◌+◌, ◌-◌, ◌≤◌, ◌<◌}
use mathlib.Core.Path.{◌≡◌, refl, sym, ◌∙◌, ap}
use mathlib.Core.Bool.{true, false}
use mathlib.Core.List.{List}
use native.Mathlib.Numerals.{add-one}
use native.Mathlib.Omega.{arith}
use borrow.Author.Tests.{eq-eqb, ne_eqb}
use Rattle.scope.specs.Plan.{flag_at, flagged, place_size, after_places, after_message, after_messages}

module _ (row : List ℕ) where
  -- the flag of a place that is read as x
  pub flag-set : (i x : ℕ) → x ≡ flag_at row i → x ≡ 1 → flagged row i ≡ true
  flag-set i x e t = eq-eqb (flag_at row i) 1 (sym e ∙ t)

  pub flag-clear : (i x : ℕ) → x ≡ flag_at row i → (x ≡ 1 → ⊥) → flagged row i ≡ false
  flag-clear i x e t = ne_eqb (flag_at row i) 1 (λ h. t (e ∙ h))

  -- a loop at place k of n: it begins, it goes on, it is done
  pub places_first : (i n : ℕ) → after_places row i (n - 0) ≡ after_places row i n
  places_first i n = ap (after_places row i) (omega arith)

  pub places_go : (i n k j : ℕ) → k < n → j ≡ i + place_size row i → after_places row j (n - (k + 1)) ≡ after_places row i (n - k)
  unfolding after_places
  places_go i n k j h e =
      let f : n - k ≡ suc (n - (k + 1)) = omega arith in
      rw (f, e)

  pub places_done : (i n k : ℕ) → n ≤ k → after_places row i (n - k) ≡ i
  unfolding after_places
  places_done i n k h =
      let f : n - k ≡ zero = omega arith in
      rw f

  -- a loop at message k of n goes on
  pub messages-next : (i n k a : ℕ) → k < n → a ≡ after_message row i → after_messages row a (n - (k + 1)) ≡ after_messages row i (n - k)
  unfolding after_messages
  messages-next i n k a h e =
      let f : n - k ≡ suc (n - (k + 1)) = omega arith in
      rw (f, e)

  -- one place more, and one message more
  pub places_suc : (i p : ℕ) → after_places row i (p + 1) ≡ after_places row i p + place_size row (after_places row i p)
  unfolding after_places
  places_suc i p = ap (after_places row i) (add-one p) ∙ more i p
    where
      more : (i p : ℕ) → after_places row i (suc p) ≡ after_places row i p + place_size row (after_places row i p)
      more i zero = refl
      more i (suc p) = more (i + place_size row i) p

  pub messages_suc : (i m : ℕ) → after_messages row i (m + 1) ≡ after_message row (after_messages row i m)
  unfolding after_messages
  messages_suc i m = ap (after_messages row i) (add-one m) ∙ more i m
    where
      more : (i m : ℕ) → after_messages row i (suc m) ≡ after_message row (after_messages row i m)
      more i zero = refl
      more i (suc m) = more (after_message row i) m
