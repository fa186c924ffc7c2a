-- Laws of what a message does once it has turned, one for each way.
use Prim.Native.Nat.{ℕ, ◌+◌, ◌-◌, ◌≤◌, ◌<◌}
use mathlib.Core.Path.{◌≡◌, refl, sym, ◌∙◌}
use mathlib.Core.Bool.{Bool, true, false, not}
use mathlib.Core.List.{List}
use native.Mathlib.Omega.{arith}
use lib.Dec.{eqb}
use borrow.Author.Tests.{eq-eqb, ne_eqb, lt-ltb, le-ltb, eqb-true, eqb-false}
use Rattle.scope.specs.Plan.{at, slot_at, places_at}
use Rattle.scope.specs.Slot as S
use Rattle.scope.specs.Slot.{moved, at_target, turn, tries, act}
use Rattle.rows.specs.View.{IsPlace}
use Rattle.rows.specs.declared.RowPlace.{RowPlace}
use Rattle.step.specs.declared.Position.{Position}
use Rattle.step.specs.Where.{left_at, position_of, end_at, end_of, places_after, links_after, does_first, does_second}
use Rattle.step.proofs.Left.{numbers-none, numbers-next, places_none, places_next, after_next, after-size}

some : (n : ℕ) → (n ≡ 0 → ⊥) → 0 < n
some n l = omega (arith, l)

module _ (row : List ℕ) (i n : ℕ) where
  pub home-is : (b : Bool) → eqb n 0 ≡ at_target (left_at row b i n)
  home-is b = by b (eqb n 0) refl
    where
      yes : (b : Bool) → n ≡ 0 → true ≡ at_target (left_at row b i n)
      yes true h = rw (numbers-none row i n h)
      yes false h = rw (places_none row i n h)

      no : (b : Bool) → (n ≡ 0 → ⊥) → false ≡ at_target (left_at row b i n)
      no true h = rw (numbers-next row i n (some n h))
      no false h = rw (places_next row i n (some n h))

      by : (b t : Bool) → eqb n 0 ≡ t → t ≡ at_target (left_at row b i n)
      by b true e = yes b (eqb-true n 0 e)
      by b false e = no b (eqb-false n 0 e)

  -- at its target: it turns, tries and does nothing
  module _ (b : Bool) (h : n ≡ 0) (down : ℕ → Bool) where
    pub home-tries : 0 ≡ tries down (turn down (left_at row b i n))
    home-tries = by b
      where
        by : (b : Bool) → 0 ≡ tries down (turn down (left_at row b i n))
        by true = rw (numbers-none row i n h)
        by false = rw (places_none row i n h)

    pub home-acts : (slot entry : ℕ) (held : Bool) (first : ℕ) →
        moved (left_at row b i n) 0 0 ≡ act down slot entry held first (turn down (left_at row b i n))
    home-acts slot entry held first = by b
      where
        by : (b : Bool) → moved (left_at row b i n) 0 0 ≡ act down slot entry held first (turn down (left_at row b i n))
        by true = rw (numbers-none row i n h)
        by false = rw (places_none row i n h)

module _ (row : List ℕ) (p : Position) (l : 0 < p.left) where
  -- on the first path
  module _ (f : p.turned ≡ false) where
    module _ (here : RowPlace) (is : IsPlace row p.at here) where
      pub past_is : S.on_first (places_at row here.next (p.left - 1)) ≡ S.on_first (places_after row p)
      past_is = rw is.next

      pub past-within : end_at row false here.next (p.left - 1) ≤ end_of row p
      past-within = rw (f, is.next, after_next row p.at p.left l) (omega arith)

      pub past_fits : here.next + (p.left - 1) ≤ end_of row p
      past_fits = rw (f, is.next) (after-size row p.at p.left l)

    module _ (slot e : ℕ) (q : e ≡ at row p.at) (d : Bool) where
      pub first-stays : d ≡ true → S.moved (position_of row p) 6 e ≡ does_first row p d slot
      first-stays h = rw (f, places_next row p.at p.left l, h, q)

      module _ (h : d ≡ false) (s : ℕ) (g : s ≡ slot_at row p.at) where
        pub first_waits : (s ≡ slot → ⊥) → S.moved (position_of row p) 1 e ≡ does_first row p d slot
        first_waits z = rw (f, places_next row p.at p.left l, h, q, ne_eqb (slot_at row p.at) slot (λ y. z (g ∙ y)))

        pub first-crosses : s ≡ slot → (next : S.Position) → next ≡ S.on_first (places_after row p) → S.moved next 2 e ≡ does_first row p d slot
        first-crosses z next n = rw (h, q, n, eq-eqb (slot_at row p.at) slot (sym g ∙ z))

  -- on the second path
  module _ (f : p.turned ≡ true) where
    pub second-within : end_at row true (p.at + 1) (p.left - 1) ≤ end_of row p
    second-within = rw f (omega arith)

    module _ (entry first m e : ℕ) (q : e ≡ at row p.at) (d : Bool) where
      abbrev Does : S.Moved → Type 0
      Does r = r ≡ does_second row p d entry (not (eqb first m)) first

      pub second-stays : d ≡ true → Does (S.moved (position_of row p) 7 e)
      second-stays h = rw (f, numbers-next row p.at p.left l, h, q)

      pub second-table : d ≡ false → 0 < entry → Does (S.moved (position_of row p) 4 (entry - 1))
      second-table h g = rw (f, numbers-next row p.at p.left l, h, lt-ltb 0 entry g)

      pub second_held : d ≡ false → entry ≤ 0 → (first ≡ m → ⊥) → Does (S.moved (position_of row p) 5 first)
      second_held h g k = rw (f, numbers-next row p.at p.left l, h, le-ltb 0 entry g, ne_eqb first m k)

      pub second-crosses : d ≡ false → entry ≤ 0 → first ≡ m → Does (S.moved (S.on_second (links_after row p)) 3 e)
      second-crosses h g k = rw (h, le-ltb 0 entry g, eq-eqb first m k, q)

  -- what it does, by where it stands
  module _ (down : ℕ → Bool) (slot entry : ℕ) (held : Bool) (first : ℕ) (e : ℕ) (q : e ≡ at row p.at) (d : Bool) (c : d ≡ down e) where
    abbrev Is : S.Moved → Type 0
    Is does = does ≡ S.act down slot entry held first (position_of row p)

    pub act-first : p.turned ≡ false → Is (does_first row p d slot)
    act-first f = rw (f, places_next row p.at p.left l, c, q)

    pub act-second : p.turned ≡ true → Is (does_second row p d entry held first)
    act-second f = rw (f, numbers-next row p.at p.left l, c, q)
