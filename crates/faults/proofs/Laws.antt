-- Laws of the tests of refusals 5 to 10 and 14 to 19: one for each way out of a test, and of a loop over the places of a message.
use Prim.Native.Nat.{ℕ, ◌+◌, ◌-◌, ◌*◌, ◌≤◌, ◌<◌}
use mathlib.Core.Path.{◌≡◌, refl, sym, ◌∙◌, ap, subst}
use mathlib.Core.Logic.{◌⊎◌, inl, inr}
use mathlib.Core.Bool.{true, false}
use mathlib.Core.List.{List, [], ◌∷◌}
use native.Mathlib.Omega.{arith}
use borrow.Author.Tests.{lt-ltb, le-ltb, le-leb, lt-leb}
use lib.ListN.{length, length-map, get_or, take, drop}
use lib.Seq.{length-take-le, get_or-take}
use lib.Dec.{ltb, leb}
use Rattle.std.specs.declared.option.Option.{Option}
use Rattle.scope.specs.Plan.{Plan, at, second_at, second_count, flagged, place_at, place_size, places_at, after_places, place_count, message_at, link_of}
use Rattle.scope.specs.Good.{links_of, head_of, end_of, slots_rise}
use Rattle.scope.specs.PathRules.{begins_at}
use Rattle.rows.specs.declared.RowPlace.{RowPlace}
use Rattle.rows.specs.View.{IsPlace}
use Rattle.rows.proofs.Index.{places_suc}
use Rattle.rows.proofs.Parts.{numbers-length, numbers-part, places_length, places_at_lem, places_all, places_more, places_none}
use Rattle.rows.proofs.Second.{no_links, some-links, links-next}
use Rattle.table.specs.Table.{entry_at}
use Rattle.paths.specs.Path.{FirstLinks, Earliest, order, at_of, step_of, path_rule}
use Rattle.paths.proofs.Laws.{head_first}
use Rattle.paths.specs.declared.Fault.{Fault}
use Rattle.paths.specs.declared.Rule.{Rule}
use Rattle.faults.specs.Broken.{held_below, FirstFault, SecondFault, SecondsFault, PlaceFault, place_in, second_of}
use Rattle.faults.proofs.Seconds.{first_fault_lem}

-- a loop over the places of the message at index i, at place k of n, which stands at index j
pub record Passing (row : List ℕ) (i n j k : ℕ) : Type 0 where
  pub index : j ≡ after_places row (i + 1) k
  pub small : j ≤ i + 1 + k * 65540
  pub most : k ≤ n

module _ (row : List ℕ) (i n : ℕ) where
  pub passing_first : Passing row i n (i + 1) 0
  unfolding after_places
  passing_first = record { index = refl; small = omega arith; most = omega arith }

  pub passing_next : (j k : ℕ) (here : RowPlace) → Passing row i n j k → k < n → IsPlace row j here → Passing row i n here.next (k + 1)
  passing_next j k here p h is =
      record {
        index = is.next ∙ ap (λ x. x + place_size row x) p.index ∙ sym (places_suc row (i + 1) k);
        small = omega (arith, is.near, p.small);
        most = omega arith;
      }

  pub all_left : n ≡ place_count row i → places_at row (i + 1) (n - 0) ≡ message_at row i
  all_left e = places_all row (i + 1) n ∙ ap (places_at row (i + 1)) e

  -- the place that it is at, and that it has passed all
  module _ (j k : ℕ) (e : n ≡ place_count row i) (p : Passing row i n j k) where
    pub place-of : k < n → (plan : Plan) (end : ℕ) (r : Option (Fault Rule)) → PlaceFault plan end (place_at row j) r →
        PlaceFault plan end (place_in (message_at row i) k) r
    place-of h plan end r f =
        let is : place_in (message_at row i) k ≡ place_at row j =
        places_at_lem row (record { link = 0; slot = 0; second = [] }) (i + 1) (place_count row i) k (omega (arith, e)) ∙
        ap (place_at row) (sym p.index) in
        rw is f

    pub all_passed : n ≤ k → k ≡ length (message_at row i)
    all_passed h = let z : k ≡ place_count row i = omega (arith, e, p.most) in z ∙ sym (places_length row (i + 1) (place_count row i))

module _ (row : List ℕ) (n j k : ℕ) where
  module _ (here : RowPlace) (is : IsPlace row j here) (h : k < n) where
    -- the places left: this one, and those after it
    more : places_at row j (n - k) ≡ place_at row j ∷ places_at row here.next (n - (k + 1))
    more = places_more row j n k h ∙ ap (λ x. place_at row j ∷ places_at row x (n - (k + 1))) (sym is.next)

    -- slots: one is below the least or not below t, one is good
    module _ (t least : ℕ) where
      pub slots_out : (here.slot < least) ⊎ ((least ≤ here.slot) × (t ≤ here.slot)) → slots_rise t least (places_at row j (n - k)) ≡ false
      unfolding slots_rise
      slots_out (inl b) = let s : ltb (at row (j + 1)) least ≡ true = lt-ltb (at row (j + 1)) least (omega (arith, is.slot)) in rw (more, s)
      slots_out (inr b) =
          let r : ltb (at row (j + 1)) least ≡ false = le-ltb (at row (j + 1)) least (omega (arith, is.slot)) in
          let s : ltb (at row (j + 1)) t ≡ false = le-ltb (at row (j + 1)) t (omega (arith, is.slot)) in
          rw (more, r, s)

      pub slots_next : least ≤ here.slot → here.slot < t →
          slots_rise t (here.slot + 1) (places_at row here.next (n - (k + 1))) ≡ slots_rise t least (places_at row j (n - k))
      unfolding slots_rise
      slots_next a b =
          let r : ltb (at row (j + 1)) least ≡ false = le-ltb (at row (j + 1)) least (omega (arith, is.slot)) in
          let s : ltb (at row (j + 1)) t ≡ true = lt-ltb (at row (j + 1)) t (omega (arith, is.slot)) in
          rw (more, r, s, is.slot)

    -- entries of a table: one is a lower message's, one is not
    module _ (table : List ℕ) (m entry : ℕ) (fe : entry ≡ entry_at table here.slot here.link) where
      there : entry ≡ entry_at table (at row (j + 1)) (at row j)
      there = fe ∙ ap (λ s. entry_at table s here.link) is.slot ∙ ap (entry_at table (at row (j + 1))) is.link

      pub held_there : entry ≤ m → held_below table m (places_at row j (n - k)) ≡ true
      unfolding held_below
      held_there b =
          let s : leb (entry_at table (at row (j + 1)) (at row j)) m ≡ true = le-leb (entry_at table (at row (j + 1)) (at row j)) m
          (omega (arith, there)) in
          rw (more, s)

      pub held_next : m < entry → held_below table m (places_at row here.next (n - (k + 1))) ≡ held_below table m (places_at row j (n - k))
      unfolding held_below
      held_next b =
          let s : leb (entry_at table (at row (j + 1)) (at row j)) m ≡ false = lt-leb (entry_at table (at row (j + 1)) (at row j)) m
          (omega (arith, there)) in
          rw (more, s)

  -- none is left
  pub slots_done : (t least : ℕ) → n ≤ k → slots_rise t least (places_at row j (n - k)) ≡ true
  unfolding slots_rise
  slots_done t least h = rw (places_none row j n k h)

  pub held_done : (table : List ℕ) (m : ℕ) → n ≤ k → held_below table m (places_at row j (n - k)) ≡ false
  unfolding held_below
  held_done table m h = rw (places_none row j n k h)

-- the second path of a place: there is none, or it is a part of the row
module _ (row : List ℕ) (i : ℕ) (here : RowPlace) (is : IsPlace row i here) where
  pub second_none : here.count ≡ 0 → second_at row i ≡ []
  second_none h = let t : flagged row i ≡ false = no_links row i here is h in rw t

  module _ (h : here.count ≡ 0 → ⊥) (b : i + place_size row i ≤ length row) where
    set : flagged row i ≡ true
    set = some-links row i here is h

    pub second-within : here.next ≤ length row
    second-within = omega (arith, is.next, b)

    pub second_order : here.second < here.next
    second_order = omega (arith, is.second, links-next row i here is set)

    pub second-part : take (here.next - here.second) (drop here.second row) ≡ second_at row i
    second-part =
        let t : flagged row i ≡ true = set in
        let n : here.next - here.second ≡ second_count row i = omega (arith, is.second, links-next row i here is set) in
        let s : here.second ≡ i + 4 = is.second in
        let w : i + 4 + second_count row i ≤ length row = omega (arith, links-next row i here is set, second-within) in
        rw (t, n, s) (sym (numbers-part row (i + 4) (second_count row i) w))

    pub second-some : 0 < length (take (here.next - here.second) (drop here.second row))
    second-some =
        let t : flagged row i ≡ true = set in
        let n : length (second_at row i) ≡ second_count row i = rw t (numbers-length row (i + 4) (second_count row i)) in
        omega (arith, ap length second-part, n)

    pub place_fault_lem : (plan : Plan) (end : ℕ) (r : Option (Fault Rule)) →
        PlaceFault plan end (second_of here.link (take (here.next - here.second) (drop here.second row))) r →
        PlaceFault plan end (place_at row i) r
    place_fault_lem plan end r g =
        let f : PlaceFault plan end (second_of (at row i) (second_at row i)) r = rw (← is.link, ← second-part) g in
        f

-- the links of a first path in a buffer: where it begins, and which they are
module _ (row : List ℕ) (plan : Plan) (i n : ℕ) (entry buffer : List ℕ) (links : FirstLinks row i entry buffer n) where
  pub count-is : n ≤ length buffer → n ≡ length (take n buffer)
  count-is h = sym (length-take-le n buffer h)

  pub begins-is : (link_of plan (get_or buffer 0 0)).from ≡ begins_at plan (links_of (message_at row i))
  begins-is = ap (λ e. (link_of plan e).from) (head ∙ ap head_of links.are)
    where
      head : get_or buffer 0 0 ≡ head_of (take n buffer)
      head = sym (get_or-take n buffer 0 0 (omega (arith, links.count))) ∙ head_first (take n buffer)

  -- what the walk over them found is what the message's first path breaks
  pub first_path : (v : ℕ) → v ≡ (link_of plan (get_or buffer 0 0)).from → (r : Option (Fault Rule)) →
      Earliest (path_rule plan v (take n buffer)) 5 (length (take n buffer)) (order r) (step_of r) → at_of r ≡ step_of r →
      FirstFault plan (message_at row i) r
  first_path v fv r g same =
      let ps = message_at row i in
      let walk : Earliest (path_rule plan (begins_at plan (links_of ps)) (links_of ps)) 5 (length ps) (order r) (step_of r) =
      rw (← begins-is, ← fv, ← length-map ps (λ p. p.link), ← links.are) g in
      first_fault_lem (path_rule plan (begins_at plan (links_of ps)) (links_of ps)) (length ps) r walk same

  -- and they say where it ends
  pub second_paths_lem : (end : ℕ) → end ≡ end_of plan (take n buffer) → (r : Option (Fault Rule)) → SecondsFault plan end (message_at row i) r →
      SecondFault plan (message_at row i) r
  second_paths_lem end fe r g = subst (λ e. SecondsFault plan e (message_at row i) r) (fe ∙ ap (end_of plan) links.are) g
