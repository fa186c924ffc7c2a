-- Laws of a message's turn, one for each way, and of what follows it.
use Prim.Native.Nat.{ℕ, ◌+◌, ◌≤◌, ◌<◌}
use mathlib.Core.Path.{◌≡◌, sym, ◌∙◌, ap}
use mathlib.Core.Bool.{Bool, true, false}
use mathlib.Core.List.{List}
use native.Mathlib.Omega.{arith}
use Rattle.scope.specs.Plan.{at, numbers_at, flagged, second_start, second_count}
use Rattle.scope.specs.Slot.{on_second, turn}
use Rattle.rows.specs.View.{IsPlace}
use Rattle.rows.specs.declared.RowPlace.{RowPlace}
use Rattle.rows.proofs.Second.{no_links, some-links, links-count, links-next, links-are}
use Rattle.step.specs.declared.Position.{Position}
use Rattle.step.specs.declared.Met.{Met}
use Rattle.step.specs.declared.Moved.{Moved}
use Rattle.step.specs.Where.{position_of, end_of, does_first, does_second, Leads, Acts, Faces, Meets, MetActs}
use Rattle.step.proofs.Left.{numbers-next, places_next, after-size}
use Rattle.step.proofs.Steps.{act-first, act-second}

-- the position at the front of a place's second path
abbrev pub turned_to : RowPlace → Position
turned_to place = record { at = place.second; left = place.count; turned = true }

module _ (row : List ℕ) (down : ℕ → Bool) (p : Position) (some : 0 < p.left) where
  -- where it stands after its turn, it faces the link before it
  by : (q : Position) (r : Met) → Leads row p (turn down (position_of row p)) q → 0 < q.left → Faces row down q r → Meets row down p r
  by q r t l f =
      record {
        turned = rw f.same t;
        left = rw f.same l;
        link = rw f.same f.link;
        cut = f.cut;
      }

  module _ (r : Met) (here : Faces row down p r) where
    stays : position_of row p ≡ turn down (position_of row p) → Meets row down p r
    stays e = by p r (record { is = e; within = omega arith }) some here

    pub meets_turned : p.turned ≡ true → Meets row down p r
    meets_turned h = stays (rw h)

    module _ (f : p.turned ≡ false) where
      abbrev cut : down (at row p.at) ≡ r.down
      cut = sym (here.cut ∙ ap down here.link)

      pub meets_whole : r.down ≡ false → Meets row down p r
      meets_whole h = stays (rw (f, places_next row p.at p.left some, cut, h))

      module _ (h : r.down ≡ true) (place : RowPlace) (is : IsPlace row p.at place) where
        pub meets_none : place.count ≡ 0 → Meets row down p r
        meets_none z = stays (rw (f, places_next row p.at p.left some, cut, h, no_links row p.at place is z))

        module _ (z : place.count ≡ 0 → ⊥) where
          abbrev flag : flagged row p.at ≡ true
          flag = some-links row p.at place is z

          pub second_fits : place.second + place.count ≤ end_of row p
          second_fits =
              let n = links-next row p.at place is flag in
              let k = links-count row p.at place is flag in
              rw f (omega (arith, after-size row p.at p.left some, is.second, is.next, n, k))

          turns : on_second (numbers_at row place.second place.count) ≡ turn down (position_of row p)
          turns =
              let n = numbers-next row (second_start p.at) (second_count row p.at) (omega arith) in
              rw (f, places_next row p.at p.left some, cut, h, links-are row p.at place is, flag, n)

          pub meets_second : (q : Met) → Faces row down (turned_to place) q → Meets row down p q
          meets_second q g = by (turned_to place) q (record { is = turns; within = second_fits }) (omega (arith, z)) g

-- what it does after its turn, by where it stands then
module _ (row : List ℕ) (t : Met) (l : 0 < t.position.left) (e : t.link ≡ at row t.position.at) where
  abbrev q : Position
  q = t.position

  module _ (slot entry : ℕ) (held : Bool) (first : ℕ) (r : Moved) where
    pub met_first : q.turned ≡ false →
        Acts row q (does_first row q t.down slot) r → MetActs row slot entry held first t r
    met_first f a down c =
        record {
          is = a.is ∙ act-first row q l down slot entry held first t.link e t.down c f;
          within = a.within;
        }

    pub met_second : q.turned ≡ true →
        Acts row q (does_second row q t.down entry held first) r → MetActs row slot entry held first t r
    met_second f a down c =
        record {
          is = a.is ∙ act-second row q l down slot entry held first t.link e t.down c f;
          within = a.within;
        }
