-- The lowest link with each two ends, put link by link from the last down, and the other way of a link read off them.
use Prim.Native.Nat.{ℕ, ◌+◌, ◌-◌, ◌*◌, ◌≤◌, ◌<◌}
use mathlib.Core.Path.{◌≡◌, refl, sym, ◌∙◌, ap}
use mathlib.Core.Bool.{Bool, true, false, cond, true≢false, and-eq-true_iff}
use mathlib.Core.List.{List}
use native.Mathlib.Omega.{arith}
use borrow.Author.Tests.{lt-ltb, le-ltb, eqb-true, eq-eqb}
use Rattle.std.proofs.Common.{Option, Some, None}
use Rattle.std.specs.Option.{unwrap_or, SomeIff}
use lib.ListN.{length, get_or, set, replicate, length-set, length-replicate, get_or-replicate}
use lib.Seq.{get_or-set_same, get_or-set_other}
use lib.Dec.{eqb}
use Rattle.scope.specs.Limits.{most_vertices, most_links, ends_size}
use Rattle.scope.specs.Lowest.{lowest, some}
use Rattle.scope.specs.Plan.{Plan, Link, at, link_count, plan_of, link_of}
use Rattle.scope.specs.Cables.{other_way}
use Rattle.scope.proofs.Lowest.{seek_found, seek-next, seek-done}
use Rattle.scope.proofs.Cables.{other-below}
use Rattle.rows.specs.View.{Number}
use Rattle.rows.specs.Lies.{PlanLies}
use Rattle.rows.proofs.Parts.{link-count, link_at}
use Rattle.cables.specs.Ends.{leads, lowest_from, end_byte, ends_index, EndsFrom, IsOther}

module _ (plan : Plan) where
  module _ (a b : ℕ) where
    -- the lowest from link e on: there is none, it is link e, or it is a later one
    low-none : (e : ℕ) → length plan.links ≤ e → lowest_from plan a b e ≡ None
    low-none e h =
        rw (seek-done (leads plan a b) (length plan.links) e h, le-ltb e (length plan.links) h)

    low-here : (e : ℕ) → e < length plan.links → leads plan a b e ≡ true → lowest_from plan a b e ≡ Some e
    low-here e h t = rw (seek_found (leads plan a b) (length plan.links) e h t, lt-ltb e (length plan.links) h)

    low-next : (e : ℕ) → e < length plan.links → leads plan a b e ≡ false → lowest_from plan a b e ≡ lowest_from plan a b (e + 1)
    low-next e h t = rw (seek-next (leads plan a b) (length plan.links) e h t)

  -- no link is put
  pub ends-none : (e : ℕ) → length plan.links ≤ e → EndsFrom plan e (replicate ends_size 0)
  ends-none e h =
      record {
        size = length-replicate {A = ℕ} ends_size 0;
        is = λ a b la lb. get_or-replicate ends_size (ends_index a b) 0 0 (omega arith) ∙ sym (ap end_byte (low-none a b e h));
      }

  -- link e is put before the links after it
  pub ends-put : (e from to : ℕ) (table : List ℕ) → e < length plan.links → link_of plan e ≡ record { from = from; to = to } →
      from < most_vertices → to < most_vertices → EndsFrom plan (e + 1) table → EndsFrom plan e (set table (ends_index from to) (e + 1))
  ends-put e from to table h is lf lt g =
      record {
        size = length-set table (ends_index from to) (e + 1) ∙ g.size;
        is = λ a b la lb. by a b la lb (leads plan a b e) refl;
      }
    where
      from_is : (link_of plan e).from ≡ from
      from_is = ap (λ (l : Link). l.from) is

      to_is : (link_of plan e).to ≡ to
      to_is = ap (λ (l : Link). l.to) is

      by : (a b : ℕ) → a < most_vertices → b < most_vertices → (t : Bool) → leads plan a b e ≡ t →
          get_or (set table (ends_index from to) (e + 1)) (ends_index a b) 0 ≡ end_byte (lowest_from plan a b e)
      by a b la lb true p =
          let two = (and-eq-true_iff (eqb b (link_of plan e).to) (eqb a (link_of plan e).from)).0 p in
          let first : a ≡ from = eqb-true a (link_of plan e).from two.1 ∙ from_is in
          let last : b ≡ to = eqb-true b (link_of plan e).to two.0 ∙ to_is in
          rw (low-here a b e h p, first, last) (get_or-set_same table (ends_index from to) (e + 1) 0 (omega (arith, g.size)))
      by a b la lb false p =
          get_or-set_other table (ends_index from to) (ends_index a b) (e + 1) 0 (λ same. true≢false (sym (both same) ∙ p)) ∙ g.is a b la lb ∙
          sym (ap end_byte (low-next a b e h p))
        where
          both : ends_index a b ≡ ends_index from to → leads plan a b e ≡ true
          both same =
              rw (eq-eqb b (link_of plan e).to (omega (arith, to_is)), eq-eqb a (link_of plan e).from (omega (arith, from_is)))

  -- the lowest of all links
  low-all : (a b : ℕ) →
      lowest_from plan a b 0 ≡ cond (some (leads plan a b) (length plan.links)) (Some (lowest (leads plan a b) (length plan.links))) None
  low-all a b =
      let all : length plan.links - 0 ≡ length plan.links = omega arith in
      rw all

  -- a byte of the ends of link e reversed, and the number before it: no link goes back, or that is the other way
  module _ (e : ℕ) where
    abbrev goes_back : ℕ → Bool
    goes_back = leads plan (link_of plan e).to (link_of plan e).from

    pub other-found : (byte : ℕ) (back : Option ℕ) → byte ≡ end_byte (lowest_from plan (link_of plan e).to (link_of plan e).from 0) →
        SomeIff back (1 ≤ byte) (byte - 1) → unwrap_or back e ≡ other_way plan e
    unfolding other_way
    other-found byte back is less =
        by (some goes_back (length plan.links)) back (is ∙ ap end_byte (low-all (link_of plan e).to (link_of plan e).from)) less
      where
        by : (t : Bool) (back : Option ℕ) → byte ≡ end_byte (cond t (Some (lowest goes_back (length plan.links))) None) →
            SomeIff back (1 ≤ byte) (byte - 1) → unwrap_or back e ≡ cond t (lowest goes_back (length plan.links)) e
        by true (Some r) h s = omega (arith, h, s.1)
        by true None h s = absurd (s (omega (arith, h)))
        by false (Some r) h s = absurd (omega (arith, h, s.0))
        by false None h s = refl

-- the same of a row that its plan lies in
module _ (row : List ℕ) (lies : PlanLies row) where
  -- the ends of a link are the numbers read
  pub ends-are : (e from to : ℕ) → e < link_count row → Number row (e * 2 + 5) from → Number row (e * 2 + 6) to →
      (link_of (plan_of row) e ≡ record { from = from; to = to }) × (from < most_vertices) × (to < most_vertices)
  ends-are e from to h f t =
      let from_is : from ≡ at row (5 + 2 * e) = f.is ∙ ap (at row) (omega arith) in
      let to_is : to ≡ at row (6 + 2 * e) = t.is ∙ ap (at row) (omega arith) in
      (link_at row e h ∙ rw (from_is, to_is), omega (arith, from_is, lies.from e h), omega (arith, to_is, lies.to e h))

  -- a loop from the last link down: it begins, it goes on
  pub putting_first : (e : ℕ) → e ≡ link_count row → EndsFrom (plan_of row) e (replicate ends_size 0)
  putting_first e h = ends-none (plan_of row) e (omega (arith, link-count row))

  pub putting_next : (e from to : ℕ) (table : List ℕ) → 0 < e → e ≤ link_count row → Number row ((e - 1) * 2 + 5) from →
      Number row ((e - 1) * 2 + 6) to → EndsFrom (plan_of row) e table →
      EndsFrom (plan_of row) (e - 1) (set table (ends_index from to) (e - 1 + 1))
  putting_next e from to table pos few f t g =
      let back : e - 1 + 1 ≡ e = omega arith in
      let are = ends-are (e - 1) from to (omega arith) f t in
      ends-put (plan_of row) (e - 1) from to table (omega (arith, link-count row)) are.0 are.1 are.2 (rw back g)

  -- the other way of a link, read off its ends reversed
  pub found : (e from to : ℕ) (table : List ℕ) (back : Option ℕ) → e < link_count row → Number row (e * 2 + 5) from →
      Number row (e * 2 + 6) to → EndsFrom (plan_of row) 0 table →
      SomeIff back (1 ≤ get_or table (ends_index to from) 0) (get_or table (ends_index to from) 0 - 1) →
      IsOther (plan_of row) e (unwrap_or back e)
  found e from to table back h f t g less =
      let are = ends-are e from to h f t in
      let few : other_way (plan_of row) e < most_links =
      omega (arith, other-below (plan_of row) e (omega (arith, link-count row)), link-count row, lies.links) in
      let is : unwrap_or back e ≡ other_way (plan_of row) e =
      other-found (plan_of row) e (get_or table (ends_index to from) 0) back (g.is to from are.2 are.1 ∙ rw are.0) less in
      record { is = is; below = rw is few }
