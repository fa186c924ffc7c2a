-- D of a second path from the numbers of its links, and which place is robust.
use Prim.Native.Nat.{ℕ, zero, suc, ◌+◌, ◌-◌, ◌*◌, ◌≤◌, ◌<◌}
use native.Mathlib.Omega.{arith}
use mathlib.Core.Path.{◌≡◌, refl, ◌∙◌, ap}
use mathlib.Core.Bool.{Bool, true, false, cond, not, ◌&&◌, and-eq-true_iff}
use mathlib.Core.List.{List, [], ◌∷◌}
use native.Mathlib.Numerals.{add-one}
use lib.ListN.{length, get_or}
use lib.Dec.{ltb, leb, eqb}
use borrow.Author.Tests.{ltb-true, lt-ltb, le-ltb, not-false}
use Rattle.scope.specs.Limits.{most_links}
use Rattle.scope.specs.Outcome.{gives}
use Rattle.scope.specs.Plan.{Plan, Place, at, flagged, second_at, second_start, second_count, numbers_at, place_at, path_of, link_of}
use Rattle.scope.specs.Good.{are_links, joins, different, visited, is_path_from, end_of, head_of, links_of, good_place, good_seconds}
use Rattle.scope.specs.Rules.{rules}
use Rattle.scope.specs.Cycle.{by_number, order_of}
use Rattle.scope.specs.Spare.{has_second_through, lower_through, delay, no_second}
use Rattle.laws.proofs.Good.{keeps-rules, there_or_not}
use Rattle.rows.specs.View.{Is, IsPlace}
use Rattle.rows.specs.declared.RowPlace.{RowPlace}
use Rattle.spare.proofs.Loops.{numbers_more, numbers-none}
use Rattle.sets.specs.Sums.{one_if}
use Rattle.losses.specs.Strips.{is_robust}
use Rattle.strips.specs.Filled.{Costs, cost_of, in_time, SecondsAreLinks}

-- a loop over the links of a path, at link k of n
pub record Delaying (row counts : List ℕ) (i n sum k : ℕ) : Type 0 where
  pub left : sum + cost_of counts (numbers_at row (i + k) (n - k)) ≡ cost_of counts (numbers_at row i n)
  pub few : sum ≤ k * 65536
  pub most : k ≤ n

module _ (row counts : List ℕ) (i n : ℕ) where
  module _ (sum k : ℕ) (g : Delaying row counts i n sum k) where
    pub delaying_more : (e v : ℕ) → k < n → e ≡ at row (i + k) → v ≡ get_or counts e 0 → v < 65536 → Delaying row counts i n (sum + (1 + v)) (k + 1)
    unfolding cost_of
    delaying_more e v h is cost small =
        let a : i + (k + 1) ≡ i + k + 1 = omega arith in
        let now : sum + (1 + get_or counts (at row (i + k)) 0 + cost_of counts (numbers_at row (i + k + 1) (n - (k + 1)))) ≡
        cost_of counts (numbers_at row i n) =
        rw (numbers_more row (i + k) n k h) at g.left in
        record { left = rw (cost, is, a) (omega arith); few = omega (arith, g.few); most = omega arith }

    pub delaying_done : n ≤ k → Is (cost_of counts (numbers_at row i n)) (n * 65536) sum
    unfolding cost_of
    delaying_done h =
        let done : sum + 0 ≡ cost_of counts (numbers_at row i n) = rw (numbers-none row (i + k) n k h) at g.left in
        record { is = omega arith; small = omega (arith, g.few, g.most) }

-- a place as it is read: without a second path, or with one
module _ (row counts : List ℕ) (t i : ℕ) (r : RowPlace) (p : IsPlace row i r) where
  second_is : (b : Bool) → flagged row i ≡ b → second_at row i ≡ cond b (numbers_at row (second_start i) (second_count row i)) []
  second_is b h = rw h

  not_empty : (j n : ℕ) → no_second (numbers_at row j (n + 1)) ≡ false
  unfolding numbers_at
  not_empty j n = rw (add-one n)

  pub robust_some : (d : ℕ) → (r.count ≡ 0 → ⊥) → d ≡ cost_of counts (numbers_at row r.second r.count) → in_time counts t (place_at row i) ≡
      leb (r.slot + d) t
  robust_some d z is = by (flagged row i) refl
    where
      by : (b : Bool) → flagged row i ≡ b → in_time counts t (place_at row i) ≡ leb (r.slot + d) t
      by true h =
          let c : r.count ≡ second_count row i = p.count ∙ ap (λ (x : Bool). cond x (second_count row i) 0) h in
          rw (is, p.slot, p.second, c, h, not_empty (second_start i) (at row (i + 3)))
      by false h = absurd (z (p.count ∙ ap (λ (x : Bool). cond x (second_count row i) 0) h))

-- one message more is lower
pub lower_next : (m e : ℕ) (paths : List (List Place)) → m < length paths →
    lower_through by_number (m + 1) e 0 paths ≡ lower_through by_number m e 0 paths + one_if (has_second_through e (get_or paths m []))
unfolding lower_through
lower_next m e paths h = from 0 m m (omega arith) paths h
  where
    -- messages from j on are not lower than j
    none : (k j : ℕ) → k ≤ j → (qs : List (List Place)) → lower_through by_number k e j qs ≡ 0
    none k j l [] = refl
    none k j l (q ∷ qs) = rw (le-ltb j k l, none k (j + 1) (omega arith) qs) (omega arith)

    from : (j d k : ℕ) → k ≡ j + d → (qs : List (List Place)) → d < length qs →
        lower_through by_number (k + 1) e j qs ≡ lower_through by_number k e j qs + one_if (has_second_through e (get_or qs d []))
    from j d k is [] l = absurd (omega arith)
    from j zero k is (q ∷ qs) l =
        rw (lt-ltb j (k + 1) (omega arith), le-ltb j k (omega arith), none (k + 1) (j + 1) (omega arith) qs, none k (j + 1) (omega arith) qs)
        (omega arith)
    from j (suc d) k is (q ∷ qs) l =
        rw (lt-ltb j (k + 1) (omega arith), lt-ltb j k (omega arith)) (omega (arith, from (j + 1) d k (omega arith) qs (omega arith)))

-- D from the numbers
module _ (plan : Plan) (m : ℕ) (counts : List ℕ) (c : Costs plan m counts) (few : length plan.links ≤ most_links) where
  cost_is : (es : List ℕ) → are_links plan es ≡ true → cost_of counts es ≡ delay (order_of plan) plan.messages m es
  unfolding cost_of delay are_links
  cost_is [] h = refl
  cost_is (e ∷ es) h =
      let two = (and-eq-true_iff (ltb e (length plan.links)) (are_links plan es)).0 h in
      let small = ltb-true e (length plan.links) two.0 in
      omega (arith, c.is e (omega arith), cost_is es two.1)

  pub robust_is : (p : Place) → are_links plan p.second ≡ true → in_time counts plan.timeout p ≡ is_robust plan m p
  robust_is p h = ap (λ (d : ℕ). not (no_second p.second) && leb (p.slot + d) plan.timeout) (cost_is p.second h)

-- the second paths of a good plan have its links
module _ (plan : Plan) (end : ℕ) where
  place-links : (p : Place) (second : List ℕ) → good_place plan end p second ≡ true → p.second ≡ second → are_links plan p.second ≡ true
  unfolding are_links
  place-links p [] g h = rw h
  place-links p (e ∷ es) g h =
      let v = (link_of plan p.link).from in
      let path = is_path_from plan v p.second in
      let a = (and-eq-true_iff (path && eqb (end_of plan p.second) end) (not (eqb (head_of p.second) p.link))).0 g in
      let b = (and-eq-true_iff path (eqb (end_of plan p.second) end)).0 a.0 in
      let c = (and-eq-true_iff (are_links plan p.second && joins plan v p.second) (different (v ∷ visited plan p.second))).0 b.0 in
      ((and-eq-true_iff (are_links plan p.second) (joins plan v p.second)).0 c.0).0

  seconds_links : (ps : List Place) → good_seconds plan end ps ≡ true → SecondsAreLinks plan ps
  unfolding good_seconds
  seconds_links [] g = tt
  seconds_links (p ∷ ps) g =
      let two = (and-eq-true_iff (good_place plan end p p.second) (good_seconds plan end ps)).0 g in
      (place-links p p.second two.0 refl, seconds_links ps two.1)

pub good-links : (plan : Plan) → rules plan ≡ gives 0 → (m : ℕ) → SecondsAreLinks plan (path_of plan m)
good-links plan g m =
    there_or_not plan (SecondsAreLinks plan) m
    (λ h. seconds_links plan (end_of plan (links_of (path_of plan m))) (path_of plan m) (not-false _ ((keeps-rules plan g).second_paths m h))) tt
