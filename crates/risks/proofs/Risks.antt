-- The sets hold every message that the pairs picked touch and strip, so no fewer messages are counted at risk.
use Rattle.std.proofs.Common.{ℕ, ◌+◌, ◌*◌, ◌≤◌, ◌<◌, arith, ◌≡◌, refl, sym, ◌∙◌, ap, ap₂, Bool, true, false, not, ◌&&◌, ◌||◌, List, [], ◌∷◌}
use Rattle.std.proofs.Common.{◌++◌, length, get_or, take, get_or-take, ltb, eqb, ltb-true, lt-ltb}
use Rattle.std.proofs.lemmas.Bool.Decides.{nat_tests}
use mathlib.Core.Bool.{and-eq-true_iff}
use lib.ListN.{get_or-map}
use Rattle.scope.specs.Limits.{most_cuts, most_messages, most_slots, tops_size}
use Rattle.scope.specs.Plan.{Plan, plan_of, places_at}
use Rattle.scope.specs.Slot as S
use Rattle.scope.specs.Cables.{other_way, is_higher}
use Rattle.scope.specs.Cuts.{pairs, is_cut}
use Rattle.scope.specs.Cycle.{order_of, table_of, start, positions}
use Rattle.scope.proofs.Cables.{other-below}
use Rattle.laws.specs.Message as L
use Rattle.cables.specs.Others.{other_in, OtherWays}
use Rattle.step.specs.declared.Position.{Position}
use Rattle.step.specs.Where.{position_of}
use Rattle.step.proofs.Steps.{home-is}
use Rattle.step.specs.declared.Standing.{Standing}
use Rattle.step.specs.Stand.{home}
use Rattle.sets.specs.Sums.{sum_of, one_if}
use Rattle.sets.specs.Sets.{has, size, IsBoth}
use Rattle.sets.proofs.Sums.{sum_le, sum_same, sum-fewer, tests_few}
use Rattle.losses.specs.Touch.{harm, on_cable}
use Rattle.losses.specs.Harmed.{hers_on, hers, is_touched, stands, away}
use Rattle.losses.specs.Strips.{strips_on, strips, is_stripped, lost}
use Rattle.bound.specs.Sets.{set_in}
use Rattle.losses.proofs.Parts.{harm-both}
use Rattle.losses.proofs.OneCable.{hers-most, strips-most}
use Rattle.order.proofs.Parts.{pairs-both}
use Rattle.picks.specs.declared.Sizes.{Sizes}
use Rattle.picks.specs.Picks.{StandAt}
use Rattle.risks.specs.declared.Hits.{Hits}
use Rattle.risks.specs.declared.Risk.{Risk}
use Rattle.risks.specs.declared.Rest.{Rest}
use Rattle.risks.specs.Weighed.{no_hits, rest_of, Fits, Hittable, AreAway, Covers, Counted, Leaves}
use Rattle.risks.specs.Risks.{count_in, risks_of, IsHit, MayWeigh}

-- what one pair weighs
one_pair : (weight : ℕ → ℕ → ℕ) (s e : ℕ) → harm weight (s ∷ e ∷ []) 1 ≡ weight s e
unfolding sum_of
one_pair weight s e = let z : 0 + weight s e ≡ weight s e = omega arith in z

-- whom the list hits is in a set, and with one pair more whom that one hits
hit-more : (weight : ℕ → ℕ → ℕ) (cuts : List ℕ) (d s e : ℕ) (old pair new : Bool) → length cuts ≡ 2 * d → (0 < weight s e → pair ≡ true) →
    (ltb 0 (harm weight cuts (pairs cuts)) ≡ true → old ≡ true) → new ≡ (old || pair) →
    ltb 0 (harm weight (cuts ++ s ∷ e ∷ []) (pairs (cuts ++ s ∷ e ∷ []))) ≡ true → new ≡ true
hit-more weight cuts d s e old pair new long there before is some = grind (arith, nat_tests, both, there, before)
  where
    count : pairs cuts ≡ d
    count = omega arith

    both : harm weight (cuts ++ s ∷ e ∷ []) (pairs (cuts ++ s ∷ e ∷ [])) ≡ harm weight cuts (pairs cuts) + weight s e
    both =
        ap (harm weight (cuts ++ s ∷ e ∷ [])) (pairs-both cuts (s ∷ e ∷ []) d long 1 refl) ∙ harm-both weight cuts (s ∷ e ∷ []) d long 1 ∙
        ap₂ (λ (n x : ℕ). harm weight cuts n + x) (sym count) (one_pair weight s e)

-- nobody is hit by no pair
pub covers-none : (row : List ℕ) → Covers row [] no_hits
unfolding sum_of
covers-none row =
    record {
      touched = λ m l z. absurd (omega (arith, ltb-true 0 0 z));
      stripped = λ m l z. absurd (omega (arith, ltb-true 0 0 z));
    }

-- whom a pair hits is hit on one of its cable's links
on_one : (plan : Plan) (e : ℕ) → e < length plan.links → (count : ℕ → ℕ) (hit : ℕ → Bool) →
    ((d : ℕ) → d < length plan.links → 0 < count d → hit d ≡ true) → 0 < on_cable plan e count → (hit e || hit (other_way plan e)) ≡ true
on_one plan e there count hit on some = grind (arith, nat_tests, on e there, on (other_way plan e) (other-below plan e there))

-- one pair more
pub covers_more : (row touch_sets strip_sets : List ℕ) (z : Sizes) (cuts : List ℕ) (d s e : ℕ) (old new : Hits) →
    Hittable row touch_sets strip_sets → OtherWays (plan_of row) z.others → length cuts ≡ 2 * d → s < (plan_of row).timeout →
    e < length (plan_of row).links → is_higher (plan_of row) e ≡ false → Covers row cuts old → IsHit touch_sets strip_sets z old s e new →
    Covers row (cuts ++ s ∷ e ∷ []) new
covers_more row touch_sets strip_sets z cuts d s e old new y ways long early there low c h =
    let plan = plan_of row in
    let o = other_in z.others e in
    let back : o ≡ other_way plan e = ways.is e there in
    record {
      touched = λ m l.
          hit-more (hers plan m) cuts d s e (has old.touched m) (has (set_in touch_sets s e) m || has (set_in touch_sets s o) m)
          (has new.touched m) long
          (λ some. rw back (on_one plan e there (hers_on plan m s) (λ f. has (set_in touch_sets s f) m) (λ f. y.touched m s f l early)
          (omega (arith, hers-most plan e low m s))))
          (c.touched m l) (h.touched m);
      stripped = λ m l.
          hit-more (strips plan m) cuts d s e (has old.stripped m) (has (set_in strip_sets s e) m || has (set_in strip_sets s o) m)
          (has new.stripped m) long
          (λ some. rw back (on_one plan e there (strips_on plan m s) (λ f. has (set_in strip_sets s f) m) (λ f. y.stripped m s f l early)
          (omega (arith, strips-most plan e low s m))))
          (c.stripped m l) (h.stripped m);
    }

-- what is hit more is counted no less
more-away : (a b c : Bool) → (a ≡ true → b ≡ true) → one_if (a && not c) ≤ one_if (b && not c)
more-away a b c h = grind (arith, h)

module _ (row : List ℕ) (n : ℕ) (cuts : List ℕ) (s : ℕ) (st : Standing) (stand : StandAt row n cuts s st)
    (count : n ≡ length (plan_of row).messages) (set : ℕ) (are : AreAway st.positions n set) where
  stands_at : (m : ℕ) → m < n →
      L.position_of m (positions (order_of (plan_of row)) (is_cut (plan_of row) cuts) (table_of (plan_of row)) 0 s (start (plan_of row))) ≡
      position_of row (get_or st.positions m home)
  unfolding places_at
  stands_at m l =
      ap (λ (qs : List S.Position). L.position_of m qs) (sym stand.next.is) ∙
      get_or-map (position_of row) (take n st.positions) m home ∙
      ap (position_of row) (get_or-take n st.positions m home l)

  -- so those of a kind are among those counted
  away-counted : (kind hit : ℕ → Bool) → ((m : ℕ) → m < length (plan_of row).messages → kind m ≡ true → hit m ≡ true) →
      away (plan_of row) cuts s kind ≤ count_in set hit
  away-counted kind hit all =
      let one : ℕ → ℕ = λ m. one_if (kind m && not (S.at_target (stands (plan_of row) cuts s m))) in
      let two : ℕ → ℕ = λ m. one_if (hit m && has set m) in
      let less =
      sum_le one two n
      (λ m l.
      let q : Position = get_or st.positions m home in
      let there : S.at_target (stands (plan_of row) cuts s m) ≡ eqb q.left 0 =
      sym (home-is row q.at q.left q.turned ∙ ap S.at_target (sym (stands_at m l))) in
      rw (there, are m, lt-ltb m n l) (more-away (kind m) (hit m) (eqb q.left 0) (all m (omega arith)))) in
      omega (arith, less, sum-fewer two n most_messages stand.next.stand.few, ap (sum_of one) count)

  module _ (hits : Hits) (c : Covers row cuts hits) where
    pub lost-counted : lost (plan_of row) cuts s ≤ (risks_of hits set).lost
    lost-counted =
        away-counted (λ m. is_touched (plan_of row) cuts m && is_stripped (plan_of row) cuts m)
        (λ m. has hits.touched m && has hits.stripped m)
        (λ m l z.
        let two = (and-eq-true_iff (is_touched (plan_of row) cuts m) (is_stripped (plan_of row) cuts m)).0 z in
        rw (c.touched m l two.0, c.stripped m l two.1))

    pub all-counted : (risk : Risk) → risk ≡ risks_of hits set → Counted row cuts s risk
    all-counted risk is =
        record {
          touched =
              omega (
                arith,
                away-counted (is_touched (plan_of row) cuts) (has hits.touched) c.touched,
                ap (λ (r : Risk). r.touched) is,
              );
          stripped =
              omega (
                arith,
                away-counted (is_stripped (plan_of row) cuts) (has hits.stripped) c.stripped,
                ap (λ (r : Risk). r.stripped) is,
              );
          lost = omega (arith, lost-counted, ap (λ (r : Risk). r.lost) is);
        }

    pub counted : (most : List ℕ) (k : ℕ) (risk : Risk) (rest : Rest) → risk ≡ risks_of hits set → rest ≡ rest_of risk k most s →
        Fits rest → Leaves row cuts most s k rest
    counted most k risk rest is so fits =
        let all = all-counted risk is in
        record {
          touched = omega (arith, all.touched, ap (λ (l : Rest). l.touched) so);
          stripped = omega (arith, all.stripped, ap (λ (l : Rest). l.stripped) so);
          pairs = ap (λ (l : Rest). l.pairs) so;
          touches = omega (arith, all.touched, ap (λ (l : Rest). l.loss.touches) so);
          strips = omega (arith, all.stripped, ap (λ (l : Rest). l.loss.strips) so);
          both = omega (arith, all.touched, all.stripped, ap (λ (l : Rest). l.loss.both) so);
          fits = fits;
        }

-- no more are counted than there are
pub may-weigh : (hits : Hits) (set : ℕ) (most : List ℕ) (s k : ℕ) (risk : Risk) → risk ≡ risks_of hits set → k ≤ most_cuts →
    length most ≡ tops_size → s < most_slots → MayWeigh risk k most s
may-weigh hits set most s k risk is few tops early =
    record {
      touched = rw is (tests_few (λ m. has hits.touched m && has set m) most_messages);
      stripped = rw is (tests_few (λ m. has hits.stripped m && has set m) most_messages);
      few = few;
      tops = tops;
      early = early;
    }

-- each is counted in the set of those of a kind that are away
counts : (kind : ℕ → Bool) (away set r : ℕ) → ((m : ℕ) → has set m ≡ (kind m && has away m)) → r ≡ size set → r ≡ count_in away kind
counts kind away set r is e =
    e ∙ sum_same (λ m. one_if (has set m)) (λ m. one_if (kind m && has away m)) most_messages (λ m l. ap (λ (b : Bool). one_if b) (is m))

pub at_risk_is : (hits : Hits) (away touched stripped hit lost : ℕ) (r : Risk) → IsBoth hits.touched away touched →
    IsBoth hits.stripped away stripped → IsBoth hits.touched hits.stripped hit → IsBoth hit away lost → r.touched ≡ size touched →
    r.stripped ≡ size stripped → r.lost ≡ size lost → r ≡ risks_of hits away
at_risk_is hits away touched stripped hit lost r t s h l e f g =
    same r.touched r.stripped r.lost (counts (has hits.touched) away touched r.touched t e)
    (counts (has hits.stripped) away stripped r.stripped s f)
    (counts (λ m. has hits.touched m && has hits.stripped m) away lost r.lost
    (λ m. l m ∙ ap (λ (b : Bool). b && has away m) (h m)) g)
  where
    same : (x y z : ℕ) → x ≡ (risks_of hits away).touched → y ≡ (risks_of hits away).stripped → z ≡ (risks_of hits away).lost →
        ◌≡◌ {A = Risk} (record { touched = x; stripped = y; lost = z }) (risks_of hits away)
    same x y z a b c = rw (a, b, c)
