-- A link that is not worth a cut leads to no list that is sought: neither in its slot nor in a later one, with as many pairs after it as were
-- counted or with fewer. Nor do pairs picked after which all is in vain.
use Rattle.std.proofs.Common.{ℕ, zero, suc, ◌+◌, ◌-◌, ◌*◌, ◌≤◌, ◌<◌, arith, mul-le-mul_right, ◌≡◌, refl, Bool, true, false, not, ◌&&◌, cond, List, []}
use Rattle.std.proofs.Common.{◌∷◌, ◌++◌, length, ltb, eqb, eqb-true, ne_eqb, ltb-true, ltb-false}
use borrow.Author.Tests.{not-false}
use Rattle.scope.specs.Limits.{most_links}
use Rattle.scope.specs.Lowest.{seek}
use Rattle.scope.specs.Plan.{plan_of}
use Rattle.scope.proofs.Lowest.{seek-from, seek-low}
use Rattle.scope.specs.Cuts.{is_cut_list}
use Rattle.cuts.specs.Down.{is_down}
use Rattle.losses.specs.Harmed.{harmed}
use Rattle.losses.specs.Strips.{bared}
use Rattle.bound.specs.Bounds.{weight_in, top_in, front_in, harmed_and_bared, Bounds}
use Rattle.order.specs.Search.{code, NotBefore, Not, NoneOf, NoneIn}
use Rattle.order.proofs.Pairs.{not-before}
use Rattle.order.proofs.Steps.{nothing_more, after, none_before, passed}
use Rattle.picks.specs.declared.Sizes.{Sizes}
use Rattle.picks.specs.declared.Picked.{Picked}
use Rattle.picks.specs.Picks.{cuts_of, Playable, Holding}
use Rattle.picks.proofs.Picking.{closed_already}
use Rattle.risks.specs.declared.Risk.{Risk}
use Rattle.risks.specs.declared.Rest.{Rest}
use Rattle.risks.specs.Weighed.{rest_of, loss_with, too_light, in_vain, passes, Counted, Leaves}
use Rattle.risks.proofs.Weigh.{which, too_light_lem, all_too_light}

-- the next link found is a later one
pub goes_up : (test : ℕ → Bool) (n i r : ℕ) → r ≡ seek test n (i + 1) → i < r
goes_up test n i r e = omega (arith, seek-from test n (i + 1))

module _ (row table weights most : List ℕ) (z : Sizes) (p : Picked) (Answers : List ℕ → Type 0) (need : ℕ)
    (bounds : Bounds (plan_of row) Answers need weights most) (play : Playable row table z) (h : Holding row z p) where
  few : length (plan_of row).links ≤ most_links
  few = omega (arith, play.links, play.few)

  -- after pairs that are not before slot s all is in vain, with as many pairs more as were counted or with fewer
  module _ (s : ℕ) (risk : Risk) (from : s ≤ p.slot) (v : Counted row (cuts_of p) s risk) where
    early : s ≤ (plan_of row).timeout
    early = omega (arith, from, h.slot, play.timeout)

    -- the next pairs are not before it either
    not_earlier : (j : ℕ) (x : List ℕ) → length x ≡ 2 * j → is_cut_list (plan_of row) (cuts_of p ++ x) ≡ true → Answers (cuts_of p ++ x) →
        NotBefore s x j
    not_earlier zero x long good it = λ i less. absurd (omega arith)
    not_earlier (suc j) [] long good it = absurd (omega arith)
    not_earlier (suc j) (a ∷ []) long good it = absurd (omega arith)
    not_earlier (suc j) (a ∷ b ∷ x) long good it =
        not-before (plan_of row) few (cuts_of p) (a ∷ b ∷ x) p.count (suc j) s h.chosen.long long good (by (ltb (code a b) start) refl)
      where
        start : ℕ
        start = code p.slot p.link

        by : (t : Bool) → ltb (code a b) start ≡ t → s ≤ a
        by true e =
            absurd
            (none_before (plan_of row) Answers few (cuts_of p) p.count start h.chosen j a b x (omega arith) (omega arith)
            (ltb-true (code a b) start e) good it)
        by false e =
            omega (
              arith,
              ltb-false (code a b) start e,
              from,
              (after (plan_of row) Answers few (cuts_of p) p.count start h.chosen j a b x good).link,
              few,
            )

    light_pairs : (j k : ℕ) → j ≤ k → too_light need (rest_of risk k most s).loss ≡ true → (x : List ℕ) → length x ≡ 2 * j →
        Not (plan_of row) Answers (cuts_of p ++ x)
    light_pairs j k fewer light x long good it =
        let plan = plan_of row in
        let later = not_earlier j x long good it in
        which ⊥ need (rest_of risk k most s).loss light
        (λ less.
        all_too_light plan Answers need (harmed plan) (weight_in weights 0) (top_in most 0) bounds.touches few (cuts_of p) x p.count j k s
        h.chosen.long long fewer early later (omega (arith, less, v.touched)) good it)
        (λ less.
        all_too_light plan Answers need (bared plan) (weight_in weights 1) (top_in most 1) bounds.strips few (cuts_of p) x p.count j k s
        h.chosen.long long fewer early later (omega (arith, less, v.stripped)) good it)
        (λ less.
        all_too_light plan Answers (2 * need) (harmed_and_bared plan) (weight_in weights 2) (top_in most 2) bounds.both few (cuts_of p) x
        p.count j k s h.chosen.long long fewer early later (omega (arith, less, v.touched, v.stripped)) good it)

    pub none_in_vain : (j k : ℕ) → j ≤ k → in_vain risk k most need s ≡ true → NoneOf (plan_of row) Answers (cuts_of p) j
    none_in_vain zero zero fewer vain =
        nothing_more (plan_of row) Answers (cuts_of p)
        (λ it.
        omega (
          arith,
          ltb-true risk.lost need vain,
          v.lost,
          bounds.whole (cuts_of p) p.count s early h.chosen.long h.chosen.good it,
        ))
    none_in_vain (suc j) zero fewer vain = absurd (omega arith)
    none_in_vain j (suc k) fewer vain = light_pairs j (suc k) fewer (rw (ne_eqb (suc k) 0 (λ e. omega arith)) at vain)

  module _ (s k j : ℕ) (rest : Rest) (v : Leaves row (cuts_of p) most s k rest) (fewer : j ≤ k) where
    -- fewer pairs weigh no more
    tops : (t : ℕ) → j * t ≤ k * t
    tops t = mul-le-mul_right t fewer

    -- where too little is lost with a pair of slot s, it is with one of a later slot
    all_light : (i b : ℕ) → s ≤ i → b < z.links → too_light need (loss_with rest weights most need s b) ≡ true →
        (x : List ℕ) → length x ≡ 2 * j → Not (plan_of row) Answers (cuts_of p ++ i ∷ b ∷ x)
    all_light i b later there light x long =
        let plan = plan_of row in
        let start = code p.slot p.link in
        which (Not plan Answers (cuts_of p ++ i ∷ b ∷ x)) need (loss_with rest weights most need s b) light
        (λ less.
        too_light_lem plan Answers need (harmed plan) (weight_in weights 0) (top_in most 0) bounds.touches few (cuts_of p) p.count start
        h.chosen j s i b later known (omega (arith, less, v.touches, tops (top_in most 0 s))) x long)
        (λ less. strips_light (eqb rest.pairs 1) refl less)
        (λ less.
        too_light_lem plan Answers (2 * need) (harmed_and_bared plan) (weight_in weights 2) (top_in most 2) bounds.both few (cuts_of p)
        p.count start h.chosen j s i b later known (omega (arith, less, v.both, tops (top_in most 2 s))) x long)
      where
        known : b < length (plan_of row).links
        known = omega (arith, play.links)

        any_strips : bared (plan_of row) (cuts_of p) s + weight_in weights 1 s b + j * top_in most 1 s < need →
            Not (plan_of row) Answers (cuts_of p ++ i ∷ b ∷ x)
        any_strips less =
            too_light_lem (plan_of row) Answers need (bared (plan_of row)) (weight_in weights 1) (top_in most 1) bounds.strips few (cuts_of p)
            p.count (code p.slot p.link) h.chosen j s i b later known less x long

        -- too few can be stripped by one last pair that touches enough, or by none
        last_light : (n : ℕ) → j ≡ n →
            rest.stripped + weight_in weights 1 s b + front_in most s (need - (rest.touched + weight_in weights 0 s b)) < need → k ≡ 1 →
            Not (plan_of row) Answers (cuts_of p ++ i ∷ b ∷ x)
        last_light zero none less one = any_strips (rw none (omega (arith, less, v.stripped)))
        last_light (suc n) some less one = λ good it.
            let two : length {A = ℕ} (i ∷ b ∷ x) ≡ 2 * 2 = omega arith in
            omega (
              arith,
              less,
              bounds.last (cuts_of p) (i ∷ b ∷ x) p.count s rest.touched rest.stripped h.chosen.long two
                  (not-before (plan_of row) few (cuts_of p) (i ∷ b ∷ x) p.count 2 s h.chosen.long two good later) good it v.touched
                  v.stripped,
            )

        -- too few can be stripped: by one last pair that touches enough, or by any
        strips_light : (t : Bool) → eqb rest.pairs 1 ≡ t →
            cond t (rest.stripped + weight_in weights 1 s b + front_in most s (need - (rest.touched + weight_in weights 0 s b)))
            (rest.loss.strips + weight_in weights 1 s b) <
            need → Not (plan_of row) Answers (cuts_of p ++ i ∷ b ∷ x)
        strips_light true one less = last_light j refl less (omega (arith, v.pairs, eqb-true rest.pairs 1 one))
        strips_light false one less = any_strips (omega (arith, less, v.strips, tops (top_in most 1 s)))

    -- a link that may not be tried in slot s is not to be tried in a later one
    pub not_tried : (i b : ℕ) → s ≤ i → b < z.links → passes p.closed weights most need rest s b ≡ false →
        (x : List ℕ) → length x ≡ 2 * j → Not (plan_of row) Answers (cuts_of p ++ i ∷ b ∷ x)
    not_tried i b later l no-pass x long = by (is_down p.closed b) refl no-pass
      where
        by : (t : Bool) → is_down p.closed b ≡ t → (not t && not (too_light need (loss_with rest weights most need s b))) ≡ false →
            Not (plan_of row) Answers (cuts_of p ++ i ∷ b ∷ x)
        by false e light = all_light i b later l (not-false (too_light need (loss_with rest weights most need s b)) light) x long
        by true e light = closed_already row z p h b Answers few l j i e x

    -- links of slot s passed over, none of which may be tried
    pub skipped : (lo e f : ℕ) → f ≤ z.links → ((b : ℕ) → e ≤ b → b < f → passes p.closed weights most need rest s b ≡ false) →
        NoneIn (plan_of row) Answers (cuts_of p) j lo (code s e) → NoneIn (plan_of row) Answers (cuts_of p) j lo (code s f)
    skipped lo e f within none leave =
        passed (plan_of row) Answers few (cuts_of p) p.count (code p.slot p.link) h.chosen j lo s e f (omega (arith, play.few)) leave
        (λ b u w. not_tried s b (omega arith) (omega arith) (none b u w))

    -- where no link of slot s may be tried, none of a later slot may
    pub none-later : (f : ℕ) → f ≡ seek (passes p.closed weights most need rest s) (z.links - 0) 0 → z.links ≤ f →
        (a b : ℕ) (x : List ℕ) → length x ≡ 2 * j → code s 0 ≤ code a b → Not (plan_of row) Answers (cuts_of p ++ a ∷ b ∷ x)
    none-later f found over a b x long low good it =
        let next = after (plan_of row) Answers few (cuts_of p) p.count (code p.slot p.link) h.chosen j a b x good in
        let there : b < z.links = omega (arith, next.link, play.links) in
        not_tried a b (omega (arith, low, next.link, few)) there
        (seek-low (passes p.closed weights most need rest s) (z.links - 0) 0 b (omega arith) (omega arith)) x long good it
