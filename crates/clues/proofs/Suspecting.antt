-- The links that the slots name, one after another: every list that goes on from the pairs picked and has the crossings of the table has cut
-- them all. They are of different cables, so that no more can be named than there are pairs to come.
use Prim.Native.Nat.{ℕ, ◌+◌, ◌*◌, ◌≤◌, ◌<◌}
use native.Mathlib.Omega.{arith}
use mathlib.Core.Path.{◌≡◌, refl, sym, ◌∙◌, ap, subst}
use mathlib.Core.Bool.{Bool, true, false, and-eq-true_iff, true≢false}
use mathlib.Core.List.{List, [], ◌∷◌, ◌++◌}
use lib.ListN.{length, set, length-set, length-append}
use lib.Dec.{ltb, eqb}
use borrow.Author.Tests.{ltb-true, ltb-false, eqb-false}
use Rattle.scope.specs.Limits.{most_links}
use Rattle.scope.specs.Plan.{plan_of}
use Rattle.scope.specs.Cuts.{pairs, cut_slot, cut_link, cuts_link, is_cut_list, is_cut}
use Rattle.scope.specs.Cycle.{order_of}
use Rattle.scope.proofs.Cables.{cuts_own, named_once}
use Rattle.scope.proofs.Cuts.{link-below, once, not_higher}
use Rattle.scope.proofs.Some.{none_below}
use Rattle.laws.specs.Named.{Within, Convicts}
use Rattle.laws.proofs.Cuts.{cut_pair, is_cut_lem}
use Rattle.laws.proofs.Named.{named_under_cuts_lem}
use Rattle.laws.proofs.Sound.{number_is_link_lem}
use Rattle.cables.specs.Others.{other_in}
use Rattle.cuts.specs.Down.{is_down}
use Rattle.step.specs.declared.Standing.{Standing}
use Rattle.order.specs.Search.{Not, NoneOf}
use Rattle.order.proofs.Parts.{slot-left, link_left, slot_right, link_right}
use Rattle.order.proofs.Prefix.{same-before}
use Rattle.capture.specs.Kept.{crossed_at}
use Rattle.picks.specs.declared.Sizes.{Sizes}
use Rattle.picks.specs.declared.Picked.{Picked}
use Rattle.picks.specs.Picks.{cuts_of, StandAt}
use Rattle.picks.proofs.Picking.{down-more}
use Rattle.clues.specs.declared.Clue.{Clue}
use Rattle.clues.specs.declared.Clue.TheVariants.{Nothing, Link, Dead}
use Rattle.step.specs.Events.{crossing_of}
use Rattle.clues.specs.Clues.{event_in, MatchesIn, MatchesBefore, Matches, Foremost, Says, MayLook, Shows, Looked, MaySuspect}
use Rattle.clues.proofs.Crossings.{same_crossing_lem, crossing_same, may-name}
use Rattle.clues.proofs.Lists.{matches-more, within_more, Apart, apart_more, too_many}
use Rattle.clues.proofs.Looking.{shown_nothing}

-- a list that goes on from the pairs picked and has the crossings of the table
pub record Answer (row crossed : List ℕ) (p : Picked) (x : List ℕ) : Type 0 where
  pub good : is_cut_list (plan_of row) (cuts_of p ++ x) ≡ true
  pub matches : Matches (plan_of row) crossed (cuts_of p ++ x)

-- at time i so many links are named: with them the pairs picked have the crossings of the table before slot i, and every answer cuts what
-- they cut
pub record Suspecting (row crossed : List ℕ) (z : Sizes) (p : Picked) (down : List ℕ) (qs : Standing) (named i : ℕ) : Type 0 where
  pub cuts : List ℕ
  pub long : length cuts ≡ 2 * (p.count + named)
  pub bare : named ≡ 0 → cuts ≡ cuts_of p
  pub early : i ≤ z.timeout
  pub size : length down ≡ most_links
  pub are : (j e : ℕ) → i ≤ j → is_down down e ≡ is_cut (plan_of row) cuts j e
  pub stand : StandAt row z.messages cuts i qs
  pub before : MatchesBefore (plan_of row) crossed cuts i
  pub within : (x : List ℕ) → Answer row crossed p x → Within (is_cut (plan_of row) cuts) (is_cut (plan_of row) (cuts_of p ++ x))
  pub apart : (x : List ℕ) → Answer row crossed p x → Apart (plan_of row) cuts (p.count + named)

module _ (row table crossed : List ℕ) (z : Sizes) (ps : Standing) (p : Picked) (may : MaySuspect row table crossed z ps p) where
  -- no link is named yet
  pub suspects_none_yet : (down : List ℕ) (i : ℕ) → p.down ≡ down → p.slot ≡ i → Suspecting row crossed z p down ps 0 i
  suspects_none_yet down i d s =
      let h = may.holding in
      let plan = plan_of row in
      let z0 : p.count + 0 ≡ p.count = omega arith in
      record {
        cuts = cuts_of p;
        long = rw z0 h.chosen.long;
        bare = λ e. refl;
        early = omega (arith, h.slot);
        size = ap length (sym d) ∙ h.size;
        are = λ j e l. ap (λ (b : List ℕ). is_down b e) (sym d) ∙ h.down j e (omega arith);
        stand = subst (λ (j : ℕ). StandAt row z.messages (cuts_of p) j ps) s may.stand;
        before = subst (MatchesBefore plan crossed (cuts_of p)) s may.before;
        within = λ x a j e c.
            let w = cut_pair plan (cuts_of p) j e c in
            let l : w.0 < p.count = omega (arith, w.1, h.chosen.long) in
            is_cut_lem plan (cuts_of p ++ x) j e w.0 (omega (arith, length-append (cuts_of p) x, h.chosen.long, l))
            (ap (λ (k : ℕ). cuts_link plan k e) (link_left (cuts_of p) x p.count h.chosen.long w.0 l) ∙ w.2)
            (omega (arith, slot-left (cuts_of p) x p.count h.chosen.long w.0 l, w.3));
        apart = λ x a j k l b same.
            let good = h.chosen.good in
            let there : j < pairs (cuts_of p) = omega (arith, h.chosen.long) in
            let before : k < pairs (cuts_of p) = omega arith in
            eqb-false (cut_link (cuts_of p) k) (cut_link (cuts_of p) j)
            (none_below (λ y. eqb (cut_link (cuts_of p) y) (cut_link (cuts_of p) j)) j (once plan (cuts_of p) good j there) k l)
            (named_once plan (cut_link (cuts_of p) k) (cut_link (cuts_of p) j) (link-below plan (cuts_of p) good k before)
            (not_higher plan (cuts_of p) good k before) (not_higher plan (cuts_of p) good j there) same);
      }

  -- an answer cuts a link that is not down: then no pair cuts it yet, and with it there are more links than are named
  module _ (down : List ℕ) (qs : Standing) (named i : ℕ) (g : Suspecting row crossed z p down qs named i) (x : List ℕ)
      (a : Answer row crossed p x) (s e : ℕ) (whole : is_down down e ≡ false) (cut : is_cut (plan_of row) (cuts_of p ++ x) s e ≡ true) where
    abbrev longer : List ℕ
    longer = g.cuts ++ s ∷ e ∷ []

    within_longer : Within (is_cut (plan_of row) longer) (is_cut (plan_of row) (cuts_of p ++ x))
    within_longer =
        within_more (plan_of row) g.cuts (p.count + named) g.long s e (cuts_of p ++ x) may.good a.good (g.within x a) cut

    new : (j : ℕ) → j < p.count + named → cuts_link (plan_of row) (cut_link g.cuts j) e ≡ true → ⊥
    new j h same =
        let k = i + cut_slot g.cuts j in
        true≢false
        (sym (is_cut_lem (plan_of row) g.cuts k e j (omega (arith, g.long)) same (omega arith)) ∙ sym (g.are k e (omega arith)) ∙ whole)

    apart_longer : Apart (plan_of row) longer (p.count + named + 1)
    apart_longer = apart_more (plan_of row) g.cuts (p.count + named) s e g.long (g.apart x a) new

    one_too_many : (j : ℕ) → length x ≡ 2 * j → j ≤ named → ⊥
    one_too_many j long few =
        too_many (plan_of row) may.good longer (cuts_of p ++ x) a.good (p.count + named + 1) (p.count + j) (omega arith)
        (omega (arith, length-append g.cuts (s ∷ e ∷ []), g.long))
        (omega (arith, length-append (cuts_of p) x, may.holding.chosen.long)) apart_longer within_longer

  module _ (down : List ℕ) (qs : Standing) (named i : ℕ) (g : Suspecting row crossed z p down qs named i) (l : i < z.timeout) where
    pub may_look : MayLook row table crossed z qs
    may_look = record { play = may.play; stand = g.stand.next.stand; early = omega (arith, g.stand.time); size = may.size }

    module _ (r : Clue) (looked : Looked row crossed z down qs r) where
      shows : Shows row crossed z.messages g.cuts i r
      shows =
          subst (λ (j : ℕ). Shows row crossed z.messages g.cuts j r) g.stand.time
          (looked g.cuts (subst (λ (j : ℕ). StandAt row z.messages g.cuts j qs) (sym g.stand.time) g.stand)
          (λ e. g.are qs.time.0 e (omega (arith, g.stand.time))))

      -- the slot has the crossings of the table
      pub suspects_on : (next : Standing) → r ≡ Nothing next → Suspecting row crossed z p down next named (i + 1)
      suspects_on next is =
          record {
            cuts = g.cuts;
            long = g.long;
            bare = g.bare;
            early = omega arith;
            size = g.size;
            are = λ j e h. g.are j e (omega arith);
            stand = shows.stand next is;
            before = λ j h. by j h (ltb j i) refl;
            within = g.within;
            apart = g.apart;
          }
        where
          by : (j : ℕ) → j < i + 1 → (t : Bool) → ltb j i ≡ t → (m : ℕ) → m < length (plan_of row).messages →
              crossing_of (event_in (plan_of row) g.cuts j m) ≡ crossed_at crossed j m
          by j h true e = g.before j (ltb-true j i e)
          by j h false e =
              let at : i ≡ j = omega (arith, ltb-false j i e) in
              subst (MatchesIn (plan_of row) crossed g.cuts) at (shown_nothing row crossed z.messages g.cuts i r shows next is)

      -- what the foremost message that differs says of an answer
      convicts : (x : List ℕ) → Answer row crossed p x → (m : ℕ) →
          Foremost (event_in (plan_of row) g.cuts i) (crossed_at crossed i) (length (plan_of row).messages) m →
          Convicts (is_cut (plan_of row) g.cuts i) (is_cut (plan_of row) (cuts_of p ++ x) i) (event_in (plan_of row) g.cuts i m)
      convicts x a m f =
          let plan = plan_of row in
          let others = cuts_of p ++ x in
          let timely : i < plan.timeout = omega (arith, may.play.timeout) in
          named_under_cuts_lem plan g.cuts others i m may.good (g.within x a)
          (λ j k h t. same_crossing_lem (event_in plan g.cuts j k) (event_in plan others j k)
          (g.before j h k t ∙ sym (a.matches j (omega arith) k t)))
          (λ j t h. same_crossing_lem (event_in plan g.cuts i j) (event_in plan others i j) (f.alike j h ∙ sym (a.matches i timely j t)))
          (λ same. f.differs
          (crossing_same (event_in plan g.cuts i m) (event_in plan others i m) same ∙ a.matches i timely m f.there))

      abbrev SaysOf : Clue → Type 0
      SaysOf = Says (event_in (plan_of row) g.cuts i) (crossed_at crossed i) (length (plan_of row).messages)

      -- no answer, where that message can name no link
      pub suspects_dead : r ≡ Dead → (n j : ℕ) → j ≤ n → NoneOf (plan_of row) (Matches (plan_of row) crossed) (cuts_of p) j
      suspects_dead is n j few x long good matches =
          let h : SaysOf Dead = subst SaysOf is shows.says in
          let v = convicts x (record { good = good; matches = matches }) h.0 h.1 in
          true≢false (sym (may-name (event_in (plan_of row) g.cuts i h.0) v.waits_or_crosses.0 v.waits_or_crosses.1) ∙ h.2)

      module _ (e : ℕ) (is : r ≡ Link e) where
        says : SaysOf (Link e)
        says = subst SaysOf is shows.says

        -- a link of the plan is named
        link-there : e < length (plan_of row).links
        link-there =
            let plan = plan_of row in
            let v = event_in plan g.cuts i says.0 in
            let kinds = (and-eq-true_iff (ltb 0 v.kind) (ltb v.kind 4)).0 says.2 in
            let low = ltb-true 0 v.kind kinds.0 in
            let high = ltb-true v.kind 4 kinds.1 in
            omega (
              arith,
              number_is_link_lem (order_of plan) (is_cut plan g.cuts) plan says.0 i may.good low (omega arith),
              says.3,
            )

        pub link-small : e < most_links
        link-small = omega (arith, link-there, may.play.links, may.play.few)

        module _ (x : List ℕ) (a : Answer row crossed p x) where
          convicted : Convicts (is_cut (plan_of row) g.cuts i) (is_cut (plan_of row) (cuts_of p ++ x) i)
              (event_in (plan_of row) g.cuts i says.0)
          convicted = convicts x a says.0 says.1

          is_whole : is_down down e ≡ false
          is_whole = g.are i e (omega arith) ∙ ap (is_cut (plan_of row) g.cuts i) (sym says.3) ∙ convicted.whole

          is_cut_there : is_cut (plan_of row) (cuts_of p ++ x) i e ≡ true
          is_cut_there = ap (is_cut (plan_of row) (cuts_of p ++ x) i) (sym says.3) ∙ convicted.cut

        pub suspects_none : (j : ℕ) → j ≤ named → NoneOf (plan_of row) (Matches (plan_of row) crossed) (cuts_of p) j
        suspects_none j few x long good matches =
            let a : Answer row crossed p x = record { good = good; matches = matches } in
            one_too_many down qs named i g x a i e (is_whole x a) (is_cut_there x a) j long few

        -- it is cut from the slot on, and its other way
        pub suspects_more : (o : ℕ) → o ≡ other_in z.others e → Suspecting row crossed z p (set (set down e 1) o 1) qs (named + 1) i
        suspects_more o back =
            let plan = plan_of row in
            let d = p.count + named in
            let more : d + 1 ≡ p.count + (named + 1) = omega arith in
            record {
              cuts = g.cuts ++ i ∷ e ∷ [];
              long = omega (arith, length-append g.cuts (i ∷ e ∷ []), g.long);
              bare = λ q. absurd (omega arith);
              early = omega arith;
              size = length-set (set down e 1) o 1 ∙ length-set down e 1 ∙ g.size;
              are = λ j y h.
                  down-more plan g.cuts down d i e o j y g.long (back ∙ may.play.others.is e link-there)
                  (omega (arith, link-small, g.size)) (omega (arith, back, may.play.others.bytes.below e link-small, g.size)) h
                  (g.are j y h);
              stand =
                  record {
                    time = g.stand.time;
                    next =
                        record {
                          is = g.stand.next.is ∙ sym (same-before plan g.cuts d i e g.long);
                          stand = g.stand.next.stand;
                        };
                  };
              before = matches-more plan g.cuts d g.long i e crossed g.before;
              within = λ x a. within_longer down qs named i g x a i e (is_whole x a) (is_cut_there x a);
              apart = λ x a.
                  subst (Apart plan (g.cuts ++ i ∷ e ∷ [])) more (apart_longer down qs named i g x a i e (is_whole x a) (is_cut_there x a));
            }

  module _ (down : List ℕ) (qs : Standing) (named i : ℕ) (g : Suspecting row crossed z p down qs named i) where
    -- at the end, where nothing is named: the pairs picked have the crossings
    pub suspects_over : z.timeout ≤ i → named ≡ 0 → Matches (plan_of row) crossed (cuts_of p)
    suspects_over over none =
        let t : i ≡ (plan_of row).timeout = omega (arith, g.early, may.play.timeout) in
        subst (λ (c : List ℕ). Matches (plan_of row) crossed c) (g.bare none)
        (subst (MatchesBefore (plan_of row) crossed g.cuts) t g.before)

    -- fewer pairs than links are named do not cut them all
    pub suspects_fewer : (j : ℕ) → j < named → NoneOf (plan_of row) (Matches (plan_of row) crossed) (cuts_of p) j
    suspects_fewer j less x long good matches =
        let a : Answer row crossed p x = record { good = good; matches = matches } in
        too_many (plan_of row) may.good g.cuts (cuts_of p ++ x) good (p.count + named) (p.count + j) (omega arith) g.long
        (omega (arith, length-append (cuts_of p) x, may.holding.chosen.long)) (g.apart x a) (g.within x a)

    -- where as many links are named as pairs are to come, an answer cuts no other first
    pub suspects_only : (s e : ℕ) (x : List ℕ) → length x + 2 ≡ 2 * named → is_down down e ≡ false →
        Not (plan_of row) (Matches (plan_of row) crossed) (cuts_of p ++ s ∷ e ∷ x)
    suspects_only s e x long whole good matches =
        let y = s ∷ e ∷ x in
        let h = may.holding.chosen.long in
        let cut : is_cut (plan_of row) (cuts_of p ++ y) s e ≡ true =
        is_cut_lem (plan_of row) (cuts_of p ++ y) s e (p.count + 0) (omega (arith, length-append (cuts_of p) y, h))
        (ap (λ (k : ℕ). cuts_link (plan_of row) k e) (link_right (cuts_of p) y p.count h 0) ∙ cuts_own (plan_of row) e)
        (omega (arith, slot_right (cuts_of p) y p.count h 0)) in
        one_too_many down qs named i g y (record { good = good; matches = matches }) s e whole cut named (omega arith) (omega arith)

-- so for the pairs picked with which a loop began, whatever they are; and no more links are named than pairs may come
pub record Suspects (row table crossed : List ℕ) (z : Sizes) (n : ℕ) (down₀ : List ℕ) (qs₀ : Standing) (i₀ : ℕ)
    (down : List ℕ) (qs : Standing) (named i : ℕ) : Type 0 where
  pub of : (p : Picked) → MaySuspect row table crossed z qs₀ p → p.down ≡ down₀ → p.slot ≡ i₀ →
      Suspecting row crossed z p down qs named i
  pub few : named ≤ n
