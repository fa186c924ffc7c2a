-- The two loops of the walk: over the links of a slot, and over the slots.
use Prim.Native.Nat.{ℕ, ◌+◌, ◌-◌, ◌*◌, ◌≤◌, ◌<◌}
use native.Mathlib.Omega.{arith}
use mathlib.Core.Path.{◌≡◌, refl, sym, ap, subst}
use mathlib.Core.Bool.{Bool, true, false, not, ◌&&◌, ◌||◌}
use mathlib.Core.List.{List, [], ◌∷◌, ◌++◌}
use lib.ListN.{length, get_or, take}
use lib.Dec.{ltb, eqb}
use borrow.Author.Tests.{ltb-true, ltb-false, eqb-true, leb-false}
use Rattle.scope.specs.Limits.{most_links, most_cuts}
use Rattle.cuts.specs.Down.{is_down}
use Rattle.scope.specs.Plan.{plan_of}
use Rattle.step.specs.declared.Standing.{Standing}
use Rattle.order.specs.Search.{code, NoneOf, NoneIn}
use Rattle.order.proofs.Steps.{after, no_more, none_before, passed, passed_one, first-here, slot_over, joined, first_in_slot}
use Rattle.order.proofs.Steps.{itself, all_over, first_of_all}
use Rattle.picks.specs.declared.Sizes.{Sizes}
use Rattle.picks.specs.declared.Picked.{Picked}
use Rattle.picks.specs.Picks.{cuts_of, with_pair, Holding, StandAt}
use Rattle.picks.proofs.Picking.{closed_already, cuts-more, holding-more, stand-more}
use Rattle.clues.specs.declared.Clue.{Clue}
use Rattle.clues.specs.declared.Clue.TheVariants.{Nothing}
use Rattle.clues.specs.declared.Suspicion.{Suspicion}
use Rattle.clues.specs.Clues.{MatchesIn, MatchesBefore, Matches, MayLook, Shows, Looked, MaySuspect, Names}
use Rattle.clues.proofs.Lists.{matches-more}
use Rattle.clues.proofs.Looking.{shown_nothing}
use Rattle.std.proofs.Common.{Some, None}
use Rattle.explaining.specs.Walk.{is_unseen, is_open, MaySeek, MaySeekIn, Sought, SoughtIn}
use Rattle.explaining.proofs.Seen.{cut_too_early}
use Rattle.explaining.proofs.Opening.{not_open, open_whole}
use Rattle.explaining.proofs.Matching.{still_differs, seen_other}
use Rattle.explaining.proofs.Telling.{lists_more}

-- in slot s, from link e on: no list matches whose next pair is there and before link i
pub record Looking (row crossed : List ℕ) (z : Sizes) (p : Picked) (n s e i : ℕ) : Type 0 where
  pub none : NoneIn (plan_of row) (Matches (plan_of row) crossed) (cuts_of p) (n - 1) (code s e) (code s i)
  pub start : e ≤ i
  pub within : i ≤ z.links

-- over the slots: no list matches whose next pair comes before slot s and link e, and up to slot s the pairs picked do
pub record Climbing (row crossed : List ℕ) (z : Sizes) (p : Picked) (n s e : ℕ) (qs : Standing) : Type 0 where
  pub none : NoneIn (plan_of row) (Matches (plan_of row) crossed) (cuts_of p) (n - 1) 0 (code s e)
  pub stand : StandAt row z.messages (cuts_of p) s qs
  pub before : MatchesBefore (plan_of row) crossed (cuts_of p) s
  pub from : p.slot ≤ s
  pub early : s ≤ z.timeout
  pub link : e ≤ z.links
  pub later : code p.slot p.link ≤ code s e

module _ (row table crossed : List ℕ) (z : Sizes) (ps : Standing) (p : Picked) (n : ℕ) (named last : List ℕ) (all : Bool) (s e : ℕ)
    (m : MaySeekIn row table crossed z ps p n named last all s e) where
  abbrev start : ℕ
  start = code p.slot p.link

  few : length (plan_of row).links ≤ most_links
  few = omega (arith, m.play.links, m.play.few)

  pub looks_first : Looking row crossed z p n s e e
  looks_first = record { none = λ a b x long low high. absurd (omega arith); start = omega arith; within = m.link }

  module _ (i : ℕ) (g : Looking row crossed z p n s e i) (l : i < z.links) where
    -- no list that matches goes on with link i: the next one
    looks_past : NoneOf (plan_of row) (Matches (plan_of row) crossed) (cuts_of p ++ s ∷ i ∷ []) (n - 1) → Looking row crossed z p n s e (i + 1)
    looks_past all =
        record {
          none =
              passed_one (plan_of row) (Matches (plan_of row) crossed) few (cuts_of p) p.count start m.holding.chosen (n - 1) (code s e) s i
              (omega (arith, m.play.few)) g.none all;
          start = omega (arith, g.start);
          within = omega arith;
        }

    -- it is not to be tried: it is closed, or crossed in this slot or later, or no list goes on with it
    pub looks_over : is_open p.closed named last all s i ≡ false → Looking row crossed z p n s e (i + 1)
    looks_over shut =
        record {
          none =
              passed (plan_of row) (Matches (plan_of row) crossed) few (cuts_of p) p.count start m.holding.chosen (n - 1) (code s e) s i (i + 1)
              (omega (arith, m.play.few)) g.none
              (λ b u w x long.
              let same : i ≡ b = omega arith in
              not_open (is_down p.closed b) (is_unseen last s b) all (is_down named b)
              (subst (λ (j : ℕ). is_open p.closed named last all s j ≡ false) same shut)
              (λ shut. closed_already row z p m.holding b (Matches (plan_of row) crossed) few (omega arith) (n - 1) s shut x)
              (λ later.
              cut_too_early row table crossed z m.good m.play (cuts_of p) p.count s b x m.holding.chosen.long
              (m.lasts.seen s b (leb-false (get_or last b 0) s later)))
              (λ every other. m.only every s b x (omega (arith, m.some)) other));
          start = omega (arith, g.start);
          within = omega arith;
        }

  module _ (i : ℕ) (g : Looking row crossed z p n s e i) (l : i < z.links) (t : is_open p.closed named last all s i ≡ true) where
    pub may-suspect : (q : Picked) → q ≡ with_pair z p s i → MaySuspect row table crossed z ps q
    may-suspect q is =
        let room : p.count < most_cuts = omega (arith, m.few, m.some) in
        record {
          good = m.good;
          play = m.play;
          holding =
              rw is
              (holding-more row table z p m.play m.holding s i room (omega (arith, m.later, g.start)) m.early l
              (open_whole (is_down p.closed i) (is_unseen last s i && (not all || is_down named i)) t));
          stand = rw is (stand-more row table z p m.play m.holding s i room z.messages ps m.stand);
          before =
              rw (is, cuts-more row table z p m.play m.holding s i room)
              (matches-more (plan_of row) (cuts_of p) p.count m.holding.chosen.long s i crossed m.before);
          size = m.size;
        }

    pub may_go_on : (q : Picked) (v : Suspicion) → q ≡ with_pair z p s i → Names row crossed q (n - 1) v →
        MaySeek row table crossed z ps q (n - 1) v last
    may_go_on q v is told =
        record { suspect = may-suspect q is; few = rw is (omega (arith, m.few, m.some)); told = told; lasts = m.lasts }

    module _ (q : Picked) (is : q ≡ with_pair z p s i) where
      more : cuts_of (with_pair z p s i) ≡ cuts_of p ++ s ∷ i ∷ []
      more = cuts-more row table z p m.play m.holding s i (omega (arith, m.few, m.some))

      pub looks_some : (r : List ℕ) → Sought row crossed q (n - 1) (Some r) → SoughtIn row crossed p n s e (Some r)
      looks_some r f =
          let told : Sought row crossed (with_pair z p s i) (n - 1) (Some r) = rw is at f in
          lists_more _ _ (p.count + 1 + (n - 1)) (p.count + n) r (omega (arith, m.some))
          (λ first.
          first-here (plan_of row) (Matches (plan_of row) crossed) few (cuts_of p) p.count start m.holding.chosen (n - 1) (code s e) s i
          (take (2 * (p.count + n)) r) (omega (arith, m.play.few)) (omega (arith, g.start)) g.none (rw more at first))
          told

      pub looks_on : NoneOf (plan_of row) (Matches (plan_of row) crossed) (cuts_of q) (n - 1) → Looking row crossed z p n s e (i + 1)
      looks_on none =
          let told : NoneOf (plan_of row) (Matches (plan_of row) crossed) (cuts_of (with_pair z p s i)) (n - 1) = rw is at none in
          looks_past i g l (rw more at told)

  module _ (i : ℕ) (g : Looking row crossed z p n s e i) where
    pub looks_done : z.links ≤ i → SoughtIn row crossed p n s e None
    looks_done l =
        let end : i ≡ length (plan_of row).links = omega (arith, g.within, m.play.links) in
        slot_over (plan_of row) (Matches (plan_of row) crossed) few (cuts_of p) p.count start m.holding.chosen (n - 1) (code s e) s
        (subst (λ (j : ℕ). NoneIn (plan_of row) (Matches (plan_of row) crossed) (cuts_of p) (n - 1) (code s e) (code s j)) end g.none)

-- the pairs picked are all, and they match
pub is_it : (row crossed : List ℕ) (z : Sizes) (p : Picked) (n : ℕ) → Holding row z p → n ≡ 0 → Matches (plan_of row) crossed (cuts_of p) →
    Sought row crossed p n (Some p.numbers)
is_it row crossed z p n h none it =
    let c : p.count + 0 ≡ p.count = omega arith in
    let list : take (2 * (p.count + 0)) p.numbers ≡ cuts_of p = ap (λ (k : ℕ). take (2 * k) p.numbers) c in
    rw none
    (record {
      long = h.long;
      first = rw list (itself (plan_of row) (Matches (plan_of row) crossed) (cuts_of p) h.chosen.good it);
      past = λ j l. h.past j (omega arith);
    })

module _ (row table crossed : List ℕ) (z : Sizes) (ps : Standing) (p : Picked) (n : ℕ) (v : Suspicion) (last : List ℕ)
    (m : MaySeek row table crossed z ps p n v last) where
  -- no pair is to come, and so none is named
  pub no_more_pairs : n ≡ 0 → Sought row crossed p n (Some p.numbers)
  no_more_pairs none = is_it row crossed z p n m.suspect.holding none (m.told.whole (omega (arith, m.told.few)))

  module _ (some : n ≡ 0 → ⊥) where
    abbrev begin : ℕ
    begin = code p.slot p.link

    fits : length (plan_of row).links ≤ most_links
    fits = omega (arith, m.suspect.play.links, m.suspect.play.few)

    all : 1 + (n - 1) ≡ n
    all = omega (arith, some)

    pub climbs_first : Climbing row crossed z p n p.slot p.link ps
    climbs_first =
        record {
          none = none_before (plan_of row) (Matches (plan_of row) crossed) fits (cuts_of p) p.count begin m.suspect.holding.chosen (n - 1);
          stand = m.suspect.stand;
          before = m.suspect.before;
          from = omega arith;
          early = m.suspect.holding.slot;
          link = m.suspect.holding.link;
          later = omega arith;
        }

    module _ (s e : ℕ) (qs : Standing) (g : Climbing row crossed z p n s e qs) where
      pub may_look_in : s < z.timeout → MaySeekIn row table crossed z qs p n v.down last (eqb v.named n) s e
      may_look_in early =
          record {
            good = m.suspect.good;
            play = m.suspect.play;
            holding = m.suspect.holding;
            stand = g.stand;
            before = g.before;
            size = m.suspect.size;
            lasts = m.lasts;
            few = m.few;
            some = omega (arith, some);
            early = early;
            link = g.link;
            later = g.later;
            only = λ same a b x long. m.told.only a b x (omega (arith, eqb-true v.named n same));
          }

      pub may_look : s < z.timeout → MayLook row table crossed z qs
      may_look early =
          record { play = m.suspect.play; stand = g.stand.next.stand; early = omega (arith, g.stand.time); size = m.suspect.size }

      pub climbs_over : z.timeout ≤ s → Sought row crossed p n None
      climbs_over over =
          rw all at
          (all_over (plan_of row) (Matches (plan_of row) crossed) fits (cuts_of p) p.count begin m.suspect.holding.chosen (n - 1) s e
          (omega (arith, m.suspect.play.timeout)) g.none)

      pub climbs_some : (r : List ℕ) → SoughtIn row crossed p n s e (Some r) → Sought row crossed p n (Some r)
      climbs_some r f =
          lists_more _ _ (p.count + n) (p.count + n) r refl
          (λ first.
          rw all at
          (first_of_all (plan_of row) (Matches (plan_of row) crossed) fits (cuts_of p) p.count begin m.suspect.holding.chosen (n - 1)
          (take (2 * (p.count + n)) r)
          (first_in_slot (plan_of row) (Matches (plan_of row) crossed) fits (cuts_of p) p.count begin m.suspect.holding.chosen (n - 1) 0
          (code s e) (take (2 * (p.count + n)) r) g.none first)))
          f

      module _ (f : SoughtIn row crossed p n s e None) (early : s < z.timeout) (seen : Clue) (looks : Looked row crossed z p.down qs seen) where
        -- no list that goes on in this slot or before it matches
        tried : NoneIn (plan_of row) (Matches (plan_of row) crossed) (cuts_of p) (n - 1) 0 (code (s + 1) 0)
        tried =
            joined (plan_of row) (Matches (plan_of row) crossed) fits (cuts_of p) p.count begin m.suspect.holding.chosen (n - 1) 0
            (code s e) (code (s + 1) 0) g.none f

        at : qs.time.0 ≡ s
        at = g.stand.time

        saw : Shows row crossed z.messages (cuts_of p) qs.time.0 seen
        saw =
            looks (cuts_of p) (subst (λ (j : ℕ). StandAt row z.messages (cuts_of p) j qs) (sym at) g.stand)
            (λ x. rw at (m.suspect.holding.down s x g.from))

        -- the slot differs, and no later pair mends it
        pub climbs_stop : ((next : Standing) → seen ≡ Nothing next → ⊥) → Sought row crossed p n None
        climbs_stop u =
            let other = seen_other row crossed z.messages (cuts_of p) qs.time.0 seen saw u in
            rw all at
            (no_more (plan_of row) (Matches (plan_of row) crossed) fits (cuts_of p) p.count begin m.suspect.holding.chosen (n - 1)
            (s + 1) 0 tried
            (λ a c x long low good it.
            let next =
            after (plan_of row) (Matches (plan_of row) crossed) fits (cuts_of p) p.count begin m.suspect.holding.chosen (n - 1) a c x
            good in
            still_differs (plan_of row) crossed (cuts_of p) p.count (n - 1) s a c x fits m.suspect.holding.chosen.long long
            (omega (arith, m.suspect.play.timeout)) (omega (arith, next.link)) good (rw at at other) it))

        -- it does not: the next slot
        pub climbs_on : (next : Standing) → seen ≡ Nothing next → Climbing row crossed z p n (s + 1) 0 next
        climbs_on next u =
            let same = shown_nothing row crossed z.messages (cuts_of p) qs.time.0 seen saw next u in
            record {
              none = tried;
              stand = rw at at (saw.stand next u);
              before = λ i l. by i l (ltb i s) refl (rw at at same);
              from = omega (arith, g.from);
              early = omega arith;
              link = omega arith;
              later = omega (arith, g.later, g.link, m.suspect.play.few);
            }
          where
            by : (i : ℕ) → i < s + 1 → (c : Bool) → ltb i s ≡ c → MatchesIn (plan_of row) crossed (cuts_of p) s →
                MatchesIn (plan_of row) crossed (cuts_of p) i
            by i l true v here = g.before i (ltb-true i s v)
            by i l false v here =
                let end : s ≡ i = omega (arith, ltb-false i s v) in
                subst (λ (j : ℕ). MatchesIn (plan_of row) crossed (cuts_of p) j) end here
