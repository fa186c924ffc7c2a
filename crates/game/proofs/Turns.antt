-- The two turns: what each asks of those that it calls, and that the least number of arrivals comes back.
use Rattle.std.proofs.Common.{◌≡◌, refl, sym, ◌∙◌, ap, subst, ℕ, ◌+◌, ◌-◌, ◌*◌, ◌≤◌, ◌<◌, min, Bool, true, false, not, cond, List, [], ◌∷◌, ◌++◌}
use Rattle.std.proofs.Common.{length, ltb, eqb, arith}
use mathlib.Core.Bool.{and-eq-true_iff}
use mathlib.Core.List.{append-nil}
use borrow.Author.Tests.{ltb-false, eqb-true, eq-eqb, ne_eqb, not-true}
use Rattle.scope.specs.Limits.{most_links, most_cuts}
use Rattle.scope.specs.Lowest.{seek}
use Rattle.scope.specs.Plan.{plan_of}
use Rattle.scope.specs.Cuts.{is_cut}
use Rattle.scope.specs.Cycle.{order_of, table_of, start, positions, arrived, arrivals}
use Rattle.scope.specs.Verdict.{Fails}
use Rattle.scope.proofs.Lowest.{seek-from, seek-most, seek_is, seek-low}
use Rattle.cuts.specs.Down.{is_down}
use Rattle.step.specs.declared.Standing.{Standing}
use Rattle.step.specs.Stand.{positions_of}
use Rattle.bound.specs.Bounds.{Bounds}
use Rattle.order.specs.Search.{code, Not, NoneOf, NoneIn}
use Rattle.order.proofs.Steps.{split, after, passed_one, slot_over}
use Rattle.board.specs.declared.Board.{Board}
use Rattle.board.specs.Lent.{Lent}
use Rattle.picks.specs.declared.Picked.{Picked}
use Rattle.picks.specs.Picks.{cuts_of, with_pair, Holding, StandAt, MayAdvance}
use Rattle.picks.proofs.Picking.{is_name, cuts-more, holding-more, stand-more}
use Rattle.picks.proofs.Playing.{may_advance}
use Rattle.risks.specs.declared.Hits.{Hits}
use Rattle.risks.specs.declared.Risk.{Risk}
use Rattle.risks.specs.declared.Rest.{Rest}
use Rattle.risks.specs.Weighed.{rest_of, loss_with, too_light, in_vain, passes, Fits, AreAway, Leaves}
use Rattle.risks.specs.Risks.{risks_of, MayHit, IsHit, MayWeigh, MayTry}
use Rattle.risks.proofs.Light.{skipped, none-later, none_in_vain}
use Rattle.risks.proofs.Risks.{covers_more, all-counted, counted, lost-counted, may-weigh}
use Rattle.game.specs.Turns.{needed_for, first_worth, worth_picking, Reached, Turn, MayBreak, MayPick, Turned}
use Rattle.game.proofs.Leaving.{lower, enough, reached-more, all_of}

-- the links of slot s that come before link i are looked at: no list that goes on with one of them leaves fewer than `best`
pub record Breaking (row : List ℕ) (board : Board) (p : Picked) (n s e least best i : ℕ) : Type 0 where
  pub low : best ≤ least
  pub reached : best < least → Reached (plan_of row) (p.count + n) best
  pub leave : (k : ℕ) → k < n → NoneIn (plan_of row) (Fails (plan_of row) best) (cuts_of p) k (code s e) (code s i)
  pub start : e ≤ i
  pub within : i ≤ board.sizes.links
  pub some : i < board.sizes.links → 0 < n
  pub free : i < board.sizes.links → is_down p.closed i ≡ false

-- the bounds hold whatever number of arrivals is asked for
module _ (row : List ℕ) (board : Board) (lent : Lent row board) where
  few : length (plan_of row).links ≤ most_links
  few = omega (arith, lent.laid.play.links, lent.laid.play.few)

  pub bounds_for : (l : ℕ) → Bounds (plan_of row) (Fails (plan_of row) l) (needed_for board.sizes.messages l) board.weights board.most
  bounds_for l = by (eqb l 0) refl
    where
      all : Bounds (plan_of row) (Fails (plan_of row) l) (board.sizes.messages + 1 - l) board.weights board.most
      all = lent.bounds l (board.sizes.messages + 1 - l) refl

      -- no list leaves fewer than none
      none : (l ≡ 0) → (n : ℕ) → n < l → ⊥
      none is n less = omega arith

      by : (t : Bool) → eqb l 0 ≡ t → Bounds (plan_of row) (Fails (plan_of row) l) (cond t 65536 (board.sizes.messages + 1 - l)) board.weights board.most
      by false t = all
      by true t =
          let never = none (eqb-true l 0 t) in
          record {
            touches =
                record {
                  enough = λ pre x d n s early long rest later good it. absurd (never _ it);
                  later = all.touches.later;
                  falls = all.touches.falls;
                };
            strips =
                record {
                  enough = λ pre x d n s early long rest later good it. absurd (never _ it);
                  later = all.strips.later;
                  falls = all.strips.falls;
                };
            both =
                record {
                  enough = λ pre x d n s early long rest later good it. absurd (never _ it);
                  later = all.both.later;
                  falls = all.both.falls;
                };
            last = λ pre x d s touched stripped long two later good it. absurd (never _ it);
            whole = λ cuts d s early long good it. absurd (never _ it);
          }

-- a pick
module _ (row : List ℕ) (board : Board) (hits : Hits) (ps : Standing) (left : ℕ) (p : Picked)
    (n s e least : ℕ) (m : MayPick row board hits ps left p n s e least) where
  lent : Lent row board
  lent = m.turn.lent

  abbrev next : Picked
  next = with_pair board.sizes p s e

  pub room : p.count < most_cuts
  room = omega (arith, m.turn.few, m.some)

  pub more-cuts : cuts_of next ≡ cuts_of p ++ s ∷ e ∷ []
  more-cuts = cuts-more row board.table board.sizes p lent.laid.play m.turn.holding s e room

  pub holds : Holding row board.sizes next
  holds = holding-more row board.table board.sizes p lent.laid.play m.turn.holding s e room m.later m.turn.early m.link m.free

  pub may-hit : MayHit board.touches board.strips board.sizes s e
  may-hit =
      record {
        touches = lent.laid.hit.touch;
        strips = lent.laid.hit.strip;
        slot = omega (arith, m.turn.early, lent.laid.play.short);
        link = omega (arith, m.link, lent.laid.play.few);
        others = lent.laid.play.others.bytes;
      }

  pub may-cut : (q : Picked) (more : Hits) → q ≡ next → IsHit board.touches board.strips board.sizes hits s e more →
      MayBreak row board more ps left q (n - 1) s (e + 1) least
  may-cut q more isq hit =
      record {
        turn =
            record {
              lent = lent;
              holding = rw isq holds;
              covers =
                  rw (isq, more-cuts)
                  (covers_more row board.touches board.strips board.sizes (cuts_of p) p.count s e hits more lent.laid.hit lent.laid.play.others
                  m.turn.holding.chosen.long (omega (arith, m.turn.early, lent.laid.play.timeout))
                  (omega (arith, m.link, lent.laid.play.links)) (is_name row board.sizes p m.turn.holding e m.link m.free) m.turn.covers hit);
              stand = rw isq (stand-more row board.table board.sizes p lent.laid.play m.turn.holding s e room board.sizes.messages ps m.turn.stand);
              few = rw isq (omega (arith, m.turn.few, m.some));
              from = rw isq (omega arith);
              early = m.turn.early;
              low = m.turn.low;
            };
        away = m.away;
        link = omega (arith, m.link);
        later = rw isq (omega arith);
      }

  -- in vain: no list that goes on with it leaves fewer than is known
  pub picked_in_vain : (need : ℕ) (more : Hits) (risk : Risk) (vain : Bool) → need ≡ needed_for board.sizes.messages least →
      IsHit board.touches board.strips board.sizes hits s e more → risk ≡ risks_of more left → vain ≡ in_vain risk (n - 1) board.most need s → vain ≡ true →
      Turned row next (n - 1) (code s (e + 1)) least least
  picked_in_vain need more risk vain hn hit is t so =
      record {
        low = omega arith;
        leave =
            record {
              none =
                  enough least (arrivals (plan_of row) (cuts_of next)) (λ it.
                  none 0 (omega arith) [] refl (rw (append-nil (cuts_of next)) holds.chosen.good) (rw (append-nil (cuts_of next)) it));
              more = λ k l a b x long low. none (k + 1) (omega arith) (a ∷ b ∷ x) (omega arith);
            };
        reached = λ h. absurd (omega arith);
      }
    where
      then : MayBreak row board more ps left next (n - 1) s (e + 1) least
      then = may-cut next more refl hit

      none : (j : ℕ) → j ≤ n - 1 → NoneOf (plan_of row) (Fails (plan_of row) least) (cuts_of next) j
      none j fewer =
          none_in_vain row board.table board.weights board.most board.sizes next (Fails (plan_of row) least) (needed_for board.sizes.messages least)
          (bounds_for row board lent least) lent.laid.play holds s risk (omega arith)
          (all-counted row board.sizes.messages (cuts_of next) s ps then.turn.stand lent.laid.play.messages left m.away more
          then.turn.covers risk is)
          j (n - 1) fewer (rw hn at (sym t ∙ so))

-- the breaker's turn
module _ (row : List ℕ) (board : Board) (hits : Hits) (ps : Standing) (left : ℕ) (p : Picked) (n s e least :
    ℕ)
    (m : MayBreak row board hits ps left p n s e least) where
  right : Lent row board
  right = m.turn.lent

  links-few : length (plan_of row).links ≤ most_links
  links-few = few row board right

  bounds : (l : ℕ) → Bounds (plan_of row) (Fails (plan_of row) l) (needed_for board.sizes.messages l) board.weights board.most
  bounds = bounds_for row board right

  pub may_weigh_rest : (risk : Risk) (k : ℕ) → risk ≡ risks_of hits left → k ≡ n - 1 → MayWeigh risk k board.most s
  may_weigh_rest risk k is less =
      may-weigh hits left board.most s k risk is (omega (arith, m.turn.few)) right.laid.tops (omega (arith, m.turn.early, right.laid.play.short))

  module _ (risk : Risk) (k : ℕ) (rest : Rest) (is : risk ≡ risks_of hits left) (less : k ≡ n - 1)
      (so : (rest ≡ rest_of risk k board.most s) × Fits rest) where
    pub may_try : (need : ℕ) → need ≤ 65536 → MayTry board.weights board.most need rest s
    may_try need small =
        record {
          heavy = right.laid.heavy;
          tops = right.laid.tops;
          small = small;
          fits = so.1;
          early = omega (arith, m.turn.early, right.laid.play.short);
        }

    leaves : Leaves row (cuts_of p) board.most s (n - 1) rest
    leaves =
        subst (λ (j : ℕ). Leaves row (cuts_of p) board.most s j rest) less
        (counted row board.sizes.messages (cuts_of p) s ps m.turn.stand right.laid.play.messages left m.away hits m.turn.covers board.most k
        risk rest is so.0 so.1)

    -- the links of slot s that are worth a cut, where fewer than l arrivals are sought
    abbrev test : ℕ → ℕ → Bool
    test need = passes p.closed board.weights board.most need rest s

    -- links passed over that are worth no cut
    over_links : (l j a f : ℕ) → j < n → f ≤ board.sizes.links → ((b : ℕ) → a ≤ b → b < f → test (needed_for board.sizes.messages l) b ≡ false) →
        NoneIn (plan_of row) (Fails (plan_of row) l) (cuts_of p) j (code s e) (code s a) →
        NoneIn (plan_of row) (Fails (plan_of row) l) (cuts_of p) j (code s e) (code s f)
    over_links l j a f h within none =
        skipped row board.table board.weights board.most board.sizes p (Fails (plan_of row) l) (needed_for board.sizes.messages l) (bounds l) right.laid.play m.turn.holding s (n
        - 1)
        j rest leaves (omega arith) (code s e) a f within none

    free-link : (need i : ℕ) → test need i ≡ true → is_down p.closed i ≡ false
    free-link need i t =
        not-true (is_down p.closed i)
        ((and-eq-true_iff (not (is_down p.closed i)) (not (too_light need (loss_with rest board.weights board.most need s i)))).0 t).0

    module _ (need f more : ℕ) (hn : need ≡ needed_for board.sizes.messages least) (hf : f ≡ first_worth n (test need) board.sizes.links)
        (hm : more ≡ worth_picking n f board.sizes.links) where
      -- the first link worth a cut, where a pair may be picked
      is-seek : 0 < n → f ≡ seek (test (needed_for board.sizes.messages least)) (board.sizes.links - 0) 0
      is-seek h =
          hf ∙ ap (λ (t : Bool). cond t board.sizes.links (seek (test need) (board.sizes.links - 0) 0)) (ne_eqb n 0 (λ none. omega arith)) ∙
          ap (λ (w : ℕ). seek (test w) (board.sizes.links - 0) 0) hn

      none_where : n ≡ 0 → f ≡ board.sizes.links
      none_where h = hf ∙ ap (λ (t : Bool). cond t board.sizes.links (seek (test need) (board.sizes.links - 0) 0)) (eq-eqb n 0 h)

      pub f_within : f ≤ board.sizes.links
      f_within =
          split 0 n (λ some. omega (arith, is-seek some, seek-most (test (needed_for board.sizes.messages least)) (board.sizes.links - 0) 0))
          (λ none. omega (arith, none_where (omega arith)))

      -- as many pairs as may be picked, or none
      all_or_none : (P : Type 0) → (more ≡ n → P) → (more ≡ 0 → board.sizes.links ≤ f → P) → P
      all_or_none P all none = by (ltb f board.sizes.links) refl
        where
          by : (t : Bool) → ltb f board.sizes.links ≡ t → P
          by true t = all (hm ∙ ap (λ (u : Bool). cond u n 0) t)
          by false t = none (hm ∙ ap (λ (u : Bool). cond u n 0) t) (ltb-false f board.sizes.links t)

      pub no_more : more ≤ n
      no_more = all_or_none (more ≤ n) (λ h. omega arith) (λ h o. omega arith)

      -- where no link is worth a cut, no list with a pair more leaves fewer than is known
      nothing_worth : board.sizes.links ≤ f → (j : ℕ) → j < n → (a b : ℕ) (x : List ℕ) → length x ≡ 2 * j → code s e ≤ code a b →
          Not (plan_of row) (Fails (plan_of row) least) (cuts_of p ++ a ∷ b ∷ x)
      nothing_worth over j h a b x long low =
          none-later row board.table board.weights board.most board.sizes p (Fails (plan_of row) least) (needed_for board.sizes.messages least) (bounds least) right.laid.play
          m.turn.holding s (n - 1) j rest leaves (omega arith) f (is-seek (omega arith)) over a b x long (omega arith)

      pub over_turned : more ≡ 0 → risk.lost < need → Turned row p n (code s e) least least
      over_turned none_left light =
          record {
            low = omega arith;
            leave =
                record {
                  none =
                      enough least (arrivals (plan_of row) (cuts_of p))
                      (λ it.
                      omega (
                        arith,
                        (bounds least).whole (cuts_of p) p.count s (omega (arith, m.turn.early, right.laid.play.timeout))
                            m.turn.holding.chosen.long m.turn.holding.chosen.good it,
                        lost-counted row board.sizes.messages (cuts_of p) s ps m.turn.stand right.laid.play.messages left m.away hits
                            m.turn.covers,
                        ap (λ (x : Risk). x.lost) is,
                        light,
                        hn,
                      ));
                  more = λ j h. all_or_none _ (λ all. absurd (omega (arith, none_left))) (λ none over. nothing_worth over j h);
                };
            reached = λ h. absurd (omega arith);
          }

      -- the loop begins
      module _ (from : ℕ) (hs : from ≡ e + (f - e)) where
        pub from-within : from ≤ board.sizes.links
        from-within = omega (arith, f_within, m.link)

        pub breaks-first : (i : ℕ) → i ≡ seek (test need) (board.sizes.links - from) from → Breaking row board p n s e least least i
        breaks-first i found =
            record {
              low = omega arith;
              reached = λ h. absurd (omega arith);
              leave = λ j h. over_links least j e i h (omega (arith, most-of, inside)) (λ b u w. not_worth (omega arith) b u w) (λ a b x long u
                  w. absurd (omega arith));
              start = omega (arith, from-of);
              within = omega (arith, most-of, inside);
              some = λ h. split 0 n (λ some. some) (λ none. absurd (omega (arith, from-of, none_where (omega arith))));
              free = λ h. free-link need i (rw found (seek_is (test need) (board.sizes.links - from) from (omega arith)));
            }
          where
            most-of : i ≤ from + (board.sizes.links - from)
            most-of = omega (arith, seek-most (test need) (board.sizes.links - from) from)

            from-of : from ≤ i
            from-of = omega (arith, seek-from (test need) (board.sizes.links - from) from)

            inside : from ≤ board.sizes.links
            inside = from-within

            not_worth : 0 < n → (b : ℕ) → e ≤ b → b < i → test (needed_for board.sizes.messages least) b ≡ false
            not_worth some b u w =
                split b f
                (λ less. seek-low (test (needed_for board.sizes.messages least)) (board.sizes.links - 0) 0 b (omega arith) (omega (arith, is-seek some)))
                (λ no_less.
                ap (λ (v : ℕ). test v b) (sym hn) ∙ seek-low (test need) (board.sizes.links - from) from b (omega arith) (omega arith))

      -- the network's turn may come, and what it answers is the answer
      module _ (best i : ℕ) (g : Breaking row board p n s e least best i) (done : board.sizes.links ≤ i) where
        pub may-pass : Turn row board hits ps p more s best
        may-pass =
            record {
              lent = right;
              holding = m.turn.holding;
              covers = m.turn.covers;
              stand = m.turn.stand;
              few = omega (arith, m.turn.few, no_more);
              from = m.turn.from;
              early = m.turn.early;
              low = omega (arith, g.low, m.turn.low);
            }

        pub passed_on : (r : ℕ) → Turned row p more (code (s + 1) 0) best r → Turned row p n (code s e) least r
        passed_on r t =
            record {
              low = omega (arith, t.low, g.low);
              leave = record { none = t.leave.none; more = later };
              reached = λ h.
                  split r best (λ less. reached-more (plan_of row) (p.count + more) (p.count + n) r (omega (arith, no_more)) (t.reached less))
                  (λ no_less.
                  let same : best ≡ r = omega (arith, t.low) in
                  subst (Reached (plan_of row) (p.count + n)) same (g.reached (omega arith)));
            }
          where
            last : i ≡ length (plan_of row).links
            last = omega (arith, g.within, right.laid.play.links)

            here : (k : ℕ) → k < n → NoneIn (plan_of row) (Fails (plan_of row) best) (cuts_of p) k (code s e) (code (s + 1) 0)
            here k h =
                slot_over (plan_of row) (Fails (plan_of row) best) links-few (cuts_of p) p.count (code p.slot p.link)
                m.turn.holding.chosen k (code s e) s
                (subst (λ (j : ℕ). NoneIn (plan_of row) (Fails (plan_of row) best) (cuts_of p) k (code s e) (code s j)) last (g.leave k h))

            later : (k : ℕ) → k < n → (a b : ℕ) (x : List ℕ) → length x ≡ 2 * k → code s e ≤ code a b →
                Not (plan_of row) (Fails (plan_of row) r) (cuts_of p ++ a ∷ b ∷ x)
            later k h a b x long low =
                split (code a b) (code (s + 1) 0)
                (λ less. lower (plan_of row) best r (cuts_of p ++ a ∷ b ∷ x) t.low (here k h a b x long low less))
                (λ more'. all_or_none _ (λ all. t.leave.more k (omega arith) a b x long more')
                (λ none over.
                lower (plan_of row) least r (cuts_of p ++ a ∷ b ∷ x) (omega (arith, t.low, g.low)) (nothing_worth over k h a b x long low)))

    -- a link is picked
    module _ (best i : ℕ) (g : Breaking row board p n s e least best i) (l : i < board.sizes.links) where
      pub may_pick : MayPick row board hits ps left p n s i best
      may_pick =
          record {
            turn =
                record {
                  lent = right;
                  holding = m.turn.holding;
                  covers = m.turn.covers;
                  stand = m.turn.stand;
                  few = m.turn.few;
                  from = m.turn.from;
                  early = m.turn.early;
                  low = omega (arith, g.low, m.turn.low);
                };
            away = m.away;
            some = g.some l;
            link = l;
            later = omega (arith, m.later, g.start);
            free = g.free l;
          }

      -- and the loop goes on behind it
      module _ (r : ℕ) (t : Turned row (with_pair board.sizes p s i) (n - 1) (code s (i + 1)) best r) where
        -- no list that goes on with this pair leaves fewer
        this_pair : (k : ℕ) → k < n → NoneOf (plan_of row) (Fails (plan_of row) r) (cuts_of p ++ s ∷ i ∷ []) k
        this_pair k h =
            rw (more-cuts row board hits ps left p n s i best may_pick) at
            (all_of (plan_of row) links-few (cuts_of (with_pair board.sizes p s i)) (p.count + 1) (code s (i + 1))
            (holds row board hits ps left p n s i best may_pick).chosen (n - 1) r t.leave k
            (omega arith))

        pub still_low : r ≤ board.sizes.messages
        still_low = omega (arith, t.low, g.low, m.turn.low)

        pub breaks_on : (want j : ℕ) → want ≡ needed_for board.sizes.messages r → j ≡ seek (test want) (board.sizes.links - (i + 1)) (i + 1) →
            Breaking row board p n s e least r j
        breaks_on want j hw found =
            record {
              low = omega (arith, t.low, g.low);
              reached = λ h.
                  split r best
                  (λ less.
                  let same : p.count + 1 + (n - 1) ≡ p.count + n = omega (arith, g.some l) in
                  subst (λ (c : ℕ). Reached (plan_of row) c r) same (t.reached less))
                  (λ no_less.
                  let same : best ≡ r = omega (arith, t.low) in
                  subst (Reached (plan_of row) (p.count + n)) same (g.reached (omega arith)));
              leave = λ k h.
                  over_links r k (i + 1) j h (omega (arith, most-of))
                  (λ b u w.
                  ap (λ (v : ℕ). test v b) (sym hw) ∙ seek-low (test want) (board.sizes.links - (i + 1)) (i + 1) b u (omega arith))
                  (passed_one (plan_of row) (Fails (plan_of row) r) links-few (cuts_of p) p.count (code p.slot p.link)
                  m.turn.holding.chosen k (code s e) s i (omega (arith, right.laid.play.few))
                  (λ a b x long u w. lower (plan_of row) best r (cuts_of p ++ a ∷ b ∷ x) t.low (g.leave k h a b x long u w)) (this_pair k
                  h));
              start = omega (arith, g.start, from-of);
              within = omega (arith, most-of);
              some = λ h. g.some l;
              free = λ h. free-link want j (rw found (seek_is (test want) (board.sizes.links - (i + 1)) (i + 1) (omega arith)));
            }
          where
            from-of : i + 1 ≤ j
            from-of = omega (arith, seek-from (test want) (board.sizes.links - (i + 1)) (i + 1))

            most-of : j ≤ i + 1 + (board.sizes.links - (i + 1))
            most-of = omega (arith, seek-most (test want) (board.sizes.links - (i + 1)) (i + 1))

-- the network's turn
module _ (row : List ℕ) (board : Board) (hits : Hits) (ps : Standing) (p : Picked) (n s least : ℕ)
    (m : Turn row board hits ps p n s least) where
  pub may_move : MayAdvance row board.table board.sizes ps p
  may_move = may_advance row board.table board.sizes ps p s m.lent.laid.play m.holding m.stand m.from m.early

  module _ (qs : Standing) (moved : StandAt row board.sizes.messages (cuts_of p) (ps.time.0 + 1) qs) where
    stands : StandAt row board.sizes.messages (cuts_of p) (s + 1) qs
    stands = rw m.stand.time at moved

    -- the breaker's turn comes
    pub may_break : (left : ℕ) → AreAway qs.positions board.sizes.messages left → s + 1 < board.sizes.timeout →
        MayBreak row board hits qs left p n (s + 1) 0 least
    may_break left are early =
        record {
          turn =
              record {
                lent = m.lent;
                holding = m.holding;
                covers = m.covers;
                stand = stands;
                few = m.few;
                from = omega (arith, m.from);
                early = early;
                low = m.low;
              };
          away = are;
          link = omega arith;
          later = omega (arith, m.from, m.holding.link, m.lent.laid.play.few);
        }

    -- or the cycle is over
    pub ends : (home r : ℕ) → board.sizes.timeout ≤ s + 1 → home ≡ arrived (positions_of row board.sizes.messages qs.positions) → r ≡ min least home →
        Turned row p n (code (s + 1) 0) least r
    unfolding arrivals
    ends home r over is so =
        record {
          low = omega arith;
          leave =
              record {
                none = omega (arith, left);
                more = λ k h a b x long low good it.
                    let next =
                    after (plan_of row) (Fails (plan_of row) r) links-few (cuts_of p) p.count (code p.slot p.link) m.holding.chosen k
                    a b x good
                    in
                    omega (arith, low, next.slot, next.link, links-few, m.lent.laid.play.timeout);
              };
          reached = λ h.
              record {
                list = cuts_of p;
                good = m.holding.chosen.good;
                few = omega (arith, m.holding.chosen.long);
                is = omega (arith, left);
              };
        }
      where
        links-few : length (plan_of row).links ≤ most_links
        links-few = few row board m.lent

        left : home ≡ arrivals (plan_of row) (cuts_of p)
        left =
            let t : s + 1 ≡ (plan_of row).timeout = omega (arith, m.early, m.lent.laid.play.timeout) in
            is ∙ ap arrived stands.next.is ∙
            ap (λ (k : ℕ). arrived
            (positions (order_of (plan_of row)) (is_cut (plan_of row) (cuts_of p)) (table_of (plan_of row)) 0 k (start (plan_of row)))) t
