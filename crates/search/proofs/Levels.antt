-- The two loops of the search: over the links of a slot, and over the slots.
use Rattle.std.proofs.Common.{◌≡◌, refl, sym, ◌∙◌, subst, ℕ, ◌+◌, ◌-◌, ◌≤◌, ◌<◌, Bool, true, false, not, None, Some}
use Rattle.std.proofs.Common.{List, [], ◌∷◌, ◌++◌, length, arith}
use mathlib.Core.Bool.{and-eq-true_iff}
use borrow.Author.Tests.{not-true}
use Rattle.scope.specs.Limits.{most_links, most_cuts}
use Rattle.scope.specs.Lowest.{seek}
use Rattle.cuts.specs.Down.{is_down}
use Rattle.scope.specs.Plan.{plan_of}
use Rattle.scope.proofs.Lowest.{seek-from, seek-most, seek_is, seek-low}
use Rattle.step.specs.declared.Standing.{Standing}
use Rattle.picks.specs.Picks.{cuts_of, with_pair, Holding, StandAt, MayAdvance}
use Rattle.board.specs.declared.Board.{Board}
use Rattle.board.specs.declared.Walk.{Walk}
use Rattle.board.proofs.Walking.{may-hit, walks_more}
use Rattle.search.specs.declared.Asked.{Asked}
use Rattle.picks.specs.declared.Picked.{Picked}
use Rattle.risks.specs.declared.Hits.{Hits}
use Rattle.risks.specs.declared.Risk.{Risk}
use Rattle.risks.specs.declared.Rest.{Rest}
use Rattle.search.specs.declared.Found.{Found}
use Rattle.order.specs.Search.{code, NoneOf, NoneIn}
use Rattle.search.specs.Hunt.{Seeks, Ready, list_of}
use Rattle.risks.specs.Weighed.{rest_of, loss_with, too_light, in_vain, passes, Fits}
use Rattle.risks.specs.Weighed.{AreAway, Leaves}
use Rattle.search.specs.Hunt.{MaySeek, MayGoOn, MaySeekIn, Sought, SoughtIn}
use Rattle.order.proofs.Steps.{no_more, none_before, passed_one, first-here, slot_over, joined, first_in_slot}
use Rattle.order.proofs.Steps.{all_over, first_of_all}
use Rattle.risks.proofs.Light.{skipped, none-later, none_in_vain}
use Rattle.search.proofs.Telling.{tells_more}
use Rattle.risks.specs.Risks.{risks_of, MayHit, IsHit, MayWeigh, MayTry}
use Rattle.picks.proofs.Playing.{may_advance}
use Rattle.picks.proofs.Picking.{cuts-more}
use Rattle.risks.proofs.Risks.{all-counted, counted, may-weigh}

-- in slot s, from link e on: the lists whose next pair is there and before link i leave enough
pub record Looking (row : List ℕ) (board : Board) (a : Asked) (p : Picked) (n s e i : ℕ) (rest : Rest) : Type 0 where
  pub leave : NoneIn (plan_of row) (Seeks row a) (cuts_of p) (n - 1) (code s e) (code s i)
  pub start : e ≤ i
  pub within : i ≤ board.sizes.links
  pub may : i < board.sizes.links → passes p.closed board.weights board.most a.need rest s i ≡ true

-- over the slots: the lists whose next pair comes before slot s and link e leave enough, and those of a set are still away
pub record Climbing (row : List ℕ) (board : Board) (a : Asked) (p : Picked) (n s e : ℕ) (qs : Standing) (still : ℕ) : Type 0 where
  pub leave : NoneIn (plan_of row) (Seeks row a) (cuts_of p) (n - 1) 0 (code s e)
  pub stand : StandAt row board.sizes.messages (cuts_of p) s qs
  pub away : AreAway qs.positions board.sizes.messages still
  pub from : p.slot ≤ s
  pub early : s ≤ board.sizes.timeout
  pub link : e ≤ board.sizes.links
  pub later : code p.slot p.link ≤ code s e

module _ (row : List ℕ) (board : Board) (a : Asked) (p : Picked) (n : ℕ)
    (y : Ready row board a) (h : Holding row board.sizes p) (some : 0 < n)
    (room : p.count + n ≤ most_cuts) where
  few : length (plan_of row).links ≤ most_links
  few = omega (arith, y.laid.play.links, y.laid.play.few)

  -- links of slot s passed over, none of which may be tried
  passed_over : (lo s e f : ℕ) (rest : Rest) → Leaves row (cuts_of p) board.most s (n - 1) rest → f ≤ board.sizes.links →
      ((b : ℕ) → e ≤ b → b < f → passes p.closed board.weights board.most a.need rest s b ≡ false) →
      NoneIn (plan_of row) (Seeks row a) (cuts_of p) (n - 1) lo (code s e) → NoneIn (plan_of row) (Seeks row a) (cuts_of p) (n - 1) lo (code s f)
  passed_over lo s e f rest v =
      skipped row board.table board.weights board.most board.sizes p (Seeks row a) a.need y.bounds y.laid.play h s (n - 1) (n - 1) rest v (omega arith) lo e f

  pub looked : (s e i : ℕ) (rest : Rest) (r : ℕ) → Leaves row (cuts_of p) board.most s (n - 1) rest → e ≤ i → i ≤ board.sizes.links →
      NoneIn (plan_of row) (Seeks row a) (cuts_of p) (n - 1) (code s e) (code s i) →
      r ≡ seek (passes p.closed board.weights board.most a.need rest s) (board.sizes.links - i) i → Looking row board a p n s e r rest
  looked s e i rest r v low high leave found =
      let test = passes p.closed board.weights board.most a.need rest s in
      let from = seek-from test (board.sizes.links - i) i in
      let most' = seek-most test (board.sizes.links - i) i in
      record {
        leave =
            passed_over (code s e) s i r rest v (omega arith) (λ b u w. seek-low test (board.sizes.links - i) i b u (omega arith)) leave;
        start = omega arith;
        within = omega arith;
        may = λ l. rw found (seek_is test (board.sizes.links - i) i (omega arith));
      }

  -- the place where to look first
  pub look_first : (s e : ℕ) → NoneIn (plan_of row) (Seeks row a) (cuts_of p) (n - 1) (code s e) (code s e)
  look_first s e x y z long low high = absurd (omega arith)

  module _ (s e i : ℕ) (rest : Rest) (g : Looking row board a p n s e i rest) where
    pub not_cut_yet : i < board.sizes.links → is_down p.closed i ≡ false
    not_cut_yet l =
        not-true (is_down p.closed i)
        ((and-eq-true_iff (not (is_down p.closed i)) (not (too_light a.need (loss_with rest board.weights board.most a.need s i)))).0 (g.may l)).0

    module _ (l : i < board.sizes.links) where
      more : cuts_of (with_pair board.sizes p s i) ≡ cuts_of p ++ s ∷ i ∷ []
      more = cuts-more row board.table board.sizes p y.laid.play h s i (omega arith)

      pub look_some : (f : Found) → Sought row a (with_pair board.sizes p s i) (n - 1) (Some f) → SoughtIn row a p n s e (Some f)
      look_some f is =
          tells_more row _ _ (p.count + 1 + (n - 1)) (p.count + n) f (omega arith) is
          (λ first.
          first-here (plan_of row) (Seeks row a) few (cuts_of p) p.count (code p.slot p.link) h.chosen (n - 1) (code s e) s i
          (list_of f) (omega (arith, y.laid.play.few)) (omega (arith, g.start)) g.leave (rw more at first))

      pub look_on : Sought row a (with_pair board.sizes p s i) (n - 1) None → NoneIn (plan_of row) (Seeks row a) (cuts_of p) (n - 1) (code s e) (code s (i + 1))
      look_on none =
          let all : NoneOf (plan_of row) (Seeks row a) (cuts_of p ++ s ∷ i ∷ []) (n - 1) = rw more at none in
          passed_one (plan_of row) (Seeks row a) few (cuts_of p) p.count (code p.slot p.link) h.chosen (n - 1) (code s e) s i
          (omega (arith, y.laid.play.few)) g.leave all

    pub look_done : board.sizes.links ≤ i → SoughtIn row a p n s e None
    look_done l =
        let end : i ≡ length (plan_of row).links = omega (arith, g.within, y.laid.play.links) in
        (slot_over (plan_of row) (Seeks row a) few (cuts_of p) p.count (code p.slot p.link) h.chosen (n - 1) (code s e) s
        (subst (λ (j : ℕ). NoneIn (plan_of row) (Seeks row a) (cuts_of p) (n - 1) (code s e) (code s j)) end g.leave))

  pub climb_first : (ps : Standing) (left : ℕ) → StandAt row board.sizes.messages (cuts_of p) p.slot ps →
      AreAway ps.positions board.sizes.messages left → Climbing row board a p n p.slot p.link ps left
  climb_first ps left stand are =
      record {
        leave = none_before (plan_of row) (Seeks row a) few (cuts_of p) p.count (code p.slot p.link) h.chosen (n - 1);
        stand = stand;
        away = are;
        from = omega arith;
        early = h.slot;
        link = h.link;
        later = omega arith;
      }

  whole : 1 + (n - 1) ≡ n
  whole = omega arith

  module _ (s e : ℕ) (qs : Standing) (still : ℕ) (g : Climbing row board a p n s e qs still) where
    -- no link of this slot may be tried
    pub climb_stop : (rest : Rest) (f : ℕ) → Leaves row (cuts_of p) board.most s (n - 1) rest →
        f ≡ seek (passes p.closed board.weights board.most a.need rest s) (board.sizes.links - 0) 0 → board.sizes.links ≤ f → Sought row a p n None
    climb_stop rest f v found over =
        let plan = plan_of row in
        let Answers = Seeks row a in
        (rw whole at
        (no_more plan Answers few (cuts_of p) p.count (code p.slot p.link) h.chosen (n - 1) s e g.leave
        (λ i b x long low.
        none-later row board.table board.weights board.most board.sizes p Answers a.need y.bounds y.laid.play h s (n - 1) (n - 1) rest v (omega arith) f found
        over i b x long (omega arith))))

    -- no list goes on with a link of this slot before the first that may be tried
    pub climb_skip : (rest : Rest) (f j : ℕ) → Leaves row (cuts_of p) board.most s (n - 1) rest →
        f ≡ seek (passes p.closed board.weights board.most a.need rest s) (board.sizes.links - 0) 0 → j ≡ e + (f - e) → Climbing row board a p n s j qs still
    climb_skip rest f j v found is =
        let test = passes p.closed board.weights board.most a.need rest s in
        let within : j ≤ board.sizes.links = omega (arith, g.link, seek-most test (board.sizes.links - 0) 0) in
        record {
          leave =
              passed_over 0 s e j rest v within (λ b u w. seek-low test (board.sizes.links - 0) 0 b (omega arith) (omega arith)) g.leave;
          stand = g.stand;
          away = g.away;
          from = g.from;
          early = g.early;
          link = within;
          later = omega (arith, g.later);
        }

    pub climb_over : board.sizes.timeout ≤ s → Sought row a p n None
    climb_over over =
        (rw whole at
        (all_over (plan_of row) (Seeks row a) few (cuts_of p) p.count (code p.slot p.link) h.chosen (n - 1) s e
        (omega (arith, y.laid.play.timeout))
        g.leave))

    pub climb_some : (f : Found) → SoughtIn row a p n s e (Some f) → Sought row a p n (Some f)
    climb_some f is =
        tells_more row _ _ (p.count + n) (p.count + n) f refl is
        (λ first.
        rw whole at
        (first_of_all (plan_of row) (Seeks row a) few (cuts_of p) p.count (code p.slot p.link) h.chosen (n - 1) (list_of f)
        (first_in_slot (plan_of row) (Seeks row a) few (cuts_of p) p.count (code p.slot p.link) h.chosen (n - 1) 0 (code s e)
        (list_of f) g.leave first)))

    pub climb_on : (rs : Standing) (then : ℕ) → SoughtIn row a p n s e None → s < board.sizes.timeout →
        StandAt row board.sizes.messages (cuts_of p) (s + 1) rs →
        AreAway rs.positions board.sizes.messages then → Climbing row board a p n (s + 1) 0 rs then
    climb_on rs then none early stand are =
        record {
          leave =
              joined (plan_of row) (Seeks row a) few (cuts_of p) p.count (code p.slot p.link) h.chosen (n - 1) 0 (code s e)
              (code (s + 1) 0)
              g.leave none;
          stand = stand;
          away = are;
          from = omega (arith, g.from);
          early = omega arith;
          link = omega arith;
          later = omega (arith, g.later, g.link, y.laid.play.few);
        }

-- the calls
module _ (row : List ℕ) (board : Board) (a : Asked) (walk : Walk) (n s e : ℕ)
    (m : MayGoOn row board a walk n s e) where
  abbrev next : Picked
  next = with_pair board.sizes walk.picked s e

  pub may_hit : MayHit board.touches board.strips board.sizes s e
  may_hit = may-hit row board m.ready.laid s e m.early m.link

  abbrev longer : Picked → Hits → Walk
  longer q more = record { picked = q; hits = more; standing = walk.standing; left = walk.left }

  pub may_go_on : (q : Picked) (more : Hits) → q ≡ next → IsHit board.touches board.strips board.sizes walk.hits s e more →
      MaySeek row board a (longer q more) (n - 1)
  may_go_on q more is hit =
      let slot : s ≡ q.slot = rw is refl in
      let walks = walks_more row board m.ready.laid walk s e m.walks (omega (arith, m.few, m.some)) m.later m.early m.link m.free q more is hit in
      record { ready = m.ready; walks = rw slot at walks; few = rw is (omega (arith, m.few, m.some)) }

  -- all is in vain with it
  pub goes_nowhere : (more : Hits) (risk : Risk) (vain : Bool) → IsHit board.touches board.strips board.sizes walk.hits s e more →
      risk ≡ risks_of more walk.left → vain ≡ in_vain risk (n - 1) board.most a.need s → vain ≡ true → Sought row a next (n - 1) None
  goes_nowhere more risk vain hit is t so =
      let then = may_go_on next more refl hit in
      (none_in_vain row board.table board.weights board.most board.sizes next (Seeks row a) a.need m.ready.bounds m.ready.laid.play then.walks.holding s risk
      (omega arith)
      (all-counted row board.sizes.messages (cuts_of next) s walk.standing then.walks.stand m.ready.laid.play.messages walk.left m.walks.away more then.walks.covers
      risk is)
      (n - 1) (n - 1) (omega arith) (sym t ∙ so))

module _ (row : List ℕ) (board : Board) (a : Asked) (walk : Walk) (n s e : ℕ)
    (rest : Rest) (m : MaySeekIn row board a walk n s e rest) where
  pub may_try : MayTry board.weights board.most a.need rest s
  may_try = record {
    heavy = m.ready.laid.heavy;
    tops = m.ready.laid.tops;
    small = m.ready.small;
    fits = m.leaves.fits;
    early =
        omega (arith, m.early, m.ready.laid.play.short);
  }

  pub may_pick : (i : ℕ) → Looking row board a walk.picked n s e i rest → i < board.sizes.links →
      MayGoOn row board a walk n s i
  may_pick i g l =
      record {
        ready = m.ready;
        walks = m.walks;
        few = m.few;
        some = m.some;
        early = m.early;
        link = l;
        later = omega (arith, m.later, g.start);
        free = not_cut_yet row board a walk.picked n m.ready m.walks.holding m.some m.few s e i rest g l;
      }

  pub looks_first : (r : ℕ) →
      r ≡ seek (passes walk.picked.closed board.weights board.most a.need rest s) (board.sizes.links - e) e → Looking row board a walk.picked n s e r rest
  looks_first r found =
      looked row board a walk.picked n m.ready m.walks.holding m.some m.few s e e rest r m.leaves
      (omega arith) m.link (look_first row board a walk.picked n m.ready m.walks.holding m.some m.few s e) found

  module _ (i : ℕ) (g : Looking row board a walk.picked n s e i rest) (l : i < board.sizes.links) where
    pub looks_some : (f : Found) → Sought row a (with_pair board.sizes walk.picked s i) (n - 1) (Some f) → SoughtIn row a walk.picked n s e (Some f)
    looks_some = look_some row board a walk.picked n m.ready m.walks.holding m.some m.few s e i rest g l

    pub looks_on : (j : ℕ) → Sought row a (with_pair board.sizes walk.picked s i) (n - 1) None →
        j ≡ seek (passes walk.picked.closed board.weights board.most a.need rest s) (board.sizes.links - (i + 1)) (i + 1) →
        Looking row board a walk.picked n s e j rest
    looks_on j none found =
        looked row board a walk.picked n m.ready m.walks.holding m.some m.few s e (i + 1) rest j m.leaves
        (omega (arith, g.start)) (omega arith)
        (look_on row board a walk.picked n m.ready m.walks.holding m.some m.few s e i rest g l none) found

-- a list with no pair more may be played to the end
pub may_play_out : (row : List ℕ) (board : Board) (a : Asked) (walk : Walk) (n : ℕ) → n ≡ 0 → MaySeek row board a walk n →
    MaySeek row board a walk 0
may_play_out row board a walk n none m = rw none at m

module _ (row : List ℕ) (board : Board) (a : Asked) (walk : Walk) (n : ℕ)
    (m : MaySeek row board a walk n) (some : n ≡ 0 → ⊥) where
  positive : 0 < n
  positive = omega (arith, some)

  pub climbs_first : Climbing row board a walk.picked n walk.picked.slot walk.picked.link walk.standing walk.left
  climbs_first =
      climb_first row board a walk.picked n m.ready m.walks.holding positive m.few walk.standing walk.left m.walks.stand m.walks.away

  module _ (s e : ℕ) (qs : Standing) (still : ℕ) (g : Climbing row board a walk.picked n s e qs still) where
    pub may_weigh_rest : (risk : Risk) → s < board.sizes.timeout → risk ≡ risks_of walk.hits still → MayWeigh risk (n - 1) board.most s
    may_weigh_rest risk early is =
        may-weigh walk.hits still board.most s (n - 1) risk is (omega (arith, m.few)) m.ready.laid.tops (omega (arith, m.ready.laid.play.short))

    module _ (risk : Risk) (rest : Rest) (is : risk ≡ risks_of walk.hits still) (so : (rest ≡ rest_of risk (n - 1) board.most s) × Fits rest) where
      leaves : Leaves row (cuts_of walk.picked) board.most s (n - 1) rest
      leaves =
          counted row board.sizes.messages (cuts_of walk.picked) s qs g.stand m.ready.laid.play.messages still g.away walk.hits m.walks.covers board.most (n - 1)
          risk rest is so.0 so.1

      pub may_try_all : s < board.sizes.timeout → MayTry board.weights board.most a.need rest s
      may_try_all early =
          record {
            heavy = m.ready.laid.heavy;
            tops = m.ready.laid.tops;
            small = m.ready.small;
            fits = so.1;
            early =
                omega (arith, m.ready.laid.play.short);
          }

      pub climbs_stop : (f : ℕ) →
          f ≡ seek (passes walk.picked.closed board.weights board.most a.need rest s) (board.sizes.links - 0) 0 →
          board.sizes.links ≤ f → Sought row a walk.picked n None
      climbs_stop f =
          climb_stop row board a walk.picked n m.ready m.walks.holding positive m.few s e qs still g rest f
          leaves

      -- from the first link of the slot that may be tried on, if that is a later one
      module _ (f j : ℕ) (found : f ≡ seek (passes walk.picked.closed board.weights board.most a.need rest s) (board.sizes.links - 0) 0)
          (next : j ≡ e + (f - e)) where
        here : Climbing row board a walk.picked n s j qs still
        here =
            climb_skip row board a walk.picked n m.ready m.walks.holding positive m.few s e qs still g rest f j leaves
            found next

        pub may_look : s < board.sizes.timeout → MaySeekIn row board a (record { picked = walk.picked; hits = walk.hits; standing = qs; left = still }) n s j rest
        may_look early =
            record {
              ready = m.ready;
              walks = record { holding = m.walks.holding; covers = m.walks.covers; stand = g.stand; away = g.away };
              leaves = leaves;
              few = m.few;
              some = positive;
              early = early;
              link = here.link;
              later = here.later;
            }

        pub climbs_some : (f : Found) → SoughtIn row a walk.picked n s j (Some f) → Sought row a walk.picked n (Some f)
        climbs_some = climb_some row board a walk.picked n m.ready m.walks.holding positive m.few s j qs still here

        pub climbs_on : (rs : Standing) (then : ℕ) → SoughtIn row a walk.picked n s j None → s < board.sizes.timeout →
            StandAt row board.sizes.messages (cuts_of walk.picked) (qs.time.0 + 1) rs → AreAway rs.positions board.sizes.messages then →
            Climbing row board a walk.picked n (s + 1) 0 rs then
        climbs_on rs then none early stand are =
            climb_on row board a walk.picked n m.ready m.walks.holding positive m.few s j qs still here rs then none early (rw g.stand.time at stand) are

    pub climbs_may : s < board.sizes.timeout → MayAdvance row board.table board.sizes qs walk.picked
    climbs_may = may_advance row board.table board.sizes qs walk.picked s m.ready.laid.play m.walks.holding g.stand g.from

    pub climbs_over : board.sizes.timeout ≤ s → Sought row a walk.picked n None
    climbs_over = climb_over row board a walk.picked n m.ready m.walks.holding positive m.few s e qs still g
