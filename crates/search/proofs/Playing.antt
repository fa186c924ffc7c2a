-- A list played to the end, as long as enough messages can be lost.
use Rattle.std.proofs.Common.{◌≡◌, sym, ◌∙◌, ap, ℕ, ◌+◌, ◌≤◌, ◌<◌, Bool, true, false, None, Some, List, ltb, arith}
use borrow.Author.Tests.{ltb-true, ltb-false}
use Rattle.scope.specs.Plan.{plan_of}
use Rattle.scope.specs.Cuts.{is_cut}
use Rattle.scope.specs.Cycle.{order_of, table_of, start, positions, arrived, arrivals}
use Rattle.step.specs.declared.Standing.{Standing}
use Rattle.step.specs.Stand.{positions_of}
use Rattle.order.proofs.Steps.{nothing_more, itself}
use Rattle.picks.specs.Picks.{cuts_of, StandAt, MayAdvance}
use Rattle.picks.proofs.Playing.{may_advance}
use Rattle.board.specs.declared.Board.{Board}
use Rattle.search.specs.declared.Asked.{Asked}
use Rattle.picks.specs.declared.Picked.{Picked}
use Rattle.board.specs.declared.Walk.{Walk}
use Rattle.risks.specs.declared.Risk.{Risk}
use Rattle.search.specs.Hunt.{Seeks, MaySeek, Sought}
use Rattle.risks.specs.Weighed.{AreAway}
use Rattle.risks.specs.Risks.{risks_of}
use Rattle.risks.proofs.Risks.{lost-counted}
use Rattle.search.proofs.Levels.{}

-- the list picked stands at time i, and those of a set are still away
pub record Ending (row : List ℕ) (board : Board) (p : Picked) (i : ℕ) (qs : Standing) (still : ℕ) : Type 0 where
  pub stand : StandAt row board.sizes.messages (cuts_of p) i qs
  pub away : AreAway qs.positions board.sizes.messages still
  pub from : p.slot ≤ i
  pub early : i ≤ board.sizes.timeout

module _ (row : List ℕ) (board : Board) (a : Asked) (walk : Walk) (m : MaySeek row board a walk 0) where
  abbrev p : Picked
  p = walk.picked

  pub ends-first : Ending row board p p.slot walk.standing walk.left
  ends-first = record { stand = m.walks.stand; away = m.walks.away; from = omega arith; early = m.walks.holding.slot }

  -- the answer at the end
  pub settled_none : (n : ℕ) (b : Bool) → n ≡ arrivals (plan_of row) (cuts_of p) → b ≡ ltb n a.least → b ≡ false → Sought row a p 0 None
  settled_none n b e t so =
      nothing_more (plan_of row) (Seeks row a) (cuts_of p) (λ it. omega (arith, it, ltb-false n a.least (sym t ∙ so)))

  pub settled_some : (n : ℕ) (b : Bool) → n ≡ arrivals (plan_of row) (cuts_of p) → b ≡ ltb n a.least → b ≡ true →
      Sought row a p 0 (Some (record { pairs = p.count; arrivals = n; numbers = p.numbers }))
  settled_some n b e t so =
      record {
        told = record { long = m.walks.holding.long; left = e; past = m.walks.holding.past };
        count = omega arith;
        first = itself (plan_of row) (Seeks row a) (cuts_of p) m.walks.holding.chosen.good (omega (arith, ltb-true n a.least (sym t ∙ so)));
      }

  module _ (i : ℕ) (qs : Standing) (still : ℕ) (g : Ending row board p i qs still) where
    pub ends-may : i < board.sizes.timeout → MayAdvance row board.table board.sizes qs p
    ends-may = may_advance row board.table board.sizes qs p i m.ready.laid.play m.walks.holding g.stand g.from

    pub ends_more : (rs : Standing) (then : ℕ) → i < board.sizes.timeout →
        StandAt row board.sizes.messages (cuts_of p) (qs.time.0 + 1) rs →
        AreAway rs.positions board.sizes.messages then → Ending row board p (i + 1) rs then
    ends_more rs then l s are =
        record { stand = rw g.stand.time at s; away = are; from = omega (arith, g.from); early = omega arith }

    -- too few can be lost
    pub ends_light : (risk : Risk) (b : Bool) → risk ≡ risks_of walk.hits still → b ≡ ltb risk.lost a.need → b ≡ true → Sought row a p 0 None
    ends_light risk b count t so =
        let play = m.ready.laid.play in
        let few = lost-counted row board.sizes.messages (cuts_of p) i qs g.stand play.messages still g.away walk.hits m.walks.covers in
        let light = ltb-true risk.lost a.need (sym t ∙ so) in
        nothing_more (plan_of row) (Seeks row a) (cuts_of p)
        (λ it.
        omega (
          arith,
          m.ready.bounds.whole (cuts_of p) p.count i (omega (arith, g.early, play.timeout)) m.walks.holding.chosen.long
              m.walks.holding.chosen.good it,
          few,
          ap (λ (x : Risk). x.lost) count,
          light,
        ))

    -- the end
    pub ends_over : (n : ℕ) → board.sizes.timeout ≤ i → n ≡ arrived (positions_of row board.sizes.messages qs.positions) →
        n ≡ arrivals (plan_of row) (cuts_of p)
    unfolding arrivals
    ends_over n l e =
        let t : i ≡ (plan_of row).timeout = omega (arith, g.early, m.ready.laid.play.timeout) in
        e ∙ ap arrived g.stand.next.is ∙
        ap (λ (k : ℕ). arrived
        (positions (order_of (plan_of row)) (is_cut (plan_of row) (cuts_of p)) (table_of (plan_of row)) 0 k (start (plan_of row)))) t
