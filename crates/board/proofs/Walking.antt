-- A walk over lists on a board: where it starts, and what a pair more makes of it.
use Rattle.std.proofs.Common.{◌≡◌, ℕ, ◌≤◌, ◌<◌, false, List, arith}
use Rattle.scope.specs.Limits.{most_cuts}
use Rattle.cuts.specs.Down.{is_down}
use Rattle.order.specs.Search.{code}
use Rattle.step.specs.declared.Standing.{Standing}
use Rattle.cycle.specs.Play.{Begins}
use Rattle.picks.specs.declared.Picked.{Picked}
use Rattle.picks.specs.Picks.{with_pair, no_pair}
use Rattle.picks.proofs.Picking.{is_name, cuts-more, holding-none, holding-more, stand-more}
use Rattle.risks.specs.declared.Hits.{Hits}
use Rattle.risks.specs.Weighed.{no_hits, AreAway}
use Rattle.risks.specs.Risks.{MayHit, IsHit}
use Rattle.risks.proofs.Risks.{covers-none, covers_more}
use Rattle.board.specs.declared.Board.{Board}
use Rattle.board.specs.declared.Walk.{Walk}
use Rattle.board.specs.Lent.{Laid}
use Rattle.board.specs.Walks.{Walks}
use Rattle.board.proofs.Lending.{stands}

module _ (row : List ℕ) (board : Board) (laid : Laid row board) where
  pub starts : (p : Picked) (hits : Hits) (ps : Standing) (left : ℕ) → p ≡ no_pair board.sizes → hits ≡ no_hits →
      Begins row board.sizes.messages ps → AreAway ps.positions board.sizes.messages left →
      Walks row board 0 (record { picked = p; hits = hits; standing = ps; left = left })
  starts p hits ps left is none begun are =
      record {
        holding = rw is (holding-none row board.table board.sizes laid.play);
        covers = rw (is, none) (covers-none row);
        stand = rw is (stands row board laid ps begun);
        away = are;
      }

  -- the pair of slot s and link e may be asked about
  pub may-hit : (s e : ℕ) → s < board.sizes.timeout → e < board.sizes.links → MayHit board.touches board.strips board.sizes s e
  may-hit s e early link =
      record {
        touches = laid.hit.touch;
        strips = laid.hit.strip;
        slot = omega (arith, early, laid.play.short);
        link = omega (arith, link, laid.play.few);
        others = laid.play.others.bytes;
      }

  -- and picked
  module _ (walk : Walk) (s e : ℕ) (w : Walks row board s walk) (room : walk.picked.count < most_cuts)
      (later : code walk.picked.slot walk.picked.link ≤ code s e) (early : s < board.sizes.timeout) (link : e < board.sizes.links)
      (free : is_down walk.picked.closed e ≡ false) where
    pub walks_more : (q : Picked) (more : Hits) → q ≡ with_pair board.sizes walk.picked s e →
        IsHit board.touches board.strips board.sizes walk.hits s e more →
        Walks row board s (record { picked = q; hits = more; standing = walk.standing; left = walk.left })
    walks_more q more is hit =
        record {
          holding = rw is (holding-more row board.table board.sizes walk.picked laid.play w.holding s e room later early link free);
          covers =
              rw (is, cuts-more row board.table board.sizes walk.picked laid.play w.holding s e room)
              (covers_more row board.touches board.strips board.sizes _ walk.picked.count s e walk.hits more laid.hit laid.play.others
              w.holding.chosen.long (omega (arith, early, laid.play.timeout)) (omega (arith, link, laid.play.links))
              (is_name row board.sizes walk.picked w.holding e link free) w.covers hit);
          stand =
              rw is
              (stand-more row board.table board.sizes walk.picked laid.play w.holding s e room board.sizes.messages walk.standing w.stand);
          away = w.away;
        }
