-- The whole game, from the start of the cycle on.
use Rattle.std.proofs.Common.{◌≡◌, refl, subst, ℕ, ◌+◌, ◌≤◌, List, arith}
use Rattle.scope.specs.Plan.{plan_of}
use Rattle.scope.specs.Game.{IsLeast}
use Rattle.order.specs.Search.{code}
use Rattle.picks.specs.Picks.{no_pair}
use Rattle.picks.proofs.Picking.{holding-none}
use Rattle.board.specs.declared.Board.{Board}
use Rattle.board.specs.declared.Walk.{Walk}
use Rattle.board.specs.Walks.{Walks}
use Rattle.game.specs.Turns.{Reached, MayBreak, Turned, MayPlay}
use Rattle.game.proofs.Leaving.{is-least}

module _ (row : List ℕ) (board : Board) (k least : ℕ) (m : MayPlay row board k least) (walk : Walk) (is : walk.picked ≡ no_pair board.sizes) where
  pub begins : Walks row board 0 walk →
      MayBreak row board walk.hits walk.standing walk.left walk.picked k walk.picked.slot walk.picked.link least
  begins walks =
      let slot : 0 ≡ walk.picked.slot = rw is refl in
      record {
        turn =
            record {
              lent = m.lent;
              holding = walks.holding;
              covers = walks.covers;
              stand = rw slot at walks.stand;
              few = rw is (omega (arith, m.few));
              from = omega arith;
              early = rw is m.some;
              low = m.low;
            };
        away = walks.away;
        link = rw is (omega arith);
        later = omega arith;
      }

  pub ends-least : (r : ℕ) → Turned row walk.picked k (code walk.picked.slot walk.picked.link) least r → IsLeast (plan_of row) k r × (r ≤ least)
  ends-least r turned =
      let t : Turned row (no_pair board.sizes) k (code 0 0) least r = rw is at turned in
      let none : 0 + k ≡ k = omega arith in (
        is-least (plan_of row) (omega (arith, m.lent.laid.play.links, m.lent.laid.play.few)) k r least
            (holding-none row board.table board.sizes m.lent.laid.play).chosen t.leave
            m.reached t.low (λ h. subst (λ (n : ℕ). Reached (plan_of row) n r) none (t.reached h)),
        t.low,
      )
