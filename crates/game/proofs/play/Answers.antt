-- `game::play` meets its contract.
use Rattle.game.proofs.Whole.{begins, ends-least}
use Rattle.game.proofs.play.Goals as goal

pub start-walk-requires : goal.start-walk-requires
start-walk-requires c = c.requires.lent.laid

pub breaker-requires : goal.breaker-requires
breaker-requires c = begins _ _ _ _ c.requires c.start-walk.result c.start-walk.ensures.1 c.start-walk.ensures.0

pub returns : goal.returns
returns c = ends-least _ _ _ _ c.requires c.start-walk.result c.start-walk.ensures.1 _ c.breaker.ensures
