-- What is right about a walk over lists on a board.
use Rattle.std.specs.Prelude.{ℕ, List}
use Rattle.picks.specs.Picks.{cuts_of, Holding, StandAt}
use Rattle.risks.specs.Weighed.{AreAway, Covers}
use Rattle.board.specs.declared.Board.{Board}
use Rattle.board.specs.declared.Walk.{Walk}

-- the pairs picked are a list, whom it hits is in the sets, and the messages stand where they do at time s under it
pub record Walks (row : List ℕ) (board : Board) (s : ℕ) (walk : Walk) : Type 0 where
  pub holding : Holding row board.sizes walk.picked
  pub covers : Covers row (cuts_of walk.picked) walk.hits
  pub stand : StandAt row board.sizes.messages (cuts_of walk.picked) s walk.standing
  pub away : AreAway walk.standing.positions board.sizes.messages walk.left
