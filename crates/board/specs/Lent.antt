-- What is right about the board of a good row.
use Rattle.std.specs.Prelude.{ℕ, ◌+◌, ◌-◌, ◌≤◌, ◌≡◌, List, length}
use Rattle.scope.specs.Limits.{most_messages, weights_size, tops_size}
use Rattle.scope.specs.Verdict.{Fails}
use Rattle.scope.specs.Plan.{plan_of}
use Rattle.cycle.specs.Play.{MayStart}
use Rattle.bound.specs.Bounds.{Bounds}
use Rattle.picks.specs.Picks.{Playable}
use Rattle.risks.specs.Weighed.{Hittable}
use Rattle.board.specs.declared.Board.{Board}

-- the table, the sets and the sizes are right, and the messages may be put at their sources, which `Walk::start` does
pub record Laid (row : List ℕ) (b : Board) : Type 0 where
  pub play : Playable row b.table b.sizes
  pub many : b.sizes.messages ≤ most_messages
  pub hit : Hittable row b.touches b.strips
  pub heavy : length b.weights ≡ weights_size
  pub tops : length b.most ≡ tops_size
  pub start : MayStart row b.sizes.messages

-- and the weights are, whatever number of arrivals is asked for
pub record Lent (row : List ℕ) (b : Board) : Type 0 where
  pub laid : Laid row b
  pub bounds : (l need : ℕ) → need ≡ b.sizes.messages + 1 - l → Bounds (plan_of row) (Fails (plan_of row) l) need b.weights b.most
