-- What may be asked about the board of a row.
use Rattle.std.specs.Prelude.{ℕ, ◌+◌, ◌≤◌, ◌<◌, List, []}
use Rattle.scope.specs.Limits.{most_cuts}
use Rattle.scope.specs.Verdict.{Fails}
use Rattle.scope.specs.Plan.{plan_of}
use Rattle.order.specs.Search.{NoneOf}
use Rattle.board.specs.declared.Board.{Board}
use Rattle.board.specs.Lent.{Lent}

-- lists of at most k pairs may be asked for, where those of fewer than `low` pairs leave l arrivals
pub record MayAskOn (row : List ℕ) (board : Board) (l low k : ℕ) : Type 0 where
  pub lent : Lent row board
  pub least : l ≤ board.sizes.messages
  pub few : k ≤ most_cuts
  pub within : low ≤ k + 1
  pub before : (i : ℕ) → i < low → NoneOf (plan_of row) (Fails (plan_of row) l) [] i
