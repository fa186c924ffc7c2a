-- `board::Walk::start` meets its contract.
use Rattle.board.proofs.Walking.{starts}
use Rattle.board.proofs.Walk.start.Goals as goal

pub start_all-standing-requires : goal.start_all-standing-requires
start_all-standing-requires c = c.requires.start

pub away-left-requires : goal.away-left-requires
away-left-requires c = c.requires.many

pub returns : goal.returns
returns c = (
  starts _ _ c.requires _ _ _ _ c.no_pair-picked.ensures c.no_hits-hits.ensures c.start_all-standing.ensures c.away-left.ensures,
  c.no_pair-picked.ensures,
)
