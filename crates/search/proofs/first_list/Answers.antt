-- `search::first_list` meets its contract: lists of fewer pairs leave enough.
use Rattle.std.proofs.Common.{arith}
use Rattle.search.proofs.Hunting.{may-seek, hunt_some, hunt_on, hunt_over}
use Rattle.search.proofs.first_list.Goals as goal

pub start-walk-requires : goal.start-walk-requires
start-walk-requires c = c.requires.ready.laid

pub loop-n-init : goal.loop-n-init
loop-n-init c = c.requires.before

pub level-requires : goal.level-requires
level-requires c =
    may-seek _ _ _ _ _ c.requires _ _ (omega (arith, c.loop-n-test.true)) c.start-walk.ensures.0 c.start-walk.ensures.1

pub returns-in-Some : goal.returns-in-Some
returns-in-Some c =
    hunt_some _ _ _ _ _ c.requires _ c.loop-n.invariant _ c.start-walk.ensures.1 _ (omega (arith, c.loop-n-test.true)) c.in-Some.ensures

pub loop-n-preserved : goal.loop-n-preserved
loop-n-preserved c = hunt_on _ _ _ _ _ c.requires _ c.loop-n.invariant _ c.start-walk.ensures.1 c.in_default.ensures

pub returns : goal.returns
returns c = hunt_over _ _ _ _ _ c.requires _ c.loop-n.invariant (omega (arith, c.loop-n-test.false))
