-- `figures::fill` meets its contract: each game begins with the figure for one pair less.
use Rattle.std.proofs.Common.{◌≡◌, ◌+◌, arith}
use Rattle.figures.proofs.Rising.{rises_first, may-play, rises_on}
use Rattle.figures.proofs.fill.Goals as goal

pub loop-j-init : goal.loop-j-init
loop-j-init c = rises_first _ _ _ c.requires _ c.fill.ensures

pub play-least-requires : goal.play-least-requires
play-least-requires c =
    may-play _ _ _ c.requires _ c.fill.ensures _ _ _ c.loop-j.invariant (omega (arith, c.loop-j-test.true))

pub overflow_cast-out : goal.overflow_cast-out
overflow_cast-out c = omega (arith, c.play-least.ensures.1, c.loop-j.invariant.low, c.fill.ensures.laid.many)

pub loop-j-preserved : goal.loop-j-preserved
loop-j-preserved c =
    rises_on _ _ _ c.requires _ c.fill.ensures _ _ _ c.loop-j.invariant (omega (arith, c.loop-j-test.true)) _ c.play-least.ensures

pub returns : goal.returns
returns c = let e : c.loop-j.j ≡ c.args.k + 1 = omega arith in rw e at c.loop-j.invariant.stands
