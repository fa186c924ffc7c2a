use Rattle.std.proofs.Common.{◌<◌, ◌≤◌, sym, arith}
use Rattle.scope.specs.Plan.{link_count}
use Rattle.scope.proofs.Seek.{some-none}
use Rattle.faults.proofs.Repeats.{repeating_first, repeating_found, repeating_next}
use Rattle.faults.proofs.lowest_repeat.Goals as goal

pub loop-e-init : goal.loop-e-init
loop-e-init c = repeating_first c.args.row.now _

pub returns-then-holds : goal.returns-then-holds
returns-then-holds c =
    let row = c.args.row.now in
    let l = c.loop-e in
    let more : l.e < link_count row = omega (arith, c.loop-e-test.true, c.links-e-end.ensures.is) in
    (more, repeating_found row _ l.e l.met l.invariant more _ c.ends_of-ends.ensures _ c.holds.ensures c.if-holds.true)

pub loop-e-preserved : goal.loop-e-preserved
loop-e-preserved c =
    let row = c.args.row.now in
    let l = c.loop-e in
    let more : l.e < link_count row = omega (arith, c.loop-e-test.true, c.links-e-end.ensures.is) in
    repeating_next row _ l.e l.met l.invariant more _ c.ends_of-ends.ensures _ c.holds.ensures c.if-holds.false _ c.with.ensures

pub returns : goal.returns
returns c =
    let l = c.loop-e in
    let done : link_count c.args.row.now ≤ l.e = omega (arith, c.loop-e-test.false, c.links-e-end.ensures.is) in
    sym (some-none _ _ _ l.invariant.seeking done)
