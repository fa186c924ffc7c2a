use Rattle.std.proofs.Common.{◌<◌, ◌≡◌, arith}
use Rattle.scope.specs.Plan.{message_count}
use Rattle.table.proofs.Laws.{below_next, below_all}
use Rattle.table.proofs.fill_table.Goals as goal

pub loop-m-preserved : goal.loop-m-preserved
loop-m-preserved c =
    let h : c.loop-m.m < message_count c.args.row.now = omega (arith, c.messages-n.ensures.is, c.loop-m-test.true) in
    below_next _ _ _ _ _ _ h c.loop-m.invariant c.enter-at.ensures

pub returns : goal.returns
returns c =
    let e : c.loop-m.m ≡ message_count c.args.row.now =
    omega (arith, c.messages-n.ensures.is, c.loop-m-test.false, c.loop-m.auto.m-end)
    in
    below_all _ _ _ _ e c.loop-m.invariant
