use Rattle.std.proofs.Common.{◌<◌, ◌-◌, arith}
use Rattle.scope.specs.Plan.{link_count}
use Rattle.cables.proofs.Ends.{ends-are, putting_first, putting_next}
use Rattle.cables.proofs.put_ends.Goals as goal

pub loop-e-init : goal.loop-e-init
loop-e-init c = rw c.requires.clear (putting_first c.args.row.now c.requires.lies _ c.links-e.ensures.is)

pub bounds-table-from : goal.bounds-table-from
bounds-table-from c =
    let h : c.loop-e.e - 1 < link_count c.args.row.now = omega (arith, c.links-e.ensures.is) in
    let are = ends-are _ c.requires.lies _ _ _ h c.number-from.ensures c.number-to.ensures in
    omega (arith, are.1, are.2)

pub loop-e-preserved : goal.loop-e-preserved
loop-e-preserved c =
    putting_next _ c.requires.lies _ _ _ _ c.loop-e-test.true (omega (arith, c.links-e.ensures.is)) c.number-from.ensures c.number-to.ensures
    c.loop-e.invariant
