-- `faults::link_fault` meets its contract: the walk, the end and the start, each with its rules. Assumes nothing.
use Rattle.std.proofs.Common.{arith}
use Rattle.scope.specs.Plan.{plan_of}
use Rattle.paths.proofs.Earliest.{by-order}
use Rattle.paths.proofs.Laws.{from-small}
use Rattle.faults.specs.Broken.{second_of}
use Rattle.faults.proofs.Seconds as rule
use Rattle.faults.proofs.link_fault.Goals as goal

pub path_fault-walked-requires : goal.path_fault-walked-requires
path_fault-walked-requires c =
    let a = c.args in
    (c.requires.0, omega (arith, c.ends_at-stands.ensures.from, from-small a.row.now c.requires.0 a.link))

pub returns : goal.returns
returns c =
    let a = c.args in
    let plan = plan_of a.row.now in
    let p = second_of a.link a.second.now in
    rule.second_fault_lem plan a.end p c.requires.2 _ c.ends_at-stands.ensures.from _ _ _ _ _ c.path_fault-walked.ensures
    (rule.told_astray plan a.end p c.requires.2 _ c.path_end.ensures _ c.fault_in-end_fault.ensures _ c.then_some-astray.ensures)
    (rule.told_replaced plan a.end p c.requires.2 _ c.number.ensures.is _ c.fault_in-start_fault.ensures _ c.then_some-replaced.ensures)
    (by-order c.path_fault-walked.result c.then_some-astray.result _ c.earlier.ensures)
    (by-order c.earlier.result c.then_some-replaced.result _ c.earlier-2.ensures)
