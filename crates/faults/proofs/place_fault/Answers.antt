-- `faults::place_fault` meets its contract: there is no second path, or it is a part of the row. Assumes nothing.
use Rattle.std.proofs.Common.{arith}
use Rattle.scope.specs.Plan.{plan_of}
use Rattle.paths.proofs.Earliest.{earliest-none}
use Rattle.faults.proofs.Laws as law
use Rattle.faults.proofs.place_fault.Goals as goal

pub returns-then-here-eq0 : goal.returns-then-here-eq0
returns-then-here-eq0 c =
    let none = law.second_none c.args.row.now c.args.at _ c.place_at-here.ensures c.if-here-eq0.true in
    rw none (earliest-none _ 5 0)

pub slice_bounds-link_fault-count : goal.slice_bounds-link_fault-count
slice_bounds-link_fault-count c =
    omega (arith, law.second_order _ _ _ c.place_at-here.ensures c.if-here-eq0.false c.requires.2)

pub slice_bounds-link_fault-start : goal.slice_bounds-link_fault-start
slice_bounds-link_fault-start c =
    let p = c.place_at-here.ensures in
    omega (arith, law.second_order _ _ _ p c.if-here-eq0.false c.requires.2, law.second-within _ _ _ p c.if-here-eq0.false c.requires.2)

pub slice_bounds-link_fault-end : goal.slice_bounds-link_fault-end
slice_bounds-link_fault-end c = omega (arith, law.second-within _ _ _ c.place_at-here.ensures c.if-here-eq0.false c.requires.2)

pub link_fault-requires : goal.link_fault-requires
link_fault-requires c =
    let p = c.place_at-here in
    (c.requires.0, p.ensures.link_small, law.second-some _ _ _ p.ensures c.if-here-eq0.false c.requires.2)

pub returns : goal.returns
returns c =
    let p = c.place_at-here in
    law.place_fault_lem _ _ _ p.ensures c.if-here-eq0.false c.requires.2 (plan_of c.args.row.now) c.args.end
    c.link_fault.result
    c.link_fault.ensures
