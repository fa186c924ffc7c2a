use Rattle.std.proofs.Common.{arith, sym, ◌∙◌}
use Rattle.scope.specs.Plan.{plan_of}
use Rattle.rows.proofs.Parts.{link-count}
use Rattle.paths.proofs.Walk as law
use Rattle.paths.proofs.Walk.{OnLink}
use Rattle.paths.proofs.Earliest.{by-order, none-later}
use Rattle.paths.proofs.path_fault.Goals as goal
use Rattle.paths.proofs.path_fault.Goals.{then-is_some, else-is_some}

pub loop-k-init : goal.loop-k-init
loop-k-init c = law.walking_first _ _ _ _ c.with-met.ensures

pub returns-then-links-e : goal.returns-then-links-e
returns-then-links-e c =
    let row = c.args.row.now in
    rw c.fault_in.ensures
    (law.walking_no_link _ _ _ _ _ _ _ c.loop-k.invariant _ c.loop-k-test.true
    c.from-e.ensures
    (omega (arith, c.if-links-e.true, c.links-links.ensures.is, link-count row)))

pub loop-k-preserved : goal.loop-k-preserved
loop-k-preserved c =
    let row = c.args.row.now in
    let w = c.loop-k.invariant in
    let ends = c.ends_of-ends.ensures in
    let on : OnLink (plan_of row) _ c.loop-k.k _ =
    record {
      here = c.loop-k-test.true;
      is = c.from-e.ensures;
      there = omega (
        arith,
        c.if-links-e.false,
        c.links-links.ensures.is,
        link-count row,
      );
    } in
    let at = c.link_fault-here.ensures.1 in
    let breaks = law.link-breaks _ _ _ _ _ _ _ w _ on _ ends _ _ c.holds.ensures c.link_fault-here.ensures.0 in
    let met = c.with-met-in-loop-k.ensures in
    elim c.if-is_some.branch [
      | then-is_some t ↦
          let kept = by-order c.loop-k.found c.link_fault-here.result _ t.earlier-found.ensures in
          rw t.found-is (law.walking_next _ _ _ _ _ _ _ w _ on _ ends _ _ at breaks kept _ met)
      | else-is_some t ↦ rw t.found-is
          (law.walking_next _ _ _ _ _ _ _ w _ on _ ends _ _ at breaks (none-later _ _ (sym c.is_some.ensures ∙ t.if-is_some.false)) _ met)
    ]
