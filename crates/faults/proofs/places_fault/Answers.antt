use Rattle.std.proofs.Common.{◌<◌, ◌≤◌, refl, arith, rules}
use Rattle.scope.specs.Plan.{plan_of, message_at, place_count}
use Rattle.rows.specs.Lies.{PlaceLies}
use Rattle.paths.proofs.Earliest.{by-order}
use Rattle.faults.proofs.Laws as law
use Rattle.faults.proofs.Seconds as rule
use Rattle.faults.proofs.places_fault.Goals as goal

pub loop-k-init : goal.loop-k-init
loop-k-init c =
    let a = c.args in
    (law.passing_first a.row.now a.i _, rule.placing_first (plan_of a.row.now) a.end (message_at a.row.now a.i))

pub place_fault-fault-requires : goal.place_fault-fault-requires
place_fault-fault-requires c =
    let row = c.args.row.now in
    let l = c.loop-k in
    let n = c.place_count-k-end.ensures in
    let h : l.k < place_count row c.args.i = omega (arith, n.is, c.loop-k-test.true) in
    let p : PlaceLies row l.at = rw l.invariant.0.index (c.requires.2.place l.k h) in
    (c.requires.0, omega (arith, l.invariant.0.small, l.invariant.0.most, n.small), p.lies)

pub loop-k-preserved : goal.loop-k-preserved
loop-k-preserved c =
    let a = c.args in
    let row = a.row.now in
    let plan = plan_of row in
    let l = c.loop-k in
    let here = c.place_at-here in
    let fault = c.place_fault-fault in
    let more : l.k < place_count row a.i = omega (arith, c.place_count-k-end.ensures.is, c.loop-k-test.true) in
    let told = rule.told_at l.k fault.result c.map-told.result _ (λ x r p. search rules) c.map-told.ensures.cases in (
      law.passing_next row a.i _ l.at l.k here.result l.invariant.0 more here.ensures,
      rule.placing_next plan a.end (message_at row a.i) l.k l.found c.map-told.result c.earlier-found.result fault.result l.invariant.1
          (law.place-of row a.i _ l.at l.k refl l.invariant.0 more plan a.end fault.result fault.ensures)
          told.rule told.at told.step (by-order l.found c.map-told.result _ c.earlier-found.ensures),
    )

pub returns : goal.returns
returns c =
    let a = c.args in
    let l = c.loop-k in
    let done : place_count a.row.now a.i ≤ l.k = omega (arith, c.loop-k-test.false, c.place_count-k-end.ensures.is) in
    rule.placing_done (plan_of a.row.now) a.end (message_at a.row.now a.i) l.k l.found l.invariant.1
    (law.all_passed a.row.now a.i _ l.at l.k refl l.invariant.0 done)
