use Rattle.std.proofs.Common.{◌≡◌, arith, rules}
use Rattle.scope.specs.Plan.{plan_of, message_count}
use Rattle.rows.proofs.Parts.{message-count}
use Rattle.paths.proofs.Earliest.{by-order}
use Rattle.rules.proofs.Laws as law
use Rattle.rules.proofs.messages_fault.Goals as goal

pub loop-m-init : goal.loop-m-init
loop-m-init c = law.messages-first (plan_of c.args.row.now) c.args.paths

pub message_fault-fault-requires : goal.message_fault-fault-requires
message_fault-fault-requires c =
    let at = law.here c.args.row.now c.args.starts.now c.requires.0 c.requires.1 c.loop-m.m
    (omega (arith, c.loop-m-test.true, c.messages-m-end.ensures.is, message-count c.args.row.now)) in
    (c.requires.0, at.near, at.lies)

pub loop-m-preserved : goal.loop-m-preserved
loop-m-preserved c =
    let row = c.args.row.now in
    let l = c.loop-m in
    let at = law.here row c.args.starts.now c.requires.0 c.requires.1 l.m
    (omega (arith, c.loop-m-test.true, c.messages-m-end.ensures.is, message-count row)) in
    let fault = c.message_fault-fault in
    let told = law.told_of l.m fault.result c.map-told.result _ (λ x r p. search rules) c.map-told.ensures.cases in
    law.messages-next (plan_of row) c.args.paths l.m l.found c.map-told.result c.earlier-found.result fault.result l.invariant
    (rw at.is fault.ensures) told (by-order l.found c.map-told.result _ c.earlier-found.ensures)

pub returns : goal.returns
returns c =
    let e : c.loop-m.m ≡ message_count c.args.row.now =
    omega (arith, c.loop-m-test.false, c.loop-m.auto.m-end, c.messages-m-end.ensures.is) in
    rw (← e) c.loop-m.invariant
