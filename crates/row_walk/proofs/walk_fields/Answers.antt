use Rattle.std.proofs.Common.{◌≡◌, ◌+◌, ◌^◌, ◌≤◌, ◌<◌, length, get_or, sym, ap, ◌∙◌, arith}
use Rattle.scope.specs.Outcome.{gives, refuse}
use Rattle.row_walk.proofs.Parts.{fields_first, fields_large, fields_next, fields_short, fields_done}
use Rattle.row_walk.proofs.walk_fields.Goals as goal

pub loop-k-init : goal.loop-k-init
loop-k-init c = fields_first _ _ _ _

pub overflow_cast-row : goal.overflow_cast-row
overflow_cast-row c = omega (arith, c.type_inv.row c.loop-k.k)

pub returns-then-most-row : goal.returns-then-most-row
returns-then-most-row c =
    let a = c.args in
    let at = c.loop-k in
    let end = c.stop-end.ensures in
    let more = c.loop-k-test.true in
    let large : 2 ^ a.w ≤ get_or a.row.now at.k 0 = rw (← c.power-most.ensures.is)
    c.if-most-row.true in
    c.refuse.ensures ∙ fields_large a.row.now a.w a.n a.i at.k at.invariant (omega (arith, more, end.inside))
    (omega (arith, more, end.most)) large

pub loop-k-preserved : goal.loop-k-preserved
loop-k-preserved c =
    let a = c.args in
    let at = c.loop-k in
    let end = c.stop-end.ensures in
    let more = c.loop-k-test.true in
    let power = c.power-most.ensures.is in
    let small : get_or a.row.now at.k 0 < 2 ^ a.w = rw (← power) c.if-most-row.false in
    let inside : at.k < length a.row.now = omega (arith, more, end.inside) in
    let few : at.k < a.i + a.n = omega (arith, more, end.most) in
    fields_next a.row.now a.w a.n a.i at.k at.invariant inside few small

pub returns-then-end-i : goal.returns-then-end-i
returns-then-end-i c =
    let a = c.args in
    let at = c.loop-k in
    let end = c.stop-end.ensures in
    let few = c.if-end-i.true in
    let same : at.k ≡ c.stop-end.result = omega (arith, c.loop-k-test.false, at.auto.k-end, end.from) in
    let over : at.k < a.i + a.n = omega (arith, few, end.from, same) in
    c.refuse-then-end-i.ensures ∙ ap (refuse 2) (sym same) ∙ fields_short a.row.now a.w a.n a.i at.k at.invariant
    (omega (arith, same, end.short (omega (arith, few, end.from)))) over

pub returns-else-end-i : goal.returns-else-end-i
returns-else-end-i c =
    let a = c.args in
    let at = c.loop-k in
    let end = c.stop-end.ensures in
    let same : at.k ≡ c.stop-end.result = omega (arith, c.loop-k-test.false, at.auto.k-end, end.from) in
    ap gives (sym same) ∙ fields_done a.row.now a.w a.n a.i at.k at.invariant (omega (arith, c.if-end-i.false, same, end.from, end.most))
