use Prim.Native.Nat.{◌^◌, ◌<◌}
use mathlib.Core.Path.{◌∙◌}
use native.Mathlib.Omega.{arith}
use lib.ListN.{length, get_or}
use Rattle.scope.specs.Fields.{width}
use Rattle.grammar.proofs.Most.{width-most}
use Rattle.forms.proofs.Packing.{edition-inside, pack_first, head, next-inside, packs_on, packs_done, counts-room, row_walks}
use Rattle.forms.proofs.Packing.{row_bits_most}
use Rattle.forms.proofs.pack_fields.Goals as goal

pub put-requires : goal.put-requires
put-requires c =
    let inside = edition-inside c.args.row.now c.args.file.now
    c.requires in
    (record { narrow = omega arith; near = omega arith; inside = omega (arith, inside) }, omega arith)

pub loop-i-init : goal.loop-i-init
loop-i-init c =
    pack_first c.args.row.now
    c.args.file.now _ _
    c.requires c.put.auto.bytes
    c.put.ensures c.opening-s.ensures

pub put-requires-in-loop-i : goal.put-requires-in-loop-i
put-requires-in-loop-i c =
    let row = c.args.row.now in
    let at = c.loop-i in
    let on = at.invariant in
    let lt = c.loop-i-test.true in
    let most = row_bits_most row
    (row_walks row (length row)
    c.requires.complete) in
    let room = counts-room row at.s at.p at.i on.counts lt in
    let is = c.width-w.ensures in
    let small : get_or row at.i 0 < 2 ^ width at.s = (head row _ at.file at.s at.p at.i on lt).1 in
    let inside = next-inside row _ at.file at.s at.p at.i on lt in (
      record {
        narrow = omega (arith, is, width-most at.s on.narrow);
        near = omega (arith, room, most);
        inside = omega (arith, is, inside);
      },
      rw (c.number-v.ensures.is, is) small,
    )

pub overflow_add-p : goal.overflow_add-p
overflow_add-p c =
    let row = c.args.row.now in
    let at = c.loop-i in
    let on = at.invariant in
    let lt = c.loop-i-test.true in
    let most = row_bits_most row
    (row_walks row (length row)
    c.requires.complete) in
    let room = counts-room row at.s at.p at.i on.counts lt in
    omega (arith, c.width-w.ensures, room, most)

pub loop-i-preserved : goal.loop-i-preserved
loop-i-preserved c =
    let row = c.args.row.now in
    let at = c.loop-i in
    let on = at.invariant in
    let lt = c.loop-i-test.true in
    packs_on row _ at.file at.s at.p at.i on _ _ _ _ lt c.width-w.ensures
    c.number-v.ensures.is c.put-in-loop-i.auto.bytes
    c.put-in-loop-i.ensures
    c.step-s.ensures

pub shape_of-file : goal.shape_of-file
shape_of-file c = c.loop-i.invariant.long ∙ c.put.auto.bytes

pub returns : goal.returns
returns c =
    let at = c.loop-i in
    packs_done c.args.row.now _ at.file at.s at.p at.i
    at.invariant c.loop-i-test.false
