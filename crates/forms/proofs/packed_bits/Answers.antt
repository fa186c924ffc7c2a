use native.Mathlib.Omega.{arith}
use lib.ListN.{length}
use Rattle.forms.proofs.Packing.{counts-first, counts-next, counts-room, counts-done, row_walks, row_bits_most}
use Rattle.forms.proofs.packed_bits.Goals as goal

pub loop-i-init : goal.loop-i-init
loop-i-init c = counts-first c.args.row.now _ c.opening-s.ensures

pub overflow_add-p : goal.overflow_add-p
overflow_add-p c =
    let row = c.args.row.now in
    let at = c.loop-i in
    let room = counts-room row at.s at.p at.i at.invariant c.loop-i-test.true in
    omega (arith, room, c.width-p.ensures, row_bits_most row (row_walks row (length row) c.requires))

pub loop-i-preserved : goal.loop-i-preserved
loop-i-preserved c =
    let at = c.loop-i in
    counts-next c.args.row.now at.s _ at.p at.i _ _ at.invariant
    c.loop-i-test.true c.width-p.ensures c.number.ensures.is
    c.step-s.ensures

pub returns : goal.returns
returns c =
    let at = c.loop-i in
    counts-done c.args.row.now at.s at.p at.i at.invariant c.loop-i-test.false
