-- `sheet_lines::add` meets its contract: the plan's figures for the numbers below k are in the sums.
use Rattle.std.proofs.Common.{◌≡◌, ℕ, ◌≤◌, Bool, true, false, arith}
use mir.Val.{bool_byte}
use Rattle.sheet_lines.proofs.Adding.{within, added}
use Rattle.sheet_lines.proofs.add.Goals as goal

one-at-most : {n : ℕ} (t : Bool) → n ≡ bool_byte t → n ≤ 1
one-at-most true e = omega arith
one-at-most false e = omega arith

pub overflow_add-sums : goal.overflow_add-sums
overflow_add-sums c =
    let l = c.loop-k in
    omega (arith, within _ _ _ c.requires l.k c.loop-k-test.true l.sums l.invariant, one-at-most _ c.from.ensures)

pub returns : goal.returns
returns c =
    let l = c.loop-k in
    added c.args.t c.args.messages c.args.figures.now c.requires l.k (omega arith) l.sums l.invariant
