-- `cut_lines::cuts` meets its contract: what the loop has left are the cuts of the lines from index i on.
use Rattle.std.proofs.Common.{◌≡◌, ◌+◌, ◌-◌, ◌*◌, ◌/◌, length, arith}
use Rattle.text.proofs.Laid.{left_is, left-more, left-done, puts_one}
use Rattle.cut_lines.proofs.Lines.{cuts-none, cuts-end, line-more, line-bad, puts_two, cuts-done}
use Rattle.cut_lines.proofs.cuts.Goals as goal

pub returns-then-text-i : goal.returns-then-text-i
returns-then-text-i c = cuts-done (left-done (left_is (cuts-end _ _ _ c.if-text-i.true) c.loop-k.invariant))

pub returns-in-None : goal.returns-in-None
returns-in-None c =
    let l = c.loop-k in
    cuts-done
    (left-done (left-more (left_is (line-bad _ _ (length c.args.out.now / 2 - (l.k + 1)) _ (omega arith)
    c.if-text-i.false c.in-None.ensures) l.invariant) (puts_one _ _ 0)))

pub loop-k-preserved : goal.loop-k-preserved
loop-k-preserved c =
    let l = c.loop-k in
    let line = c.in-Some.ensures in
    let two : 2 * (l.k + 1) ≡ 2 * l.k + 2 = omega arith in
    rw two (left-more (left_is (line-more _ _ (length c.args.out.now / 2 - (l.k + 1)) _ _ _ _ (omega arith) c.if-text-i.false
    line.is line.end line.slot line.link) l.invariant) (puts_two _ _ _ _))

pub returns : goal.returns
returns c =
    let e : c.loop-k.k ≡ length c.args.out.now / 2 = omega arith in
    rw (← e) (cuts-done (left-done (left_is (cuts-none _ _ _ (omega arith)) c.loop-k.invariant)))
