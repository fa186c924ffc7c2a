use Rattle.std.proofs.Common.{◌≡◌, true, false, sym}
use Rattle.scope.proofs.Seek.{seeking_first, seeking_next, lowest-found, some-none}
use Rattle.rules.proofs.Laws as law
use Rattle.rules.proofs.refuse_lowest.Goals as goal

pub loop-m-init : goal.loop-m-init
loop-m-init g c test same = seeking_first test c.args.count

pub returns-then-breaks : goal.returns-then-breaks
returns-then-breaks g c test same =
    let n = c.args.count in
    let m = c.loop-m.m in
    let passes : test m ≡ true = sym (same m true c.loop-m-test.true c.if-breaks.ensures) in
    rw c.refusal_at.ensures
    (law.refuses_lowest test n c.args.no m c.loop-m-test.true
    (lowest-found test n m (c.loop-m.invariant test same) c.loop-m-test.true passes))

pub loop-m-preserved : goal.loop-m-preserved
loop-m-preserved g c test same =
    let m = c.loop-m.m in
    let fails : test m ≡ false = sym (same m false c.loop-m-test.true c.if-breaks.ensures) in
    seeking_next test c.args.count m (c.loop-m.invariant test same) c.loop-m-test.true fails

pub returns : goal.returns
returns g c test same =
    let n = c.args.count in
    law.refuses_none test n c.args.no (sym (some-none test n c.loop-m.m (c.loop-m.invariant test same) c.loop-m-test.false))
