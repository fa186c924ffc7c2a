-- `risks::next_link` meets its contract: no link before i may be tried.
use Rattle.std.proofs.Common.{arith, ◌≡◌, sym, ◌∙◌}
use Rattle.scope.proofs.Lowest.{seek_found, seek-next, seek-done}
use Rattle.risks.proofs.next_link.Goals as goal

pub returns-then-may : goal.returns-then-may
returns-then-may c =
    sym (seek_found _ _ _ c.loop-i-test.true (sym c.may.ensures ∙ c.if-may.true)) ∙ c.loop-i.invariant

pub loop-i-preserved : goal.loop-i-preserved
loop-i-preserved c =
    sym (seek-next _ _ _ c.loop-i-test.true (sym c.may.ensures ∙ c.if-may.false)) ∙ c.loop-i.invariant

pub returns : goal.returns
returns c =
    let all : c.args.links ≡ c.loop-i.i = omega arith in
    all ∙ sym (seek-done _ _ _ c.loop-i-test.false) ∙ c.loop-i.invariant
