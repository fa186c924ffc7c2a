use mathlib.Core.Path.{◌≡◌, sym, ◌∙◌}
use lib.ListN.{length}
use native.Mathlib.Omega.{arith}
use Rattle.step.proofs.Seen.{watching_none, watching_more, watching_other, watching_done}
use borrow.Author.Rules.{rules}
use Rattle.step.proofs.go_all.Goals as goal

pub loop-k-init : goal.loop-k-init
loop-k-init c =
    let z : length c.args.ps ≡ 32 = search rules in
    watching_none _ _ _ _ _ _ _ _ _ c.requires z (c.none-tried.ensures.0, omega (arith, c.none-tried.ensures.1))

pub returns-then-not-as_seen : goal.returns-then-not-as_seen
returns-then-not-as_seen c =
    watching_other c.loop-k.invariant c.loop-k-test.true _ _ c.act_one-moved.ensures
    (sym c.as_seen.ensures ∙ c.if-not-as_seen.true)

pub loop-k-preserved : goal.loop-k-preserved
loop-k-preserved c =
    watching_more c.loop-k.invariant c.loop-k-test.true _ _ c.act_one-moved.ensures _
    (sym c.as_seen.ensures ∙ c.if-not-as_seen.false) c.put_event.ensures

pub returns : goal.returns
returns c = watching_done c.loop-k.invariant (search rules) c.loop-k-test.false
