use Prim.Native.Nat.{ℕ, ◌-◌}
use native.Mathlib.Omega.{arith}
use lib.Dec.{eqb}
use Rattle.scope.specs.Lowest.{seek}
use Rattle.step.specs.Pass.{tried_link}
use mathlib.Core.Path.{◌≡◌, sym, ◌∙◌, ap}
use Rattle.step.specs.declared.Try.{Try}
use Rattle.step.proofs.Tried.{left_found, left_more, left_none, in_count, at_count, past_count}
use Rattle.step.proofs.Tries.first.Goals as goal

pub loop-t-init : goal.loop-t-init
loop-t-init c =
    let t = c.args.self.now in
    let all : t.count - 0 ≡ t.count = omega arith in
    ap (λ (n : ℕ). seek (λ k. eqb (tried_link t k) c.args.link) n 0) all

pub returns-then-t-link : goal.returns-then-t-link
returns-then-t-link c =
    let t = c.args.self.now in
    let h = in_count c.requires c.loop-t-test.true in
    ap (λ (x : Try). x.message) (at_count c.requires h) ∙
    left_found t c.args.link c.args.m c.loop-t.t-index c.loop-t.invariant h
    (ap (λ (x : Try). x.link) (sym (at_count c.requires h)) ∙ c.if-t-link.true)

pub loop-t-preserved : goal.loop-t-preserved
loop-t-preserved c =
    let h = in_count c.requires c.loop-t-test.true in
    left_more c.args.self.now c.args.link c.loop-t.t-index c.loop-t.invariant h
    (λ e. c.if-t-link.false (ap (λ (x : Try). x.link) (at_count c.requires h) ∙ e))

pub returns : goal.returns
returns c =
    left_none c.args.self.now c.args.link c.args.m c.loop-t.t-index c.loop-t.invariant
    (past_count c.requires c.loop-t-test.false)
