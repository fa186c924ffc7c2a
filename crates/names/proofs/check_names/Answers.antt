-- `names::check_names` meets its contract: the names from the line on that begins at index `from` settle the answer.
use Prim.Native.Nat.{◌-◌, ◌≤◌}
use mathlib.Core.Path.{sym, ◌∙◌}
use native.Mathlib.Omega.{arith}
use borrow.Author.Rules.{rules}
use lib.ListN.{length}
use Rattle.names.specs.Names.{name_end}
use Rattle.names.proofs.Names.{end-most}
use Rattle.names.proofs.Check.{from_first, line-bad, line-good, line-end, good}
use Rattle.names.proofs.check_names.Goals as goal

pub loop-from-init : goal.loop-from-init
loop-from-init c = (search rules, from_first _)

pub returns-then-is_bad : goal.returns-then-is_bad
returns-then-is_bad c =
    let s = c.loop-from in
    c.refuse.ensures ∙ sym (line-bad _ s.line s.from c.name_end-end.result c.loop-from-test.true c.name_end-end.ensures
    (sym c.is_bad.ensures ∙ c.if-is_bad.true)) ∙ s.invariant.1

pub overflow_add-from : goal.overflow_add-from
overflow_add-from c =
    let text = c.args.text.now in
    let l = c.loop-from in
    let m : name_end text l.from ≤ length text = end-most text l.from (omega arith) in
    omega arith

pub loop-from-preserved : goal.loop-from-preserved
loop-from-preserved c =
    let s = c.loop-from in
    let fine = sym c.is_bad.ensures ∙ c.if-is_bad.false in (
      omega (arith, (good s.line (c.name_end-end.result - s.from) fine).few),
      sym (line-good _ s.line s.from c.name_end-end.result c.loop-from-test.true c.name_end-end.ensures fine) ∙ s.invariant.1,
    )

pub returns : goal.returns
returns c =
    let s = c.loop-from in
    sym (line-end _ s.line s.from c.loop-from-test.false) ∙ s.invariant.1
