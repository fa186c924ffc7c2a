-- `capture::add` meets its contract: one law for each way through its tests. Assumes nothing.
use Rattle.std.proofs.Common.{sym, ◌∙◌}
use Rattle.scope.specs.Plan.{plan_of}
use Rattle.capture.proofs.Adding as law
use Rattle.capture.proofs.add.Goals as goal
use Rattle.capture.proofs.add.Goals.{then-not-in_range-via-then-not-in_range, then-not-in_range-via-else-not-in_range+then-not-rises}

pub returns-then-kept : goal.returns-then-kept
returns-then-kept c = law.adds-behind _ _ _ c.requires _ _ _ c.if-kept.true

pub returns-then-not-in_range : goal.returns-then-not-in_range
returns-then-not-in_range c =
    let a = c.args in
    law.adds-bad a.row.now a.crossed.now a.kept c.requires a.slot a.link a.message _ c.if-kept.false
    (elim c.then-not-in_range.branch [
      | then-not-in_range-via-then-not-in_range w ↦
          law.not_in_range (plan_of a.row.now) a.kept a.slot a.link a.message (sym c.in_range.ensures ∙ w.if-not-in_range.true)
      | then-not-in_range-via-else-not-in_range+then-not-rises w ↦
          law.not_risen (plan_of a.row.now) a.kept a.slot a.link a.message (sym w.rises.ensures ∙ w.if-not-rises.true)
    ])
    c.spoil.ensures

pub mark-again-requires : goal.mark-again-requires
mark-again-requires c =
    let a = c.args in
    let small = law.in_table a.row.now a.crossed.now a.kept c.requires a.slot a.link a.message (sym c.in_range.ensures ∙ c.if-not-in_range.false) in
    (c.requires.size, small.0, small.1, small.2)

pub returns : goal.returns
returns c =
    let a = c.args in
    law.adds-good a.row.now a.crossed.now a.kept c.requires a.slot a.link a.message _ _ c.if-kept.false
    (sym c.in_range.ensures ∙ c.if-not-in_range.false) (sym c.rises.ensures ∙ c.if-not-rises.false)
    c.mark-again.ensures
