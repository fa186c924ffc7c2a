-- `text::number_at` meets its contract: the bytes that the loop has left go on with the number as those of the text do.
use Rattle.std.proofs.Common.{refl, sym, ◌∙◌}
use Rattle.text.proofs.Going.{Stopped, going_more, going_stops, going-ends, number_none, number_some}
use Rattle.text.proofs.number_at.Goals as goal
use Rattle.text.proofs.number_at.Goals.{else-loop-next-test, then-loop-next-test+then-not-goes_on}

pub loop-next-preserved : goal.loop-next-preserved
loop-next-preserved c =
    going_more _ _ _ _ _ c.loop-next.invariant c.loop-next-test.true _
    refl (sym c.goes_on.ensures ∙ c.if-not-goes_on.false)

pub returns-then-next-at : goal.returns-then-next-at
returns-then-next-at c =
    let l = c.loop-next in
    let stopped : Stopped c.args.most c.args.text.now c.args.at l.value l.next = elim c.loop-next-test.branch [
      | else-loop-next-test w ↦ going-ends _ _ _ _ _ l.invariant w.loop-next-test.false
      | then-loop-next-test+then-not-goes_on w ↦
          going_stops _ _ _ _ _ l.invariant w.loop-next-test.true _ refl (sym w.goes_on.ensures ∙ w.if-not-goes_on.true)
    ] in
    number_none _ _ _ _ _ l.invariant stopped c.if-next-at.true

pub returns : goal.returns
returns c =
    let l = c.loop-next in
    let stopped : Stopped c.args.most c.args.text.now c.args.at l.value l.next = elim c.loop-next-test.branch [
      | else-loop-next-test w ↦ going-ends _ _ _ _ _ l.invariant w.loop-next-test.false
      | then-loop-next-test+then-not-goes_on w ↦
          going_stops _ _ _ _ _ l.invariant w.loop-next-test.true _ refl (sym w.goes_on.ensures ∙ w.if-not-goes_on.true)
    ] in
    number_some _ _ _ _ _ l.invariant stopped c.if-next-at.false
