-- `bound::weigh_from` meets its contract: from index k on the weights are done.
use Rattle.std.proofs.Common.{ℕ, ap, ltb, arith}
use Rattle.sets.specs.Sums.{one_if}
use Rattle.bound.proofs.Weights.{counted, weighing_none, weighing_more, whole-small}
use Rattle.bound.proofs.weigh_from.Goals as goal

pub loop-k-init : goal.loop-k-init
loop-k-init c =
    let s = c.requires in
    weighing_none _ _ _ s.0.few s.1 _ _ _ (omega arith) s.0.long c.told-links c.copy_from_slice.ensures.after

pub overflow_add-weights-in-loop-k : goal.overflow_add-weights-in-loop-k
overflow_add-weights-in-loop-k c =
    let s = c.requires in
    grind (arith, c.from.ensures, whole-small c.args.table.now c.args.links.now c.args.slots s.0.few s.1)

pub loop-k-preserved : goal.loop-k-preserved
loop-k-preserved c =
    let s = c.requires in
    weighing_more _ _ _ s.0.few s.1 _ _ _ (omega (arith, c.loop-k-test.true)) (omega arith) (omega (arith, s.0.long)) c.loop-k.invariant
    (omega (arith, c.from.ensures, counted (ltb 0 c.entry_at.result), ap (λ (x : ℕ). one_if (ltb 0 x)) c.entry_at.ensures))
