-- `bound::tops_each` meets its contract: the first j of the three have their numbers.
use Rattle.std.proofs.Common.{◌+◌, ◌-◌, ◌*◌, arith}
use Rattle.scope.specs.Limits.{most_slots, plane_size}
use Rattle.bound.proofs.Planes.{topped_more}
use Rattle.bound.proofs.tops_each.Goals as goal

pub loop-j-preserved : goal.loop-j-preserved
loop-j-preserved c =
    let j = c.loop-j.j in
    topped_more _ _ _ (omega (arith, c.requires.long, c.loop-j.auto.most)) j ((j + 1) * plane_size - j * plane_size) ((j + 1) * most_slots - j * most_slots) _ c.requires.few
    c.loop-j.invariant c.loop-j-test.true (omega arith) (omega arith) c.tops.ensures
