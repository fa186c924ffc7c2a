-- `bound::on_link` meets its contract: the messages before the byte at hand are counted.
use Rattle.std.proofs.Common.{◌+◌, ◌*◌, arith}
use Rattle.std.proofs.lemmas.Grind.{common_steps}
use Rattle.scope.specs.Limits.{most_messages}
use Rattle.bound.proofs.Planes.{summing_none, summing_more}
use Rattle.bound.proofs.on_link.Goals as goal

pub loop-byte-init : goal.loop-byte-init
loop-byte-init c = summing_none _ _

pub loop-byte-preserved : goal.loop-byte-preserved
loop-byte-preserved c =
    let byte = c.type_inv.seconds (c.args.e * most_messages + c.loop-byte.byte-index) in
    summing_more _ _ _ _ c.loop-byte.invariant _ (omega arith) (grind (arith, common_steps, byte)) (grind (arith, common_steps))
