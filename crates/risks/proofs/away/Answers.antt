-- `risks::away` meets its contract: nobody is in the empty set.
use Rattle.std.proofs.Common.{arith, ◌∙◌, le-ltb}
use Rattle.sets.proofs.Sets.{has-none}
use Rattle.risks.proofs.away.Goals as goal

pub loop-m-init : goal.loop-m-init
loop-m-init c = λ m. has-none m ∙ rw (le-ltb m 0 (omega arith))
