use Rattle.std.proofs.Common.{◌≡◌, ◌-◌}
use Rattle.scope.specs.Lowest.{seek}
use Rattle.risks.specs.Weighed.{passes}
use Rattle.risks.proofs.next_link.Given as goal

abbrev pub invariant-loop-i : goal.invariant-loop-i
invariant-loop-i l =
    seek (passes l.closed l.weights l.most l.need l.rest l.s) (l.links - l.i) l.i ≡
    seek (passes l.closed l.weights l.most l.need l.rest l.s) (l.links - l.e) l.e
