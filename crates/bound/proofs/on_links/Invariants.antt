use Rattle.bound.proofs.Planes.{Counting}
use Rattle.bound.proofs.on_links.Given as goal

abbrev pub invariant-loop-e : goal.invariant-loop-e
invariant-loop-e l = Counting l.seconds l.link-items l.e
