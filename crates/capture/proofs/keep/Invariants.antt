-- `capture::keep` meets its contract. The loop's invariant: all triples that are not left are kept. Assumes nothing.
use Rattle.std.proofs.Common.{◌≡◌}
use Rattle.std.specs.Slice.Iter.{chunks_rest, chunks_size}
use Rattle.scope.specs.Plan.{plan_of}
use Rattle.capture.proofs.Walk.{Walking}
use Rattle.capture.proofs.keep.Given as goal

abbrev pub invariant-loop-triple : goal.invariant-loop-triple
invariant-loop-triple l =
    (chunks_size l.triple-iterator ≡ 3) × Walking (plan_of l.row) l.capture (chunks_rest l.triple-iterator) l.crossed l.kept
