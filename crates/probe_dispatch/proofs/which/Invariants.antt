use Rattle.std.proofs.Common.{◌≡◌, drop}
use Rattle.probe_dispatch.specs.Line.{questions, first_of, question_of}
use Rattle.probe_dispatch.proofs.which.Given as goal

abbrev pub invariant-loop-question : goal.invariant-loop-question
invariant-loop-question l = first_of l.line (drop l.question-index questions) ≡ question_of l.line
