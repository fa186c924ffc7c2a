use Rattle.std.proofs.Common.{drop}
use Rattle.text.proofs.Laid.{Left}
use Rattle.probe_words.specs.Words.{pairs_of}
use Rattle.probe_words.proofs.put_pairs.Given as goal

abbrev pub invariant-loop-b : goal.invariant-loop-b
invariant-loop-b l = Left (pairs_of l.bytes) l.initial.out l.at (pairs_of (drop l.b-index l.bytes)) l.out l.next
