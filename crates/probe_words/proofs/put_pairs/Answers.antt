-- `probe_words::put_pairs` meets its contract: what the loop has left of the bytes is still to be laid from `next` on.
use Rattle.text.proofs.Laid.{left-first, left_is, left-told, left-more, left-done}
use Rattle.probe_words.proofs.Parts.{pairs-more, pairs-done}
use Rattle.probe_words.proofs.put_pairs.Goals as goal

pub loop-b-init : goal.loop-b-init
loop-b-init c = left-first _ _ _

pub put_pair-next-requires : goal.put_pair-next-requires
put_pair-next-requires c = left-told _ _ c.requires (left_is (pairs-more _ _ c.loop-b-test.true) c.loop-b.invariant)

pub loop-b-preserved : goal.loop-b-preserved
loop-b-preserved c = left-more (left_is (pairs-more _ _ c.loop-b-test.true) c.loop-b.invariant) c.put_pair-next.ensures

pub returns : goal.returns
returns c = left-done (left_is (pairs-done _ _ c.loop-b-test.false) c.loop-b.invariant)
