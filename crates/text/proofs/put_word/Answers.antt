-- `text::put_word` meets its contract: what the loop has left of the word is still to be laid from `next` on.
use Rattle.text.proofs.Laid.{left-first, left_is, left-told, left-more, left-done, word_more, word_done}
use Rattle.text.proofs.put_word.Goals as goal

pub loop-b-init : goal.loop-b-init
loop-b-init c = left-first _ _ _

pub put_byte-next-requires : goal.put_byte-next-requires
put_byte-next-requires c = left-told _ _ c.requires (left_is (word_more _ _ c.loop-b-test.true) c.loop-b.invariant)

pub loop-b-preserved : goal.loop-b-preserved
loop-b-preserved c =
    left-more (left_is (word_more _ _ c.loop-b-test.true) c.loop-b.invariant) c.put_byte-next.ensures

pub returns : goal.returns
returns c = left-done (left_is (word_done _ _ c.loop-b-test.false) c.loop-b.invariant)
