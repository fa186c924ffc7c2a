-- `row_text::numbers` meets its contract: what the loop has left are the numbers of the text from index i on.
use Rattle.std.proofs.Common.{refl, sym, ◌∙◌, rules}
use Rattle.text.proofs.Laid.{left_is, left-more, left-done}
use Rattle.row_text.proofs.Words.{no_word, word_last, word_ends, word_bad, from-none}
use Rattle.row_text.proofs.numbers.Goals as goal

pub returns-in_default : goal.returns-in_default
returns-in_default c =
    left-done (left-more (left_is (no_word _ c.loop-i.i c.loop-i-test.true c.in_default.ensures) c.loop-i.invariant.2) c.put.ensures)

pub returns-then-text-word : goal.returns-then-text-word
returns-then-text-word c =
    let word = c.in-Some.ensures in
    left-done (left-more (left_is (word_last _ _ _ word.1 word.0 c.if-text-word.true) c.loop-i.invariant.2) c.put-then-text-word.ensures)

pub returns-then-not-ends : goal.returns-then-not-ends
returns-then-not-ends c =
    let word = c.in-Some.ensures in
    left-done
    (left-more
    (left_is (word_bad _ _ _ word.1 word.0 c.if-text-word.false _ c.byte.ensures.is (sym c.ends.ensures ∙ c.if-not-ends.true))
    c.loop-i.invariant.2)
    c.put-then-not-ends.ensures)

pub loop-i-preserved : goal.loop-i-preserved
loop-i-preserved c =
    let word = c.in-Some.ensures in
    let l =
    left-more
    (left_is (word_ends _ _ _ word.1 word.0 c.if-text-word.false _ c.byte.ensures.is (sym c.ends.ensures ∙ c.if-not-ends.false))
    c.loop-i.invariant.2)
    c.put-n.ensures
    in (search rules, search rules, l)

pub returns : goal.returns
returns c = left-done (left_is (from-none _ _ _ _ c.loop-i-test.false refl) c.loop-i.invariant.2)
