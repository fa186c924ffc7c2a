-- `probe_dispatch::which` meets its contract: the questions that are left have the answer of all.
use Rattle.std.proofs.Common.{sym, ap, ◌∙◌}
use Rattle.text.specs.Reading.{stands}
use Rattle.probe_dispatch.specs.Line.{questions}
use Rattle.probe_dispatch.proofs.Laws.{word_is, word_not, word_none}
use Rattle.probe_dispatch.proofs.which.Goals as goal

pub returns-then-stands : goal.returns-then-stands
returns-then-stands c =
    let line = c.args.line.now in
    let e = ap (stands line 0) (sym c.word.ensures) ∙ sym c.stands.ensures ∙ c.if-stands.true in
    sym (word_is line questions _ _ c.loop-question-test.true e) ∙ c.loop-question.invariant

pub loop-question-preserved : goal.loop-question-preserved
loop-question-preserved c =
    let line = c.args.line.now in
    let e = ap (stands line 0) (sym c.word.ensures) ∙ sym c.stands.ensures ∙ c.if-stands.false in
    sym (word_not line questions _ _ c.loop-question-test.true e) ∙ c.loop-question.invariant

pub returns : goal.returns
returns c = word_none c.args.line.now questions _ c.loop-question-test.false ∙ c.loop-question.invariant
