-- `text::stands` meets its contract: what is left to compare decides the whole.
use Rattle.std.proofs.Common.{sym, ◌∙◌}
use Rattle.text.proofs.Word.{stands-first, stands-not, stands-next, stands-done}
use Rattle.text.proofs.stands.Goals as goal

pub loop-j-init : goal.loop-j-init
loop-j-init c = stands-first _ _ _

pub returns-then-byte-b : goal.returns-then-byte-b
returns-then-byte-b c =
    sym (stands-not _ _ _ c.loop-j.j c.byte.result c.loop-j-test.true c.byte.ensures.is c.if-byte-b.true) ∙ c.loop-j.invariant

pub loop-j-preserved : goal.loop-j-preserved
loop-j-preserved c =
    sym (stands-next _ _ _ c.loop-j.j c.byte.result c.loop-j-test.true c.byte.ensures.is c.if-byte-b.false) ∙ c.loop-j.invariant

pub returns : goal.returns
returns c = sym (stands-done _ _ _ _ c.loop-j-test.false) ∙ c.loop-j.invariant
