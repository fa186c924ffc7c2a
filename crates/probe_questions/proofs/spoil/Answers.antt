-- `probe_questions::spoil` meets its contract: a row, bytes, or no question.
use lib.ListN.{length}
use Rattle.probe_questions.proofs.Lines.{puts_as, spoil_none, spoil_numbers, spoil_others}
use Rattle.probe_questions.proofs.spoil.Goals as goal

pub returns-then-given-ne2 : goal.returns-then-given-ne2
returns-then-given-ne2 c =
    let a = c.args in
    puts_as (spoil_none (length a.lent.now) (length a.file.now) a.given.now c.if-given-ne2.true) c.unknown.ensures

pub returns-then-bits-eq16 : goal.returns-then-bits-eq16
returns-then-bits-eq16 c =
    let a = c.args in
    puts_as
    (spoil_numbers (length a.lent.now) (length a.file.now) a.given.now _ _
    c.number-bits.ensures.is c.number-index.ensures.is c.if-given-ne2.false c.if-bits-eq16.true)
    c.spoil_row.ensures

pub returns : goal.returns
returns c =
    let a = c.args in
    puts_as
    (spoil_others (length a.lent.now) (length a.file.now) a.given.now _ _
    c.number-bits.ensures.is c.number-index.ensures.is c.if-given-ne2.false c.if-bits-eq16.false)
    c.spoil_bytes.ensures
