-- `probe_words::number` meets its contract: one law for each way.
use Rattle.probe_words.proofs.Found.{number_past, number-other, number-read}
use Rattle.probe_words.proofs.number.Goals as goal

pub returns-then-line-at : goal.returns-then-line-at
returns-then-line-at c = number_past _ _ c.if-line-at.true

pub returns-then-byte-ne32 : goal.returns-then-byte-ne32
returns-then-byte-ne32 c = number-other _ _ _ c.byte.ensures.is c.if-byte-ne32.true

pub returns : goal.returns
returns c = number-read _ _ _ c.byte.ensures.is _ c.number_at.ensures c.if-line-at.false c.if-byte-ne32.false
