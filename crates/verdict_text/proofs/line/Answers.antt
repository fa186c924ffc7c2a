-- `verdict_text::line` meets its contract: by the first of the seven numbers.
use Rattle.verdict_text.proofs.Verdicts.{line-resists, line-fails}
use Rattle.verdict_text.proofs.line.Goals as goal

pub resistant_line-requires : goal.resistant_line-requires
resistant_line-requires c = rw (line-resists _ _ _ _ c.number-pairs.ensures.is
    c.if-pairs-eq0.true) at c.requires.1

pub returns-then-pairs-eq0 : goal.returns-then-pairs-eq0
returns-then-pairs-eq0 c = rw (line-resists _ _ _ _ c.number-pairs.ensures.is
    c.if-pairs-eq0.true) c.resistant_line.ensures

pub failing_line-requires : goal.failing_line-requires
failing_line-requires c =
    rw (line-fails _ _ _ _ c.number-pairs.ensures.is c.if-pairs-eq0.false) at c.requires.1

pub returns : goal.returns
returns c =
    rw (line-fails _ _ _ _ c.number-pairs.ensures.is c.if-pairs-eq0.false)
    c.failing_line.ensures
