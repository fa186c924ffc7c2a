-- `verdict_lines::put_signed` meets its contract: the digits of the distance from zero, after a minus sign below zero.
use Rattle.text.proofs.Laid.{then}
use Rattle.verdict_lines.proofs.Signs.{prints-down}
use Rattle.verdict_lines.proofs.put_signed.Goals as goal

pub returns : goal.returns
returns c =
    rw (prints-down c.args.z c.ranges.z c.unsigned_abs-n.result c.if-z-ge0.false c.unsigned_abs-n.ensures.value)
    (then c.put_byte-next.ensures c.put_decimal-2.ensures)
