-- `capture_lines::begin` meets its contract: no triple is kept, and no byte of a line is read.
use Rattle.std.proofs.Common.{rules}
use Rattle.capture_lines.proofs.Pieces.{starts}
use Rattle.capture_lines.proofs.begin.Goals as goal

pub returns : goal.returns
returns c = starts _ _ c.none.ensures (search rules)
