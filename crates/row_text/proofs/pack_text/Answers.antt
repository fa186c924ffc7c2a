-- `row_text::pack_text` meets its contract: a text of more numbers than the longest row has is refused as its first numbers are.
use Rattle.std.proofs.Common.{rules}
use Rattle.row_text.proofs.Ways.{packs}
use Rattle.row_text.proofs.pack_text.Goals as goal

pub returns : goal.returns
returns c = packs c.numbers-n.ensures (search rules) (rw c.min.ensures at c.write_file.ensures)
