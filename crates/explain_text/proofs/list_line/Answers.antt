-- `explain_text::list_line` meets its contract: the numbers with a space between them, and a line feed.
use Rattle.text.proofs.Laid.{told-first, told-rest, then}
use Rattle.explain_text.proofs.Line.{line-told}
use Rattle.explain_text.proofs.list_line.Goals as goal

pub parted-end-requires : goal.parted-end-requires
parted-end-requires c = told-first _ _ (line-told c.args.list.now c.requires)

pub put_byte-requires : goal.put_byte-requires
put_byte-requires c = told-rest c.parted-end.ensures _ (line-told c.args.list.now c.requires)

pub returns : goal.returns
returns c = then c.parted-end.ensures c.put_byte.ensures
