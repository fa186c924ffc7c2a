-- `listing::refused_line` meets its contract: the line is short.
use Rattle.text.proofs.Laid.{told-first, told-rest, then}
use Rattle.listing.proofs.Lines.{refused-told}
use Rattle.listing.proofs.refused_line.Goals as goal

pub put_refusal-last-requires : goal.put_refusal-last-requires
put_refusal-last-requires c = told-first _ _ (refused-told _)

pub put_byte-requires : goal.put_byte-requires
put_byte-requires c = told-rest c.put_refusal-last.ensures _ (refused-told _)

pub returns : goal.returns
returns c = then c.put_refusal-last.ensures c.put_byte.ensures
