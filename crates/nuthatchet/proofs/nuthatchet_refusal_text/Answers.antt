-- `nuthatchet::nuthatchet_refusal_text` meets its contract: the answer of `listing::refusal_text`, told.
use mathlib.Core.Path.{ap}
use Rattle.scope.specs.Lines.{refused_line}
use Rattle.listing.proofs.Printing.{prints_as}
use Rattle.nuthatchet.proofs.Ways.{prints}
use Rattle.nuthatchet.proofs.nuthatchet_refusal_text.Goals as goal

pub returns : goal.returns
returns c =
    prints _ c.tell.ensures (prints_as (ap refused_line c.refusal_on.ensures)
    c.refusal_text-answer.ensures)
