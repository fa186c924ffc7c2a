-- `listing::print` meets its contract: the first call tells the length, the second writes the text.
use Rattle.listing.proofs.Printing.{prints-short, prints-whole}
use Rattle.listing.proofs.print.Goals as goal

pub returns-then-out-needed : goal.returns-then-out-needed
returns-then-out-needed g c =
    λ text lays. prints-short (lays _ _ _ c.lay-needed.ensures) _ _ c.if-out-needed.true c.refuse.ensures

pub returns : goal.returns
returns g c =
    λ text lays. prints-whole (lays _ _ _ c.lay-needed.ensures) _ c.if-out-needed.false (lays _ _ _ c.lay.ensures)
