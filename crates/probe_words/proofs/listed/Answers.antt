-- `probe_words::listed` meets its contract: what the loop has left are those from index i on, for the room that is left.
use Rattle.std.proofs.Common.{sym, ◌∙◌}
use Rattle.probe_words.proofs.Items.{listing-first, listing-more, listing_none, listing_full, found_none, found_some}
use Rattle.probe_words.proofs.listed.Goals as goal

pub loop-n-init : goal.loop-n-init
loop-n-init g c = λ value next reads. listing-first value next _ _

pub returns-in_default : goal.returns-in_default
returns-in_default g c = λ value next reads.
    let e = found_none value next _ (sym c.in_default.is ∙ reads _ _ c.read.ensures) in
    listing_none value next _ _ _ _ _ (c.loop-n.invariant value next reads) c.loop-n-test.true e

pub loop-n-preserved : goal.loop-n-preserved
loop-n-preserved g c = λ value next reads.
    let f = found_some value next _ _ (sym c.in-Some.is ∙ reads _ _ c.read.ensures) in
    rw (f.1, f.2) (listing-more value next _ _ _ _ _ (c.loop-n.invariant value next reads) c.loop-n-test.true f.0)

pub returns : goal.returns
returns g c = λ value next reads. listing_full value next _ _ _ _ _ (c.loop-n.invariant value next reads) c.loop-n.auto.into c.loop-n-test.false
