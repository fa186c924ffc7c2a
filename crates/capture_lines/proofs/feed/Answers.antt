-- `capture_lines::feed` meets its contract: the loop has read the first bytes of the piece.
use Rattle.std.proofs.Common.{refl}
use Rattle.capture_lines.proofs.Pieces.{feeds_none, feeds_more, feeds_all}
use Rattle.capture_lines.proofs.feed.Goals as goal

pub loop-b-init : goal.loop-b-init
loop-b-init c = feeds_none _ _ c.args.reading c.requires.size c.requires.fits c.requires.line

pub read_byte-r-requires : goal.read_byte-r-requires
read_byte-r-requires c =
    let fed = c.loop-b.invariant in
    record { small = c.requires.small; size = fed.size; fits = fed.fits; line = fed.line }

pub loop-b-preserved : goal.loop-b-preserved
loop-b-preserved c = feeds_more _ _ c.loop-b.b-index _ _ _ _ _ _ _ c.loop-b-test.true refl c.loop-b.invariant c.read_byte-r.ensures

pub returns : goal.returns
returns c = feeds_all _ _ c.loop-b.b-index _ _ _ _ c.loop-b-test.false c.loop-b.invariant
