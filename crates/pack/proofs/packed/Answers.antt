-- `pack::packed` meets its contract: what came packs to what the whole text does.
use Rattle.program_io.proofs.Fits.{came-whole}
use Rattle.row_text.proofs.Enough.{packs_whole}
use Rattle.pack.proofs.packed.Goals as goal

pub slice_bounds-pack_text-end : goal.slice_bounds-pack_text-end
slice_bounds-pack_text-end c = came-whole _ _ _ c.requires.0

pub returns : goal.returns
returns c =
    packs_whole _ _ _ _ _ c.requires.1 c.pack_text.ensures
