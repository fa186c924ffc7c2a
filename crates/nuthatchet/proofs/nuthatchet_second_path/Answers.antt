-- `nuthatchet::nuthatchet_second_path` meets its contract: a part with links stands where its place is, and such a message and place are
-- few. Assumes nothing.
use Rattle.nuthatchet.proofs.Parts.{part_none, part-some, few}
use native.Mathlib.Omega.{arith}
use mathlib.Core.Path.{ap}
use lib.ListN.{length}
use Rattle.nuthatchet.proofs.nuthatchet_second_path.Goals as goal

pub returns-then-n-eq0 : goal.returns-then-n-eq0
returns-then-n-eq0 c = part_none _ _ _ _ (ap length c.second_path-part.ensures.shows) c.if-n-eq0.true

pub place_index-requires : goal.place_index-requires
place_index-requires c = few _ _ _ _ (ap length c.second_path-part.ensures.shows) c.if-n-eq0.false

pub overflow_add-index : goal.overflow_add-index
overflow_add-index c = let p = few _ _ _ _ (ap length c.second_path-part.ensures.shows)
    c.if-n-eq0.false in omega (arith, c.place_index.ensures.small, p.0, p.1)

pub returns : goal.returns
returns c = part-some _ _ _ _ (ap length c.second_path-part.ensures.shows) c.if-n-eq0.false _
    c.place_index.ensures.is
