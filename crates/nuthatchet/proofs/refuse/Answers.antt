-- `nuthatchet::refuse` meets its contract: the four numbers, one by one. Assumes nothing.
use mathlib.Core.Path.{refl}
use Rattle.nuthatchet.proofs.refuse.Goals as goal

pub returns : goal.returns
returns c = record { number = refl; place = refl; at = refl; step = refl }
