-- `sets::holds` meets its contract: her digit is 1. Assumes nothing.
use mathlib.Core.Path.{refl}
use Rattle.sets.specs.Sets.{has}
use Rattle.sets.proofs.holds.Goals as goal

pub returns : goal.returns
unfolding has
returns c = refl
