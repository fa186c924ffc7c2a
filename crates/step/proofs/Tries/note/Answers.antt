-- `Tries::note` meets its contract. Assumes nothing.
use mathlib.Core.Path.{refl}
use Rattle.step.specs.Pass.{noted}
use Rattle.step.proofs.Tries.note.Goals as goal

pub returns : goal.returns
unfolding noted
returns c = refl
