-- `nuthatchet::tell` meets its contract: the result, and the numbers of the refusal. Assumes nothing.
use mathlib.Core.Path.{refl}
use Rattle.nuthatchet.proofs.Ways.{allows}
use Rattle.nuthatchet.proofs.tell.Goals as goal

pub returns-in-Ok : goal.returns-in-Ok
returns-in-Ok c =
    rw c.in-Ok.is (record { refusal = allows _ c.allow.ensures; result = refl })

pub returns-in-Err : goal.returns-in-Err
returns-in-Err c =
    rw c.in-Err.is (record { refusal = c.refuse.ensures; result = refl })
