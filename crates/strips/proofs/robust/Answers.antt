-- `strips::robust` meets its contract: the tests of the code are those of the definition. Assumes nothing.
use Rattle.std.proofs.Common.{sym}
use Rattle.strips.proofs.Costs.{robust_some}
use Rattle.strips.proofs.robust.Goals as goal

pub returns-then-here-ne0 : goal.returns-then-here-ne0
returns-then-here-ne0 c =
    rw c.timeout.ensures.is (sym (robust_some _ _ _ _ _ c.place_at-here.ensures _ c.if-here-ne0.true c.delay.ensures.is))
