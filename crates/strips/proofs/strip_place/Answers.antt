-- `strips::strip_place` meets its contract: a robust place marks its second path, a fragile one enters itself. Assumes nothing.
use Rattle.std.proofs.Common.{refl}
use Rattle.strips.proofs.Strips.{place_robust, place_fragile}
use Rattle.strips.proofs.strip_place.Goals as goal

pub returns-then-robust : goal.returns-then-robust
returns-then-robust c =
    place_robust _ _ _ _ _ _ c.requires.1 _
    c.place_at-here.ensures _ c.robust.ensures
    c.if-robust.true _ c.mark_path.ensures

pub returns-else-robust : goal.returns-else-robust
returns-else-robust c =
    place_fragile _ _ _ _ _ _ c.requires.1 _
    c.place_at-here.ensures _ c.robust.ensures
    c.if-robust.false _ refl _ c.mark.ensures
