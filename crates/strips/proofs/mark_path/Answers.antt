-- `strips::mark_path` meets its contract: whoever marks the links left has marked all. Assumes nothing.
use Rattle.strips.proofs.Puts.{put_one, put-past}
use Rattle.strips.proofs.Paths.{marking_more, marking_done}
use Rattle.strips.proofs.mark_path.Goals as goal
use Rattle.strips.proofs.mark_path.Goals.{then-e-lt-LINKS, else-e-lt-LINKS}

pub loop-k-preserved : goal.loop-k-preserved
loop-k-preserved c =
    marking_more _ _ _ _ _ _ _ c.loop-k.invariant _ _ c.loop-k-test.true c.number-e.ensures.is
    (elim c.if-e-lt-LINKS.branch [
      | then-e-lt-LINKS w ↦ rw w.ways-is (put_one _ _ _ w.if-e-lt-LINKS.true c.requires.2 c.loop-k.invariant.long)
      | else-e-lt-LINKS w ↦ rw w.ways-is (put-past _ _ _ w.if-e-lt-LINKS.false c.loop-k.invariant.long)
    ])

pub returns : goal.returns
returns c = marking_done _ _ _ _ _ _ _ c.loop-k.invariant c.loop-k-test.false
