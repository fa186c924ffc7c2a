use borrow.Author.Rules.{rules}
use Rattle.step.proofs.Moving.{moving_home, moving_more, moving_done}
use Rattle.step.proofs.move_all.Goals as goal
use Rattle.step.proofs.move_all.Goals.{then-not-is_home, else-not-is_home}

pub loop-m-preserved : goal.loop-m-preserved
loop-m-preserved c =
    let v = c.loop-m.invariant in
    let below = c.loop-m-test.true in
    elim c.if-not-is_home.branch [
      | then-not-is_home w ↦ rw (w.ps-is, w.tried-is) (moving_more v _ _ below w.move_one.ensures)
      | else-not-is_home w ↦ rw (w.ps-is, w.tried-is) (moving_home v below (search rules))
    ]

pub returns : goal.returns
returns c = moving_done c.loop-m.invariant c.loop-m-test.false
