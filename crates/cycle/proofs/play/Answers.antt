-- `cycle::play` meets its contract: first positions, all slots, and the count at the end. Assumes nothing.
use Rattle.cycle.proofs.Whole.{may_run, played}
use Rattle.cycle.proofs.play.Goals as goal

pub start_all-first-requires : goal.start_all-first-requires
start_all-first-requires c = rw c.messages-n.ensures.is c.requires.may

pub run-last-requires : goal.run-last-requires
run-last-requires c =
    let a = c.args in
    may_run a.row.now a.table.now a.others.now a.cuts.now _ _ c.messages-n.ensures.is
    c.timeout-timeout.ensures.is _ c.start_all-first.ensures _ c.timeout-timeout.ensures.small c.requires

pub count_home-requires : goal.count_home-requires
count_home-requires c = c.start_all-first.ensures.next.stand.few

pub returns : goal.returns
returns c =
    let a = c.args in
    played a.row.now a.table.now a.others.now a.cuts.now _ _
    c.messages-n.ensures.is
    c.timeout-timeout.ensures.is _
    c.start_all-first.ensures _ _ _ _ c.run-last.ensures
    (c.count_home.ensures a.row.now)
