-- `cut_replay::replay_cut` meets its contract: refusal 13, or what `play` gives over a right table. Assumes nothing.
use mathlib.Core.Path.{refl}
use native.Mathlib.Omega.{arith}
use Rattle.cut_replay.proofs.Ways.{good-lies, good-may, replay-short, replay-gives}
use Rattle.cut_replay.proofs.replay_cut.Goals as goal

pub returns-then-events-needed : goal.returns-then-events-needed
returns-then-events-needed c =
    let a = c.args in
    replay-short a.row.now a.cuts.now a.events.now c.requires.0 _ c.event_numbers-needed.ensures _
    c.if-events-needed.true c.refuse.ensures

pub fill_table-requires : goal.fill_table-requires
fill_table-requires c =
    (refl, (good-lies c.args.row.now c.requires.0.judged).messages)

pub play-count-requires : goal.play-count-requires
play-count-requires c =
    good-may c.args.row.now _ c.requires.0.judged (omega (
      arith,
      c.event_numbers-needed.ensures,
      c.if-events-needed.false,
    ))

pub returns : goal.returns
returns c =
    let a = c.args in
    replay-gives a.row.now a.cuts.now a.events.now c.requires.0 _
    c.event_numbers-needed.ensures
    c.if-events-needed.false _ _ _ _
    c.fill_table.ensures c.requires.1 c.play-count.ensures
