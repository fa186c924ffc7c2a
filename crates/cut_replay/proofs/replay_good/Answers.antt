-- `cut_replay::replay_good` meets its contract: refusal 12, or what `replay_cut` gives. Assumes nothing.
use Rattle.std.proofs.Common.{sym}
use Rattle.scope.proofs.Outcomes.{passed}
use Rattle.plan.proofs.Ways.{known_good}
use Rattle.cut_replay.specs.Replay.{Replays}
use Rattle.cut_replay.proofs.Ways.{good-lies, replay-cuts}
use Rattle.cut_replay.proofs.replay_good.Goals as goal

pub other_ways-others-requires : goal.other_ways-others-requires
other_ways-others-requires c = good-lies _ (known_good _ c.args.good.is_good)

pub replay_cut-requires : goal.replay_cut-requires
replay_cut-requires c =
    (record { judged = known_good _ c.args.good.is_good; count = _; good = sym c.in_ok-check.ensures }, c.other_ways-others.ensures)

pub returns-in_err-check : goal.returns-in_err-check
returns-in_err-check c =
    let a = c.args in
    passed (Replays _ _ _ _) _ _ c.from_residual.ensures.1
    (replay-cuts a.good.row.now a.cuts.now a.events.now _ (known_good _ a.good.is_good) (sym c.in_err-check.ensures))
