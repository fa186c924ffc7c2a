-- `cut_replay::replay` meets its contract: refusals 1 to 10 and 14 to 19, or what `replay_good` gives. Assumes nothing.
use Rattle.scope.proofs.Outcomes.{passed}
use Rattle.cut_replay.specs.Replay.{Replays}
use Rattle.cut_replay.proofs.Ways.{replay-bad}
use Rattle.cut_replay.proofs.replay.Goals as goal

pub returns-in_err-good : goal.returns-in_err-good
returns-in_err-good c =
    let a = c.args in
    passed (Replays _ _ _ _) _ _ c.from_residual.ensures.1 (replay-bad a.row.now a.cuts.now a.events.now _ c.in_err-good.ensures)
