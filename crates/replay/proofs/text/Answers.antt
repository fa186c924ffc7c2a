-- `replay::text` meets its contract: what came prints what the whole file and the whole input print.
use Rattle.program_io.proofs.Fits.{came-whole}
use Rattle.replay.proofs.Program.{given, refuses}
use Rattle.replay.proofs.text.Goals as goal

pub slice_bounds-replay_text-end : goal.slice_bounds-replay_text-end
slice_bounds-replay_text-end c = came-whole _ _ _ c.requires.came.0

pub slice_bounds-replay_text-end-2 : goal.slice_bounds-replay_text-end-2
slice_bounds-replay_text-end-2 c = came-whole _ _ _ c.requires.came.1

pub returns-in-Ok : goal.returns-in-Ok
returns-in-Ok c =
    let l = c.requires.plan_len in
    given c.args.plan.now c.args.p c.args.input.now c.args.i _ _ _ l.0 l.1 l.2
    c.replay_text.ensures _ c.in-Ok.is

pub returns-in-Err : goal.returns-in-Err
returns-in-Err c =
    let l = c.requires.plan_len in
    refuses c.args.plan.now c.args.p c.args.input.now c.args.i _ _ _ l.0 l.1 l.2
    c.replay_text.ensures _
    c.in-Err.is _ _
    c.refusal_text.ensures
