-- `row::text` meets its contract: what came prints what the whole file prints.
use Rattle.program_io.proofs.Fits.{came-whole}
use Rattle.row.proofs.Program.{given, refuses}
use Rattle.row.proofs.text.Goals as goal

pub slice_bounds-row_text-end : goal.slice_bounds-row_text-end
slice_bounds-row_text-end c = came-whole _ _ _ c.requires.0

pub returns-in-Ok : goal.returns-in-Ok
returns-in-Ok c =
    given c.args.plan.now c.args.p _ _ _ c.requires.1 c.requires.2 c.row_text.ensures _
    c.in-Ok.is

pub returns-in-Err : goal.returns-in-Err
returns-in-Err c =
    refuses c.args.plan.now c.args.p _ _ _ c.requires.1 c.requires.2
    c.row_text.ensures _
    c.in-Err.is _ _ c.refusal_text.ensures
