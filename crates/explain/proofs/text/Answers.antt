-- `explain::text` meets its contract: what came of the plan file prints what the whole file prints.
use Rattle.std.proofs.Common.{refl}
use Rattle.plan.proofs.Reading.{read_given, read-refused, read-row, read-fit, read-long, read-known}
use Rattle.program_io.proofs.Fits.{came-whole}
use Rattle.explain.proofs.Program.{shows_given, shows-refused}
use Rattle.explain.proofs.text.Goals as goal

pub slice_bounds-read_file-end : goal.slice_bounds-read_file-end
slice_bounds-read_file-end c = came-whole _ _ _ c.requires.0

pub slice_bounds-row-end : goal.slice_bounds-row-end
slice_bounds-row-end c = read-fit _ _ _ _ c.read_file.ensures _ c.in-Ok.is

pub slice_bounds-of_row-end : goal.slice_bounds-of_row-end
slice_bounds-of_row-end c = read-long _ _ _ _ c.read_file.ensures _ c.in-Ok.is

pub invariant_of-of_row : goal.invariant_of-of_row
invariant_of-of_row c = record { is_good = read-known _ _ _ _ c.read_file.ensures _ c.in-Ok.is }

pub of_row-requires : goal.of_row-requires
of_row-requires c = c.requires.2

pub returns-in-Ok : goal.returns-in-Ok
returns-in-Ok c =
    let read = c.read_file.ensures in
    shows_given c.args.plan.now c.args.p _ _ c.requires.1 _ (read_given _ _ _ _ read _ _ refl c.in-Ok.is) _
    (read-row _ _ _ _ read _ c.in-Ok.is) c.of_row.result c.of_row.ensures

pub returns-in-Err : goal.returns-in-Err
returns-in-Err c =
    shows-refused c.args.plan.now c.args.p _ _ c.requires.1 _
    (read-refused _ _ _ _ c.read_file.ensures _ _ refl c.in-Err.is) _ c.requires.2 c.refusal_text.ensures
