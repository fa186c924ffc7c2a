-- `whole_shelf::text` meets its contract: what came shows what all of standard input and the whole plan files show.
use Rattle.program_io.proofs.Fits.{came-whole}
use Rattle.whole_shelf.proofs.Program.{may_read, shown-sheet, shown-refused}
use Rattle.whole_shelf.proofs.text.Goals as goal

pub slice_bounds-check_names-end : goal.slice_bounds-check_names-end
slice_bounds-check_names-end c =
    came-whole _ _ _ c.requires.0

pub slice_bounds-sheet-end : goal.slice_bounds-sheet-end
slice_bounds-sheet-end c =
    came-whole _ _ _ c.requires.0

pub sheet-requires : goal.sheet-requires
sheet-requires c = (
  may_read c.args.input.now c.args.n c.args.out.now c.args.out.now c.requires.1 c.requires.2
      _ _ c.check_names.ensures c.in-Ok.is,
  c.requires.2,
)

pub returns-in-Ok : goal.returns-in-Ok
returns-in-Ok c =
    shown-sheet c.args.input.now c.args.n _ _ c.requires.1 c.requires.2 _ _ c.check_names.ensures c.in-Ok.is _ c.sheet.ensures

pub returns-in-Err : goal.returns-in-Err
returns-in-Err c =
    shown-refused c.args.input.now c.args.n _ _ c.requires.1 c.requires.2 _ _ c.check_names.ensures c.in-Err.is _ c.refusal_text.ensures
