-- `shelf_text::plan_line` meets its contract: by what reading the file gives.
use Rattle.std.proofs.Common.{refl}
use Rattle.plan.proofs.Reading.{read_given, read-refused, read-row, read-fit, read-long, read-known}
use Rattle.shelf_text.proofs.Lines.{lays_given, lays-refused, may-refuse}
use Rattle.shelf_text.proofs.plan_line.Goals as goal

pub slice_bounds-row-end : goal.slice_bounds-row-end
slice_bounds-row-end c = read-fit _ _ _ _ c.read_file.ensures _ c.in-Ok.is

pub slice_bounds-rated-end : goal.slice_bounds-rated-end
slice_bounds-rated-end c = read-long _ _ _ _ c.read_file.ensures _ c.in-Ok.is

pub invariant_of-rated : goal.invariant_of-rated
invariant_of-rated c = record { is_good = read-known _ _ _ _ c.read_file.ensures _ c.in-Ok.is }

pub rated-requires : goal.rated-requires
rated-requires c = c.requires

pub refused_line-next-requires : goal.refused_line-next-requires
refused_line-next-requires c = may-refuse _ _ _ _ c.requires

pub returns-in-Ok : goal.returns-in-Ok
returns-in-Ok c =
    let read = c.read_file.ensures in
    lays_given _ _ _ _ _ _ _ _ _ (read_given _ _ _ _ read _ _ refl c.in-Ok.is) (read-row _ _ _ _ read _ c.in-Ok.is) c.rated.ensures

pub returns-in-Err : goal.returns-in-Err
returns-in-Err c =
    lays-refused _ _ _ _ _ _ _ _ (read-refused _ _ _ _ c.read_file.ensures _ _ refl c.in-Err.is) c.refused_line-next.ensures refl
