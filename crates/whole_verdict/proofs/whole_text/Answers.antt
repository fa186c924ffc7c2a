-- `whole_verdict::whole_text` meets its contract: by what reading the file gives.
use Rattle.std.proofs.Common.{refl}
use borrow.Author.Rules.{rules}
use Rattle.plan.proofs.Reading.{read_given, read-refused, read-row, read-fit, read-long, read-known}
use Rattle.verdict_text.proofs.Theorems.{prints-refused, prints_given}
use Rattle.whole_verdict.proofs.whole_text.Goals as goal

pub slice_bounds-row-end : goal.slice_bounds-row-end
slice_bounds-row-end c = read-fit _ _ _ _ c.read_file.ensures _ c.in-Ok.is

pub slice_bounds-all_lines-end : goal.slice_bounds-all_lines-end
slice_bounds-all_lines-end c = read-long _ _ _ _ c.read_file.ensures _ c.in-Ok.is

pub invariant_of-all_lines : goal.invariant_of-all_lines
invariant_of-all_lines c = record { is_good = read-known _ _ _ _ c.read_file.ensures _ c.in-Ok.is }

pub all_lines-requires : goal.all_lines-requires
all_lines-requires c = search rules

pub returns-in-Ok : goal.returns-in-Ok
returns-in-Ok c =
    let read = c.read_file.ensures in
    prints_given _ _ _ _ _ _ _ (read_given _ _ _ _ read _ _ refl c.in-Ok.is) (read-row _ _ _ _ read _ c.in-Ok.is) c.requires.1
    c.all_lines.ensures

pub returns-in-Err : goal.returns-in-Err
returns-in-Err c =
    prints-refused _ _ _ _ _ _ (read-refused _ _ _ _ c.read_file.ensures _ _ refl c.in-Err.is) c.refusal_text.ensures
