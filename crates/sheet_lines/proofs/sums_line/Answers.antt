-- `sheet_lines::sums_line` meets its contract: two numbers with a space after each, and one with a line feed.
use Rattle.verdict_lines.proofs.Marks.{first-told, rest-told, mark-then}
use Rattle.sheet_lines.proofs.sums_line.Goals as goal

pub put_number-a-requires : goal.put_number-a-requires
put_number-a-requires c = first-told c.args.k 32 _ c.requires

pub put_number-b-requires : goal.put_number-b-requires
put_number-b-requires c =
    first-told c.args.sums.unharmed 32 _ (rest-told c.args.k 32 c.put_number-a.ensures _ c.requires)

pub put_number-requires : goal.put_number-requires
put_number-requires c =
    rest-told c.args.sums.unharmed 32 c.put_number-b.ensures _ (rest-told c.args.k 32 c.put_number-a.ensures _ c.requires)

pub returns : goal.returns
returns c =
    mark-then c.args.k 32 c.put_number-a.ensures
    (mark-then c.args.sums.unharmed 32 c.put_number-b.ensures c.put_number.ensures)
