-- `verdict_lines::failing_line` meets its contract: k and a space, l, the numbers and a line feed.
use Rattle.text.proofs.Laid.{told-first, told-rest, then}
use Rattle.verdict_lines.proofs.Marks.{first-told, rest-told, mark-then}
use Rattle.verdict_lines.proofs.failing_line.Goals as goal

pub put_number-a-requires : goal.put_number-a-requires
put_number-a-requires c = first-told c.args.k 32 _ c.requires

pub put_decimal-b-requires : goal.put_decimal-b-requires
put_decimal-b-requires c =
    told-first _ _ (rest-told c.args.k 32 c.put_number-a.ensures _ c.requires)

pub spaced-c-requires : goal.spaced-c-requires
spaced-c-requires c =
    told-first _ _ (told-rest c.put_decimal-b.ensures _
    (rest-told c.args.k 32 c.put_number-a.ensures _ c.requires))

pub put_byte-requires : goal.put_byte-requires
put_byte-requires c =
    told-rest c.spaced-c.ensures _
    (told-rest c.put_decimal-b.ensures _
    (rest-told c.args.k 32
    c.put_number-a.ensures _ c.requires))

pub returns : goal.returns
returns c =
    mark-then c.args.k 32
    c.put_number-a.ensures
    (then c.put_decimal-b.ensures
    (then c.spaced-c.ensures c.put_byte.ensures))
