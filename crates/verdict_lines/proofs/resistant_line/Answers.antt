-- `verdict_lines::resistant_line` meets its contract: k and a space, l, and the word.
use Rattle.text.proofs.Laid.{told-first, told-rest, then}
use Rattle.verdict_lines.proofs.Marks.{first-told, rest-told, mark-then}
use Rattle.verdict_lines.proofs.resistant_line.Goals as goal

pub put_number-a-requires : goal.put_number-a-requires
put_number-a-requires c = first-told c.args.k 32 _ c.requires

pub put_decimal-b-requires : goal.put_decimal-b-requires
put_decimal-b-requires c =
    told-first _ _ (rest-told c.args.k 32 c.put_number-a.ensures _ c.requires)

pub put_word-requires : goal.put_word-requires
put_word-requires c =
    told-rest c.put_decimal-b.ensures _
    (rest-told c.args.k 32 c.put_number-a.ensures _ c.requires)

pub returns : goal.returns
returns c =
    mark-then c.args.k 32 c.put_number-a.ensures
    (then c.put_decimal-b.ensures c.put_word.ensures)
