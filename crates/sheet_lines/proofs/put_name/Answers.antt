-- `sheet_lines::put_name` meets its contract: a space, the name and a line feed.
use Rattle.text.proofs.Laid.{told-first, told-rest, then}
use Rattle.sheet_lines.proofs.put_name.Goals as goal

pub put_word-b-requires : goal.put_word-b-requires
put_word-b-requires c =
    told-first _ _ (told-rest c.put_byte-a.ensures _ c.requires)

pub put_byte-requires : goal.put_byte-requires
put_byte-requires c =
    told-rest c.put_word-b.ensures _ (told-rest c.put_byte-a.ensures _ c.requires)

pub returns : goal.returns
returns c =
    then c.put_byte-a.ensures (then c.put_word-b.ensures c.put_byte.ensures)
