-- `sheet_lines::refused_line` meets its contract: the refusal, and the end of the line.
use Rattle.text.proofs.Laid.{told-first, told-rest, then}
use Rattle.sheet_lines.proofs.refused_line.Goals as goal

pub put_refusal-next-requires : goal.put_refusal-next-requires
put_refusal-next-requires c = told-first _ _ c.requires

pub put_name-requires : goal.put_name-requires
put_name-requires c =
    told-rest c.put_refusal-next.ensures _ c.requires

pub returns : goal.returns
returns c =
    then c.put_refusal-next.ensures c.put_name.ensures
