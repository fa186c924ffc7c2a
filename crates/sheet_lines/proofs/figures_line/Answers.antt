-- `sheet_lines::figures_line` meets its contract: the figures, and the end of the line.
use Rattle.text.proofs.Laid.{told-first, told-rest, then}
use Rattle.sheet_lines.proofs.figures_line.Goals as goal

pub parted-next-requires : goal.parted-next-requires
parted-next-requires c = told-first _ _ c.requires

pub put_name-requires : goal.put_name-requires
put_name-requires c =
    told-rest c.parted-next.ensures _ c.requires

pub returns : goal.returns
returns c =
    then c.parted-next.ensures c.put_name.ensures
