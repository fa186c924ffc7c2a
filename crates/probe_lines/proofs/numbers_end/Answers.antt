-- `probe_lines::numbers_end` meets its contract.
use Rattle.text.proofs.Laid.{told-first, told-rest, then}
use Rattle.probe_lines.proofs.numbers_end.Goals as goal

pub put_numbers-last-requires : goal.put_numbers-last-requires
put_numbers-last-requires c = told-first _ _ c.requires

pub end-requires : goal.end-requires
end-requires c =
    rw c.kept.ensures (told-rest c.put_numbers-last.ensures _ c.requires)

pub returns : goal.returns
returns c =
    then c.put_numbers-last.ensures (rw c.kept.ensures at c.end.ensures)
