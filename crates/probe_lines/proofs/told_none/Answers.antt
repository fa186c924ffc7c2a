-- `probe_lines::told_none` meets its contract.
use Rattle.text.proofs.Laid.{told-first, told-rest, then}
use Rattle.probe_lines.proofs.Short.{none_told}
use Rattle.probe_lines.proofs.told_none.Goals as goal

pub put_word-last-requires : goal.put_word-last-requires
put_word-last-requires c =
    told-first _ _ (none_told _ _ c.args.lent.now c.requires)

pub end-requires : goal.end-requires
end-requires c =
    rw c.kept.ensures (told-rest c.put_word-last.ensures _ (none_told _ _ c.args.lent.now c.requires))

pub returns : goal.returns
returns c =
    then c.put_word-last.ensures (rw c.kept.ensures at c.end.ensures)
