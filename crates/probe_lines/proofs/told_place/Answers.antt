-- `probe_lines::told_place` meets its contract: a word and two numbers with a byte after each.
use Rattle.text.proofs.Laid.{told-first, told-rest, then}
use Rattle.probe_lines.proofs.Short.{place-told}
use Rattle.probe_lines.proofs.told_place.Goals as goal

pub put_number-next-requires : goal.put_number-next-requires
put_number-next-requires c =
    told-first _ _ (told-rest c.put_word-first.ensures _ (place-told _ c.args.index c.args.n c.requires))

pub put_number-requires : goal.put_number-requires
put_number-requires c =
    told-rest c.put_number-next.ensures _ (told-rest c.put_word-first.ensures _ (place-told _ c.args.index c.args.n c.requires))

pub returns : goal.returns
returns c =
    then c.put_word-first.ensures (then c.put_number-next.ensures c.put_number.ensures)
