-- `probe_lines::told_list` meets its contract.
use Rattle.text.proofs.Laid.{told-first, told-rest, then}
use Rattle.probe_lines.proofs.Short.{list-told}
use Rattle.probe_lines.proofs.told_list.Goals as goal

pub put_word-first-requires : goal.put_word-first-requires
put_word-first-requires c =
    told-first _ _ (list-told _ _ c.args.lent.now c.requires c.args.pairs)

pub put_decimal-next-requires : goal.put_decimal-next-requires
put_decimal-next-requires c =
    told-first _ _ (told-rest c.put_word-first.ensures _ (list-told _ _ c.args.lent.now c.requires c.args.pairs))

pub numbers_end-requires : goal.numbers_end-requires
numbers_end-requires c =
    rw c.numbers_of-written.ensures
    (told-rest c.put_decimal-next.ensures _
    (told-rest c.put_word-first.ensures _ (list-told _ _ c.args.lent.now c.requires c.args.pairs)))

pub returns : goal.returns
returns c =
    then c.put_word-first.ensures (then c.put_decimal-next.ensures (rw c.numbers_of-written.ensures at c.numbers_end.ensures))
