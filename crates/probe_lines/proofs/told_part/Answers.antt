-- `probe_lines::told_part` meets its contract: a word, a number, the links and a line feed.
use Rattle.text.proofs.Laid.{told-first, told-rest, then}
use Rattle.probe_lines.proofs.Short.{part-told}
use Rattle.probe_lines.proofs.told_part.Goals as goal

pub put_decimal-next-requires : goal.put_decimal-next-requires
put_decimal-next-requires c =
    told-first _ _ (told-rest c.put_word-first.ensures _ (part-told _ c.args.links.now c.requires))

pub spaced-last-requires : goal.spaced-last-requires
spaced-last-requires c =
    told-first _ _
    (told-rest c.put_decimal-next.ensures _ (told-rest c.put_word-first.ensures _ (part-told _ c.args.links.now c.requires)))

pub put_byte-requires : goal.put_byte-requires
put_byte-requires c =
    told-rest c.spaced-last.ensures _
    (told-rest c.put_decimal-next.ensures _ (told-rest c.put_word-first.ensures _ (part-told _ c.args.links.now c.requires)))

pub returns : goal.returns
returns c =
    then c.put_word-first.ensures (then c.put_decimal-next.ensures (then c.spaced-last.ensures c.put_byte.ensures))
