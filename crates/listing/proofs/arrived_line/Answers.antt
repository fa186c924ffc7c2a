-- `listing::arrived_line` meets its contract: word, number, word, and the last number with its line feed.
use mathlib.Core.List.{[], ◌∷◌}
use Rattle.text.proofs.Laid.{told-first, told-rest, then}
use Rattle.listing.proofs.arrived_line.Goals as goal

pub put_decimal-word-requires : goal.put_decimal-word-requires
put_decimal-word-requires c =
    told-first _ _ (told-rest c.put_word-first.ensures _ c.requires)

pub put_word-last-requires : goal.put_word-last-requires
put_word-last-requires c =
    told-first (32 ∷ 111 ∷ 102 ∷ 32 ∷ []) _
    (told-rest c.put_decimal-word.ensures _ (told-rest c.put_word-first.ensures _ c.requires))

pub put_number-requires : goal.put_number-requires
put_number-requires c =
    told-rest c.put_word-last.ensures _ (told-rest c.put_decimal-word.ensures _ (told-rest c.put_word-first.ensures _ c.requires))

pub returns : goal.returns
returns c =
    then c.put_word-first.ensures (then c.put_decimal-word.ensures (then c.put_word-last.ensures c.put_number.ensures))
