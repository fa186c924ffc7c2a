-- `text::put_refusal` meets its contract: two words with a number after each, and the place and the step.
use mathlib.Core.List.{[], ◌∷◌}
use Rattle.text.proofs.Laid.{told-first, told-rest, then}
use Rattle.text.proofs.put_refusal.Goals as goal

pub put_decimal-word-requires : goal.put_decimal-word-requires
put_decimal-word-requires c =
    told-first _ _ (told-rest c.put_word-number.ensures _ c.requires)

pub put_word-place-requires : goal.put_word-place-requires
put_word-place-requires c =
    told-first (32 ∷ 112 ∷ 108 ∷ 97 ∷ 99 ∷ 101 ∷ 32 ∷ []) _
    (told-rest c.put_decimal-word.ensures _ (told-rest c.put_word-number.ensures _ c.requires))

pub put_decimal-path-requires : goal.put_decimal-path-requires
put_decimal-path-requires c =
    told-first _ _
    (told-rest c.put_word-place.ensures _ (told-rest c.put_decimal-word.ensures _ (told-rest c.put_word-number.ensures _ c.requires)))

pub put_path-requires : goal.put_path-requires
put_path-requires c =
    told-rest c.put_decimal-path.ensures _
    (told-rest c.put_word-place.ensures _ (told-rest c.put_decimal-word.ensures _ (told-rest c.put_word-number.ensures _ c.requires)))

pub returns : goal.returns
returns c =
    then c.put_word-number.ensures
    (then c.put_decimal-word.ensures
    (then c.put_word-place.ensures (then c.put_decimal-path.ensures c.put_path.ensures)))
