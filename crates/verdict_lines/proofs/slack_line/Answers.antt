-- `verdict_lines::slack_line` meets its contract: the word, two numbers with a space after each, the slack and a line feed.
use mathlib.Core.List.{[], ◌∷◌}
use Rattle.text.proofs.Laid.{told-rest, then}
use Rattle.verdict_lines.proofs.Marks.{first-told, rest-told, mark-then}
use Rattle.verdict_lines.proofs.Signs.{signed-told, signed-puts}
use Rattle.verdict_lines.proofs.slack_line.Goals as goal

pub put_number-b-requires : goal.put_number-b-requires
put_number-b-requires c =
    first-told c.args.message 32 _ (told-rest c.put_word-a.ensures _ c.requires)

pub put_number-c-requires : goal.put_number-c-requires
put_number-c-requires c =
    first-told c.args.place 32 _ (rest-told c.args.message 32 c.put_number-b.ensures _
    (told-rest c.put_word-a.ensures _ c.requires))

pub put_signed-d-requires : goal.put_signed-d-requires
put_signed-d-requires c =
    signed-told c.args.slack c.ranges.slack (10 ∷ []) (rest-told c.args.place 32 c.put_number-c.ensures _
    (rest-told c.args.message 32 c.put_number-b.ensures _
    (told-rest c.put_word-a.ensures _ c.requires)))

pub put_byte-requires : goal.put_byte-requires
put_byte-requires c =
    told-rest (signed-puts c.args.slack c.ranges.slack c.put_signed-d.ensures) _
    (rest-told c.args.place 32 c.put_number-c.ensures _
    (rest-told c.args.message 32
    c.put_number-b.ensures _
    (told-rest
    c.put_word-a.ensures
    _ c.requires)))

pub returns : goal.returns
returns c =
    then
    c.put_word-a.ensures
    (mark-then c.args.message 32
    c.put_number-b.ensures
    (mark-then c.args.place 32 c.put_number-c.ensures
    (then (signed-puts c.args.slack c.ranges.slack c.put_signed-d.ensures)
    c.put_byte.ensures)))
