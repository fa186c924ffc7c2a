-- `probe_lines::told_slack` meets its contract.
use mathlib.Core.List.{[], ◌∷◌}
use Rattle.text.proofs.Laid.{told-rest, then}
use Rattle.verdict_lines.proofs.Signs.{signed-told, signed-puts}
use Rattle.probe_lines.proofs.Short.{slack-told}
use Rattle.probe_lines.proofs.told_slack.Goals as goal

pub put_signed-last-requires : goal.put_signed-last-requires
put_signed-last-requires c =
    signed-told c.args.slots c.ranges.slots (10 ∷ []) (told-rest c.put_word-first.ensures _ (slack-told _ c.args.slots c.requires))

pub put_byte-requires : goal.put_byte-requires
put_byte-requires c =
    told-rest (signed-puts c.args.slots c.ranges.slots c.put_signed-last.ensures) _
    (told-rest c.put_word-first.ensures _ (slack-told _ c.args.slots c.requires))

pub returns : goal.returns
returns c =
    then c.put_word-first.ensures
    (then (signed-puts c.args.slots c.ranges.slots c.put_signed-last.ensures) c.put_byte.ensures)
