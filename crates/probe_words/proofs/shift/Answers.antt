-- `probe_words::shift` meets its contract: a part that is there is copied, and one that is none is.
use Rattle.probe_words.proofs.Parts.{no_part, moved}
use Rattle.probe_words.proofs.shift.Goals as goal

pub returns-then-to-from : goal.returns-then-to-from
returns-then-to-from c = no_part _ _ _ c.then-to-from.either

pub returns : goal.returns
returns c = rw c.copy_within.ensures.after (moved _ _ _ c.if-to-from.false c.if-s-to.false)
