-- `nuthatchet::nuthatchet_slack` meets its contract: the answer of `spare::slack`, told; the slack comes back from 32 bits. Assumes nothing.
use borrow.Author.Rules.{rules}
use Rattle.nuthatchet.proofs.Ways.{slots, no_slots}
use Rattle.nuthatchet.proofs.nuthatchet_slack.Goals as goal

pub returns-in-Ok : goal.returns-in-Ok
returns-in-Ok c =
    slots _ _ _ _ c.slack.ensures _ c.in-Ok.is
    (search rules) c.allow.ensures

pub returns-in-Err : goal.returns-in-Err
returns-in-Err c =
    no_slots _ _ _ _ c.slack.ensures _ c.in-Err.is c.refuse.ensures
