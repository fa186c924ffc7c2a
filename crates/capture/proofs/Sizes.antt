-- How many slots, links and messages the plan of a row has.
use Rattle.rows.proofs.Parts.{timeout-is, link-count, message-count}

pub ruleset sizes = (timeout-is, link-count, message-count)
