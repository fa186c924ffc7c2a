-- `rules::message_fault` meets its contract. Assumes nothing.
use Rattle.rules.proofs.message_fault.Goals as goal

pub returns-in-First : goal.returns-in-First
returns-in-First c = rw c.in-First.is c.first_fault.ensures

pub returns-in-Second : goal.returns-in-Second
returns-in-Second c = rw c.in-Second.is c.second_fault.ensures
