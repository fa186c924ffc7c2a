-- `explanations::decide` meets its contract: what the walk is lent is right.
use Rattle.explanations.proofs.Asking.{lies, may-start, may_hunt}
use borrow.Author.Rules.{rules}
use Rattle.explanations.proofs.decide.Goals as goal

pub fill_table-requires : goal.fill_table-requires
fill_table-requires c =
    (search rules, (lies _ c.requires.good).messages)

pub start_all-ps-requires : goal.start_all-ps-requires
start_all-ps-requires c =
    may-start _ c.requires.good _ c.messages-messages.ensures.is

pub other_ways-requires : goal.other_ways-requires
other_ways-requires c = lies _ c.requires.good

pub first_list-requires : goal.first_list-requires
first_list-requires c =
    may_hunt _ _ _ c.requires _
    c.fill_table.ensures _ _ _ _ _ c.timeout.ensures.is
    c.links.ensures.is c.messages-messages.ensures.is
    c.other_ways.ensures c.start_all-ps.ensures
