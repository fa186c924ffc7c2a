-- `cables::other_of` meets its contract: the lowest link with the ends reversed, or the link itself. Assumes nothing.
use Rattle.std.proofs.Common.{arith}
use Rattle.cables.proofs.Ends.{ends-are, found}
use Rattle.cables.proofs.other_of.Goals as goal

pub bounds-table-to : goal.bounds-table-to
bounds-table-to c =
    let are = ends-are _ c.requires.lies _ _ _ c.requires.there c.number-from.ensures c.number-to.ensures in
    omega (arith, are.1, are.2)

pub returns : goal.returns
returns c =
    rw c.unwrap_or.ensures
    (found _ c.requires.lies _ _ _ _ _ c.requires.there c.number-from.ensures c.number-to.ensures c.requires.ends
    c.checked_sub-back.ensures)
