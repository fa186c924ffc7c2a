-- `cuts::check` meets its contract: refusal 12 where `first_bad` finds a pair. Assumes nothing.
use mathlib.Core.Path.{◌∙◌}
use Rattle.cuts.proofs.Pairs.{check_some, check_none}
use Rattle.cuts.proofs.check.Goals as goal

pub returns-then-i-n : goal.returns-then-i-n
returns-then-i-n c =
    let a = c.args in
    c.refuse.ensures ∙
    check_some a.row.now a.others.now a.cuts.now _ _ _ _ c.requires c.count-n.ensures
    c.timeout.ensures.is c.links.ensures.is c.first_bad-i.ensures c.if-i-n.true

pub returns-else-i-n : goal.returns-else-i-n
returns-else-i-n c =
    let a = c.args in
    check_none a.row.now a.others.now a.cuts.now _ _ _ _ c.requires c.count-n.ensures
    c.timeout.ensures.is c.links.ensures.is c.first_bad-i.ensures c.if-i-n.false
