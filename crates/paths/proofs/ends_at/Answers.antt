-- `paths::ends_at` meets its contract: a link of the plan stands in the row, and past the last one `link_of` gives 0. Assumes nothing.
use Rattle.std.proofs.Common.{◌≤◌, ◌<◌, ◌∙◌, arith}
use Rattle.scope.specs.Plan.{link_count}
use Rattle.paths.proofs.Laws.{from_at, to_at, from-none, to_none}
use Rattle.paths.proofs.ends_at.Goals as goal

pub returns-then-e-links : goal.returns-then-e-links
returns-then-e-links c =
    let a = c.args in
    let there : a.e < link_count a.row.now = omega (arith, c.if-e-links.true, c.links.ensures.is) in
    record {
      from = c.number-from.ensures.is ∙ from_at a.row.now a.e there;
      to = c.number-to.ensures.is ∙ to_at a.row.now a.e there;
    }

pub returns : goal.returns
returns c =
    let a = c.args in
    let none : link_count a.row.now ≤ a.e = omega (arith, c.if-e-links.false, c.links.ensures.is) in
    record { from = from-none a.row.now a.e none; to = to_none a.row.now a.e none }
