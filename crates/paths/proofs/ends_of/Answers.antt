-- `paths::ends_of` meets its contract: all links stand in the row. Assumes nothing.
use Rattle.std.proofs.Common.{◌≡◌, ◌+◌, ◌*◌, ◌∙◌, ap, arith}
use Rattle.scope.specs.Plan.{at}
use Rattle.paths.proofs.Laws.{from_at, to_at, from-small, to-small, links-inside}
use Rattle.paths.proofs.ends_of.Goals as goal

pub bounds-row-i : goal.bounds-row-i
bounds-row-i c = omega (arith, links-inside c.args.row.now c.requires.0, c.requires.1)

pub bounds-row-i-2 : goal.bounds-row-i-2
bounds-row-i-2 c = omega (arith, links-inside c.args.row.now c.requires.0, c.requires.1)

pub returns : goal.returns
returns c =
    let a = c.args in
    let row = a.row.now in
    let there = c.requires.1 in
    let lies = c.requires.0 in
    let next : a.e * 2 + 5 + 1 ≡ a.e * 2 + 6 = omega arith in
    let to_is = ap (at row) next ∙ to_at row a.e there in
    record {
      from = from_at row a.e there;
      to = to_is;
      from_small = omega (arith, from_at row a.e there, from-small row lies a.e);
      to_small = omega (arith, to_is, to-small row lies a.e);
    }
