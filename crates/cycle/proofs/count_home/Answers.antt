-- `cycle::count_home` meets its contract: it counts the records of those that are at their targets. Assumes nothing.
use mathlib.Core.Path.{◌≡◌, sym, ◌∙◌, ap}
use mathlib.Core.List.{List}
use lib.ListN.{take}
use lib.Dec.{eqb}
use borrow.Author.Rules.{rules}
use Rattle.std.specs.Prelude.{count_by}
use Rattle.step.specs.declared.Position.{Position}
use Rattle.cycle.proofs.Start.{arrived_count}
use Rattle.cycle.proofs.count_home.Goals as goal

pub returns : goal.returns
returns c =
    let n : c.count.result ≡ count_by (λ (p : Position). eqb p.left 0) (take c.args.n c.positions.result) = search rules in
    λ row. n ∙ ap (λ (ps : List Position). count_by (λ (p : Position). eqb p.left 0) (take c.args.n ps)) c.positions.ensures ∙
    sym (arrived_count row (take c.args.n c.args.standing.positions))
