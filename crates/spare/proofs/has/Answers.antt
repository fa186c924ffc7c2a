-- `spare::has` meets its contract. Assumes nothing.
use Rattle.std.proofs.Common.{◌+◌, eqb, arith, rules, refl, ◌∙◌}
use Rattle.std.proofs.lemmas.Iterator.{YieldsList-from_range}
use Rattle.std.proofs.lemmas.Iterator.Search.{any_from_yields_List}
use borrow.Author.Tests.{tests}
use Rattle.scope.specs.Plan.{at}
use Rattle.spare.proofs.Loops.{has_range}
use Rattle.spare.proofs.has.Goals as goal

pub returns : goal.returns
returns c =
    any_from_yields_List (λ k. eqb c.args.e (at c.args.row.now (c.args.i + k))) _ _ _ c.any.ensures.ran
    (YieldsList-from_range 0 c.args.n c.args.n refl (omega arith)) (λ x b q k. search (rules, tests)) ∙
    has_range _ _ c.args.i c.args.n
