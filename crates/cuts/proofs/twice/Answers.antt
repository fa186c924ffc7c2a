use Rattle.std.proofs.Common.{eqb, arith, rules, refl, ◌∙◌}
use Rattle.std.proofs.lemmas.Iterator.{YieldsList-from_range}
use Rattle.std.proofs.lemmas.Iterator.Search.{any_from_yields_List}
use borrow.Author.Tests.{tests}
use Rattle.scope.specs.Cuts.{cut_link}
use Rattle.cuts.proofs.Ranges.{any_below}
use Rattle.cuts.proofs.twice.Goals as goal

pub returns : goal.returns
returns c =
    any_from_yields_List (λ j. eqb (cut_link c.args.cuts.now j) (cut_link c.args.cuts.now c.args.i)) _ _ _ c.any.ensures.ran
    (YieldsList-from_range 0 c.args.i c.args.i refl (omega arith)) (λ x b q k. search (rules, tests)) ∙
    any_below _ c.args.i
