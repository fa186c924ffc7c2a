use Rattle.std.proofs.Common.{arith, rules, ap, refl, ◌∙◌}
use Rattle.std.proofs.lemmas.Iterator.{YieldsList-from_range}
use Rattle.std.proofs.lemmas.Iterator.Search.{find_from_yields_List}
use borrow.Author.Tests.{tests}
use Rattle.scope.specs.Lowest.{lowest}
use Rattle.cuts.specs.Pairs.{is_bad}
use Rattle.cuts.proofs.Ranges.{find_below}
use Rattle.cuts.proofs.first_bad.Goals as goal

pub returns : goal.returns
returns c =
    c.unwrap_or.ensures ∙
    find_below (is_bad c.args.timeout c.args.links c.args.others.now c.args.cuts.now) c.count-n.result _
    (find_from_yields_List (is_bad c.args.timeout c.args.links c.args.others.now c.args.cuts.now) _ _ _ c.find.ensures.ran
    (YieldsList-from_range 0 c.count-n.result c.count-n.result refl (omega arith)) (λ x b q k. search (rules, tests))) ∙
    ap (lowest (is_bad c.args.timeout c.args.links c.args.others.now c.args.cuts.now)) c.count-n.ensures
