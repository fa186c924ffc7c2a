-- `names::name_end` meets its contract: past the end there is no name, and else the first line feed ends it. Assumes nothing.
use Rattle.std.proofs.Common.{ℕ, eqb, sym, ◌∙◌, arith, rules, length-drop}
use Rattle.std.proofs.lemmas.List.{take_all}
use Rattle.std.proofs.lemmas.Iterator.{YieldsList-from_slice}
use Rattle.std.proofs.lemmas.Iterator.Search.{position_from_yields_List}
use borrow.Author.Tests.{tests}
use Rattle.names.proofs.Names.{size_is, end_past, end_found}
use Rattle.names.proofs.name_end.Goals as goal

pub returns-in_default : goal.returns-in_default
returns-in_default c = sym (end_past _ _ (grind (arith, c.in_default.ensures.lookup)))

pub returns : goal.returns
returns c =
    let rest = c.in-Some.rest.now in
    let is = c.in-Some.ensures.lookup.0.2 ∙ take_all _ _ (omega (arith, length-drop {A = ℕ})) in
    end_found _ _ rest is _
    (c.unwrap_or.ensures ∙
    size_is rest _
    (position_from_yields_List (λ b. eqb b 10) _ _ _ c.position.ensures.ran (YieldsList-from_slice rest cc)
    (λ x b q k. search (rules, tests))))
