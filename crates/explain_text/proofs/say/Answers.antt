-- `explain_text::say` meets its contract: by the answer.
use Rattle.std.proofs.Common.{Ok, refl, sym, ap, ◌∙◌, arith}
use Rattle.scope.proofs.Outcomes.{passed}
use Rattle.explain_text.specs.Text.{SaysOne}
use Rattle.explain_text.proofs.Captures.{listed-few, listed-fits, listed-long, listed-may, says-unexplained, says-listed, says_no}
use Rattle.explain_text.proofs.say.Goals as goal

pub explain_good-requires : goal.explain_good-requires
explain_good-requires c = c.requires.keeps.size

pub overflow_mul-list : goal.overflow_mul-list
overflow_mul-list c =
    let may = c.requires in
    omega (arith, listed-few _ may.seen _ _ _ refl (c.explain_good.ensures may.seen may.keeps) _ (c.in_ok-pairs.was ∙ ap Ok c.in-Some.is))

pub slice_bounds-list-end : goal.slice_bounds-list-end
slice_bounds-list-end c =
    let may = c.requires in
    listed-fits _ may.seen _ _ _ refl (c.explain_good.ensures may.seen may.keeps) _ (c.in_ok-pairs.was ∙ ap Ok c.in-Some.is)

pub slice_bounds-explained-end : goal.slice_bounds-explained-end
slice_bounds-explained-end c =
    let may = c.requires in
    sym (listed-long _ may.seen _ _ _ refl (c.explain_good.ensures may.seen may.keeps) _ (c.in_ok-pairs.was ∙ ap Ok c.in-Some.is))

pub explained-requires : goal.explained-requires
explained-requires c =
    let may = c.requires in
    listed-may _ may.seen _ _ _ refl (c.explain_good.ensures may.seen may.keeps) _ (c.in_ok-pairs.was ∙ ap Ok c.in-Some.is)

pub returns-in-None : goal.returns-in-None
returns-in-None c = λ capture keeps.
    says-unexplained _ capture _ _ _ refl (c.explain_good.ensures capture keeps) (c.in_ok-pairs.was ∙ ap Ok c.in-None.is)
    c.unexplained.ensures

pub returns-in-Some : goal.returns-in-Some
returns-in-Some c = λ capture keeps.
    says-listed _ capture _ _ _ refl (c.explain_good.ensures capture keeps) _ (c.in_ok-pairs.was ∙ ap Ok c.in-Some.is)
    c.explained.ensures

pub returns-in_err-pairs : goal.returns-in_err-pairs
returns-in_err-pairs c = λ capture keeps.
    passed (SaysOne _ _ _ _) _ _ c.from_residual.ensures.1
    (says_no _ capture _ _ _ refl (c.explain_good.ensures capture keeps) _ c.in_err-pairs.was _)
