-- `explanations::explain_good` meets its contract, one law for each answer.
use mathlib.Core.Path.{sym}
use native.Mathlib.Omega.{arith}
use Rattle.explanations.proofs.Ways.{front, k_too_large, bad_capture, too_short, on_two_links, none_found, one_found}
use Rattle.plan.proofs.Ways.{known_good}
use Rattle.explanations.proofs.explain_good.Goals as goal

pub returns-then-k-gt-CUTS : goal.returns-then-k-gt-CUTS
returns-then-k-gt-CUTS c =
    λ capture has. k_too_large _ _ _ _ (known_good _ c.args.good.is_good) _ c.if-k-gt-CUTS.true c.refusal_at.ensures

pub returns-then-kept : goal.returns-then-kept
returns-then-kept c =
    λ capture has. bad_capture _ _ _ _ (known_good _ c.args.good.is_good) c.if-k-gt-CUTS.false _ _ has
    _ c.if-kept.true c.refusal_at-then-kept.ensures

pub returns-then-list-k : goal.returns-then-list-k
returns-then-list-k c =
    λ capture has. too_short _ _ _ _ (known_good _ c.args.good.is_good)
    c.if-k-gt-CUTS.false _ _ has c.if-kept.false _ c.if-list-k.true c.refusal_at-then-list-k.ensures

pub returns-then-kept-2 : goal.returns-then-kept-2
returns-then-kept-2 c =
    λ capture has. on_two_links _ _ _ _ (known_good _ c.args.good.is_good)
    c.if-k-gt-CUTS.false _ _ has c.if-kept.false c.if-list-k.false c.if-kept-2.true

pub decide-requires : goal.decide-requires
decide-requires c =
    record {
      good = known_good _ c.args.good.is_good;
      size = c.requires;
      few = c.if-k-gt-CUTS.false;
    }

pub slice_bounds-copy-end : goal.slice_bounds-copy-end
slice_bounds-copy-end c = sym (front _ _ _ _ c.if-k-gt-CUTS.false c.in-Some.ensures)

pub copy-requires : goal.copy-requires
copy-requires c =
    omega (arith, front _ _ _ _ c.if-k-gt-CUTS.false c.in-Some.ensures, c.in-Some.ensures.few, c.if-list-k.false)

pub returns-in-Some : goal.returns-in-Some
returns-in-Some c =
    λ capture has. one_found _ _ _ _
    (known_good _ c.args.good.is_good)
    c.if-k-gt-CUTS.false _ _ has
    c.if-kept.false
    c.if-list-k.false
    c.if-kept-2.false _
    c.in-Some.ensures _ c.copy.ensures

pub returns-in_default : goal.returns-in_default
returns-in_default c =
    λ capture has. none_found _ _ _ _ (known_good _ c.args.good.is_good)
    c.if-k-gt-CUTS.false _ _ has c.if-kept.false
    c.if-list-k.false c.if-kept-2.false c.in_default.ensures
