-- `verdicts::verdict_good` meets its contract, one law for each answer.
use mathlib.Core.Path.{sym}
use native.Mathlib.Omega.{arith}
use Rattle.verdicts.proofs.Ways.{k_too_large, l_too_large, may-ask, too_short, resists, front, fails}
use Rattle.plan.proofs.Ways.{known_good}
use Rattle.verdicts.proofs.verdict_good.Goals as goal

pub returns-then-k-gt-CUTS : goal.returns-then-k-gt-CUTS
returns-then-k-gt-CUTS c = k_too_large _ _ _ _ (known_good _ c.args.good.is_good) _ c.if-k-gt-CUTS.true c.refusal_at.ensures

pub returns-then-messages-l : goal.returns-then-messages-l
returns-then-messages-l c =
    l_too_large _ _ _ _ (known_good _ c.args.good.is_good) _ _ c.messages.ensures.is
    c.if-messages-l.true c.refusal_at-then-messages-l.ensures

pub returns-then-list-k : goal.returns-then-list-k
returns-then-list-k c =
    too_short _ _ _ _ (known_good _ c.args.good.is_good) _ c.messages.ensures.is
    c.if-k-gt-CUTS.false c.if-messages-l.false _ c.if-list-k.true c.refusal_at-then-list-k.ensures

pub decide-hunted-requires : goal.decide-hunted-requires
decide-hunted-requires c =
    may-ask _ _ _ c.args.list.now
    (known_good _ c.args.good.is_good) _ c.messages.ensures.is
    c.if-k-gt-CUTS.false c.if-messages-l.false

pub slice_bounds-copy-end : goal.slice_bounds-copy-end
slice_bounds-copy-end c =
    sym
    (front _ _ _ c.args.list.now
    (known_good _ c.args.good.is_good) _
    c.messages.ensures.is
    c.if-k-gt-CUTS.false c.if-messages-l.false
    c.if-list-k.false _ c.in-Some.ensures)

pub copy-requires : goal.copy-requires
copy-requires c =
    omega (
      arith,
      front _ _ _ c.args.list.now
          (known_good _ c.args.good.is_good) _
          c.messages.ensures.is
          c.if-k-gt-CUTS.false
          c.if-messages-l.false c.if-list-k.false _
          c.in-Some.ensures,
      c.in-Some.ensures.few,
      c.if-list-k.false,
    )

pub returns-in-Some : goal.returns-in-Some
returns-in-Some c =
    fails _ _ _ _ (known_good _ c.args.good.is_good) _
    c.messages.ensures.is
    c.if-k-gt-CUTS.false
    c.if-messages-l.false
    c.if-list-k.false _
    c.in-Some.ensures _ c.copy.ensures

pub returns-in_default : goal.returns-in_default
returns-in_default c =
    resists _ _ _ _ (known_good _ c.args.good.is_good) _
    c.messages.ensures.is c.if-k-gt-CUTS.false
    c.if-messages-l.false c.if-list-k.false c.in_default.ensures
