-- The walk: `in_slot` goes over the links of a slot and calls `level` with one pair more, and `level` goes over the slots. The pairs still to
-- come fall from `level` to `level`.
use mathlib.Core.Path.{sym, ◌∙◌}
use native.Mathlib.Omega.{arith}
use Rattle.explaining.proofs.Levels.{looks_over, may-suspect, may_go_on, looks_some, looks_on, looks_done}
use Rattle.explaining.proofs.Levels.{no_more_pairs, climbs_first, may_look_in, may_look, climbs_over, climbs_some}
use Rattle.explaining.proofs.Levels.{climbs_stop, climbs_on}
use Rattle.explaining.proofs.+in_slot_level.Goals as goal
use Rattle.explaining.proofs.+in_slot_level.Goals.{in_slot-then-open+in-Some+in_default-level, in_slot-then-open+in_default, in_slot-else-open}

pub in_slot-suspect-requires : goal.in_slot-suspect-requires
in_slot-suspect-requires t c =
    may-suspect _ _ _ _ _ _ _ _ _ _ _ _ c.requires _ c.loop-i.invariant c.loop-i-test.true (sym c.open.ensures ∙ c.if-open.true) _ c.pick-q.ensures

pub in_slot-level-requires : goal.in_slot-level-requires
in_slot-level-requires t c =
    let may = c.requires in (
      omega (arith, may.some),
      may_go_on _ _ _ _ _ _ _ _ _ _ _ _ may _ c.loop-i.invariant c.loop-i-test.true (sym c.open.ensures ∙ c.if-open.true) _ _
          c.pick-q.ensures c.in-Some.ensures,
    )

pub in_slot-returns-in-Some-level : goal.in_slot-returns-in-Some-level
in_slot-returns-in-Some-level t c =
    looks_some _ _ _ _ _ _ _ _ _ _ _ _ c.requires _ c.loop-i.invariant c.loop-i-test.true (sym c.open.ensures ∙ c.if-open.true) _
    c.pick-q.ensures _ c.in-Some-level.ensures

pub in_slot-loop-i-preserved : goal.in_slot-loop-i-preserved
in_slot-loop-i-preserved t c =
    let may = c.requires in
    let inv = c.loop-i.invariant in
    let low = c.loop-i-test.true in
    elim c.if-open.branch [
      | in_slot-then-open+in-Some+in_default-level w ↦
          looks_on _ _ _ _ _ _ _ _ _ _ _ _ may _ inv low (sym c.open.ensures ∙ w.if-open.true) _ w.pick-q.ensures
          w.in_default-level.ensures
      | in_slot-then-open+in_default w ↦
          looks_on _ _ _ _ _ _ _ _ _ _ _ _ may _ inv low (sym c.open.ensures ∙ w.if-open.true) _ w.pick-q.ensures
          (w.in_default.ensures _ (omega arith))
      | in_slot-else-open w ↦ looks_over _ _ _ _ _ _ _ _ _ _ _ _ may _ inv low (sym c.open.ensures ∙ w.if-open.false)
    ]

pub in_slot-returns : goal.in_slot-returns
in_slot-returns t c = looks_done _ _ _ _ _ _ _ _ _ _ _ _ c.requires _ c.loop-i.invariant c.loop-i-test.false

pub level-returns-then-n-eq0 : goal.level-returns-then-n-eq0
level-returns-then-n-eq0 t c = no_more_pairs _ _ _ _ _ _ _ _ _ c.requires c.if-n-eq0.true

pub level-loop-s-init : goal.level-loop-s-init
level-loop-s-init t c = climbs_first _ _ _ _ _ _ _ _ _ c.requires c.if-n-eq0.false

pub level-in_slot-requires : goal.level-in_slot-requires
level-in_slot-requires t c =
    let may = c.requires in
    (omega arith, may_look_in _ _ _ _ _ _ _ _ _ may c.if-n-eq0.false _ _ _ c.loop-s.invariant c.loop-s-test.true)

pub level-returns-in-Some : goal.level-returns-in-Some
level-returns-in-Some t c =
    climbs_some _ _ _ _ _ _ _ _ _ c.requires c.if-n-eq0.false _ _ _ c.loop-s.invariant _ c.in-Some.ensures

pub level-look-requires : goal.level-look-requires
level-look-requires t c =
    may_look _ _ _ _ _ _ _ _ _ c.requires c.if-n-eq0.false _ _ _ c.loop-s.invariant c.loop-s-test.true

pub level-returns-in_default-look : goal.level-returns-in_default-look
level-returns-in_default-look t c =
    climbs_stop _ _ _ _ _ _ _ _ _ c.requires c.if-n-eq0.false _ _ _ c.loop-s.invariant c.in_default.ensures c.loop-s-test.true _
    c.look.ensures c.in_default-look.not-Nothing

pub level-loop-s-preserved : goal.level-loop-s-preserved
level-loop-s-preserved t c =
    climbs_on _ _ _ _ _ _ _ _ _ c.requires c.if-n-eq0.false _ _ _ c.loop-s.invariant c.in_default.ensures c.loop-s-test.true _
    c.look.ensures _ c.in-Nothing.is

pub level-returns : goal.level-returns
level-returns t c =
    climbs_over _ _ _ _ _ _ _ _ _ c.requires c.if-n-eq0.false _ _ _ c.loop-s.invariant c.loop-s-test.false
