-- `explaining::first_list` meets its contract: no list of fewer pairs matches.
use native.Mathlib.Omega.{arith}
use Rattle.explaining.proofs.Hunting.{may-ask, hunt_none, hunt_empty, hunt_first, may-seek, hunt_some, hunt_on, hunt_over}
use Rattle.explaining.proofs.first_list.Goals as goal

pub suspect-requires : goal.suspect-requires
suspect-requires c = may-ask _ _ _ _ _ _ c.requires _ c.no_pair-p.ensures

pub returns-in_err-v : goal.returns-in_err-v
returns-in_err-v c =
    rw c.from_residual.ensures (hunt_over _ _ _ _ (hunt_none _ _ c.args.z _ _ c.no_pair-p.ensures c.in_err-v.ensures) (omega arith))

pub returns-then-v-eq0 : goal.returns-then-v-eq0
returns-then-v-eq0 c =
    hunt_empty _ _ _ _ _ _ c.requires _ _ c.no_pair-p.ensures c.in_ok-v.ensures c.if-v-eq0.true

pub loop-n-init : goal.loop-n-init
loop-n-init c = (hunt_first _ _ c.args.z _ _ _ c.in_ok-v.ensures c.no_pair-p.ensures, omega arith)

pub level-requires : goal.level-requires
level-requires c =
    may-seek _ _ _ _ _ _ c.requires _ _ _ _ c.no_pair-p.ensures c.in_ok-v.ensures c.loop-n.invariant.1 (omega arith)
    c.last_seen-last.ensures

pub returns-in-Some : goal.returns-in-Some
returns-in-Some c =
    hunt_some _ _ _ _ _ _ c.requires _ c.loop-n.invariant.0 _ c.no_pair-p.ensures (omega arith) _ c.in-Some.ensures

pub loop-n-preserved : goal.loop-n-preserved
loop-n-preserved c = (
  hunt_on _ _ _ _ _ _ c.requires _ c.loop-n.invariant.0 _ c.no_pair-p.ensures (omega arith) c.in_default.ensures,
  omega (arith, c.loop-n.invariant.1),
)

pub returns-in_default : goal.returns-in_default
returns-in_default c =
    hunt_over _ _ _ _ (hunt_on _ _ _ _ _ _ c.requires _ c.loop-n.invariant.0 _ c.no_pair-p.ensures (omega arith) c.in_default.ensures)
    (omega arith)
