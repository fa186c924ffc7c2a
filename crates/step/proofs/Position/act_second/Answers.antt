-- `Position::act_second` meets its contract: one law of proofs/Steps for each kind. Assumes nothing.
use native.Mathlib.Omega.{arith}
use Rattle.step.proofs.Steps as law
use Rattle.step.proofs.Position.act_second.Goals as goal

pub overflow_add-next : goal.overflow_add-next
overflow_add-next c =
    let w = law.second-within c.args.row.now c.args.self c.requires.1 c.requires.0 in
    omega (arith, w, c.requires)

pub returns-then-down : goal.returns-then-down
returns-then-down c =
    let a = c.args in
    record {
      is = law.second-stays a.row.now a.self c.requires.1 c.requires.0 a.entry a.first a.m _ c.requires.3 a.down
          c.if-down.true;
      within = omega arith;
    }

pub returns-then-entry-gt0 : goal.returns-then-entry-gt0
returns-then-entry-gt0 c =
    let a = c.args in
    record {
      is =
          law.second-table a.row.now a.self c.requires.1 c.requires.0 a.entry a.first a.m _ c.requires.3 a.down
          c.if-down.false c.if-entry-gt0.true;
      within = omega arith;
    }

pub returns-then-first-m : goal.returns-then-first-m
returns-then-first-m c =
    let a = c.args in
    record {
      is =
          law.second_held a.row.now a.self c.requires.1 c.requires.0 a.entry a.first a.m _ c.requires.3 a.down
          c.if-down.false c.if-entry-gt0.false c.if-first-m.true;
      within = omega arith;
    }

pub returns-else-first-m : goal.returns-else-first-m
returns-else-first-m c =
    let a = c.args in
    record {
      is =
          law.second-crosses a.row.now a.self c.requires.1 c.requires.0 a.entry a.first a.m _ c.requires.3 a.down
          c.if-down.false c.if-entry-gt0.false c.if-first-m.false;
      within = law.second-within a.row.now a.self c.requires.1 c.requires.0;
    }
