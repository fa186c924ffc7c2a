-- `Position::act_first` meets its contract: one law of proofs/Steps for each kind. Assumes nothing.
use native.Mathlib.Omega.{arith}
use Rattle.step.proofs.Steps as law
use Rattle.step.proofs.Position.act_first.Goals as goal

pub returns-then-down : goal.returns-then-down
returns-then-down c =
    let a = c.args in
    record {
      is = law.first-stays a.row.now a.self c.requires.1 c.requires.0 a.slot.0 _ c.requires.3 a.down c.if-down.true;
      within = omega arith;
    }

pub returns-then-place_slot-slot : goal.returns-then-place_slot-slot
returns-then-place_slot-slot c =
    let a = c.args in
    record {
      is =
          law.first-crosses a.row.now a.self c.requires.1 c.requires.0 a.slot.0 _ c.requires.3 a.down c.if-down.false
          _ c.place_slot.ensures.is c.if-place_slot-slot.true _ c.past_place-next.ensures.is;
      within = c.past_place-next.ensures.within;
    }

pub returns-else-place_slot-slot : goal.returns-else-place_slot-slot
returns-else-place_slot-slot c =
    let a = c.args in
    record {
      is =
          law.first_waits a.row.now a.self c.requires.1 c.requires.0 a.slot.0 _ c.requires.3 a.down c.if-down.false
          _ c.place_slot.ensures.is c.if-place_slot-slot.false;
      within = omega arith;
    }
