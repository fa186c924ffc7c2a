use native.Mathlib.Omega.{arith}
use Rattle.cycle.proofs.Start.{starting_none, starting_fits, starting_more, starting_done}
use borrow.Author.Rules.{rules}
use Rattle.cycle.proofs.first_records.Goals as goal

pub loop-m-init : goal.loop-m-init
loop-m-init c = starting_none _ _ _ _ c.requires (search rules) (omega (arith, c.links.ensures.is))

pub overflow_add-ps : goal.overflow_add-ps
overflow_add-ps c = omega (arith, starting_fits _ _ _ _ _ c.loop-m.invariant c.loop-m-test.true)

pub overflow_cast-ps : goal.overflow_cast-ps
overflow_cast-ps c = omega (arith, starting_fits _ _ _ _ _ c.loop-m.invariant c.loop-m-test.true)

pub overflow_cast-ps-in-loop-m : goal.overflow_cast-ps-in-loop-m
overflow_cast-ps-in-loop-m c =
    omega (arith, starting_fits _ _ _ _ _ c.loop-m.invariant c.loop-m-test.true, c.place_count.ensures.is)

pub after_message-at-requires : goal.after_message-at-requires
after_message-at-requires c = omega (arith, starting_fits _ _ _ _ _ c.loop-m.invariant c.loop-m-test.true)

pub loop-m-preserved : goal.loop-m-preserved
loop-m-preserved c =
    starting_more _ _ _ _ _ c.loop-m.invariant c.loop-m-test.true _ _ c.place_count.ensures.is c.after_message-at.ensures.is

pub returns : goal.returns
returns c = starting_done _ _ _ _ _ c.loop-m.invariant c.loop-m-test.false
