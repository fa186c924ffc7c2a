-- `probe_questions::told_found` meets its contract: one line for each case.
use Rattle.probe_questions.proofs.Lines.{puts_as, found_as, found_within}
use Rattle.probe_questions.proofs.told_found.Goals as goal

pub returns-in-Ok-None : goal.returns-in-Ok-None
returns-in-Ok-None c = puts_as (found_as _ _ _ (found_within c.in-Ok-None.field-0 c.in-Ok-None.is (rw c.in-Ok-None.is at c.in-Ok-None.field-0-is))) c.told_none.ensures

pub returns-in-Ok-Some : goal.returns-in-Ok-Some
returns-in-Ok-Some c = puts_as (found_as _ _ _ (found_within c.in-Ok-Some.field-0 c.in-Ok-Some.is (rw c.in-Ok-Some.is at c.in-Ok-Some.field-0-is))) c.told_list.ensures

pub returns-in-Err : goal.returns-in-Err
returns-in-Err c = puts_as (found_as _ _ _ c.in-Err.is) c.told.ensures
