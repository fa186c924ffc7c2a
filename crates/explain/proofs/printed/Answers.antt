-- `explain::printed` meets its contract: the text, or the line of its refusal.
use Rattle.explain_text.proofs.Theorems.{prints_given, prints-refused}
use Rattle.plan.proofs.Ways.{known_good}
use Rattle.explain.proofs.printed.Goals as goal

pub returns-in-Ok : goal.returns-in-Ok
returns-in-Ok c = λ capture keeps.
    prints_given _ capture _ _ (known_good _ c.args.good.is_good) _ c.requires.1 (c.say.ensures capture keeps) _ c.in-Ok.is

pub returns-in-Err : goal.returns-in-Err
returns-in-Err c = λ capture keeps.
    prints-refused _ capture _ _ (known_good _ c.args.good.is_good) _ c.requires.1 (c.say.ensures capture keeps) _ c.in-Err.is
    c.refusal_text.ensures
