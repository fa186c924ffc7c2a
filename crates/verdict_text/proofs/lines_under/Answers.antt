-- `verdict_text::lines_under` meets its contract: the answers for a good row say the verdict for every l, and their lines are those under k.
use borrow.Author.Rules.{rules}
use Rattle.verdict_text.proofs.Room.{answers-told, answers_lay}
use Rattle.plan.proofs.Ways.{known_good}
use Rattle.verdict_text.proofs.lines_under.Goals as goal

pub lines-requires : goal.lines-requires
lines-requires c =
    answers-told _ (known_good _ c.args.good.is_good) _ _ c.requires.0 c.messages.ensures.is _ _ _ (search rules) (search rules)
    c.answers_good.ensures _ c.requires.1

pub returns : goal.returns
returns c =
    answers_lay _ (known_good _ c.args.good.is_good) _ _ c.requires.0 c.messages.ensures.is _ _ _ (search rules) (search rules)
    c.answers_good.ensures c.lines.ensures
