-- `replay_text::played` meets its contract: the listing looks only at the events that the replay wrote.
use borrow.Author.Rules.{rules}
use Rattle.replay_text.proofs.Text.{played_given, played_refused}
use Rattle.scope.proofs.Outcomes.{passed}
use Rattle.listing.specs.Prints.{Says}
use Rattle.replay_text.proofs.played.Goals as goal

pub returns : goal.returns
returns c =
    played_given _ _ _ _ _ (search rules) c.replay_good.ensures _ c.in_ok-n.was
    c.listing.ensures

pub returns-in_err-n : goal.returns-in_err-n
returns-in_err-n c =
    passed (Says _ _ _ _) _ _ c.from_residual.ensures.1
    (played_refused _ _ _ _ _ (search rules) c.replay_good.ensures _
    c.in_err-n.was _)
