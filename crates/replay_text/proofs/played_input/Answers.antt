-- `replay_text::played_input` meets its contract: the cuts of 65 lines print what the whole input prints.
use mathlib.Core.Path.{sym}
use borrow.Author.Rules.{rules}
use lib.Seq.{length-take-le}
use Rattle.replay_text.proofs.Text.{cuts_fit, input-says}
use Rattle.replay_text.proofs.played_input.Goals as goal

pub slice_bounds-pairs-end : goal.slice_bounds-pairs-end
slice_bounds-pairs-end c = cuts_fit _ _ _ _ c.cuts-n.ensures

pub slice_bounds-played-end : goal.slice_bounds-played-end
slice_bounds-played-end c = sym (length-take-le _ _ (cuts_fit _ _ _ _ c.cuts-n.ensures))

pub returns : goal.returns
returns c =
    input-says c.args.good.row.now (search rules) c.cuts-n.ensures
    c.played.ensures
