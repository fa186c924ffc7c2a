-- `verdict_text::message_slacks` meets its contract: what the loop has left are the lines of the places from p on.
use native.Mathlib.Omega.{arith}
use Rattle.rows.proofs.Walked.{walked}
use Rattle.text.proofs.Laid.{left-first, left_is, left-told, left-more, left-done}
use Rattle.verdict_text.proofs.Slacks.{places_more, places_done, counted, counted-all}
use Rattle.plan.proofs.Ways.{known_good}
use Rattle.verdict_text.proofs.message_slacks.Goals as goal

pub message_index-requires : goal.message_index-requires
message_index-requires c = omega (arith, c.requires.0, (walked _ (known_good _ c.args.good.is_good).form).messages)

pub loop-p-init : goal.loop-p-init
loop-p-init c = left-first _ _ _

pub place_slack-next-requires : goal.place_slack-next-requires
place_slack-next-requires c =
    left-told _ _ c.requires.1 (left_is (places_more _ _ _
    (counted _ _ _ _ _ c.requires.0 c.message_index.ensures.is
    c.place_count-count.ensures.is c.loop-p-test.true)) c.loop-p.invariant)

pub loop-p-preserved : goal.loop-p-preserved
loop-p-preserved c =
    left-more (left_is (places_more _ _ _ (counted _ _ _ _ _ c.requires.0
    c.message_index.ensures.is
    c.place_count-count.ensures.is c.loop-p-test.true))
    c.loop-p.invariant) c.place_slack-next.ensures

pub returns : goal.returns
returns c =
    left-done (left_is (places_done _ _ _ (counted-all _ _ _ _ _ c.requires.0 c.message_index.ensures.is
    c.place_count-count.ensures.is c.loop-p-test.false)) c.loop-p.invariant)
