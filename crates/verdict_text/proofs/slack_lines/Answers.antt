-- `verdict_text::slack_lines` meets its contract: what the loop has left are the lines of the messages from m on.
use native.Mathlib.Omega.{arith}
use Rattle.text.proofs.Laid.{left-first, left_is, left-told, left-more, left-done}
use Rattle.verdict_text.proofs.Slacks.{messages-more, messages-done, below, below_all}
use Rattle.verdict_text.proofs.Room.{slacks_told}
use Rattle.plan.proofs.Ways.{known_good}
use Rattle.verdict_text.proofs.slack_lines.Goals as goal

pub loop-m-init : goal.loop-m-init
loop-m-init c = left-first _ _ _

pub message_slacks-next-requires : goal.message_slacks-next-requires
message_slacks-next-requires c = (
  omega (arith, c.messages-count.ensures.is, c.loop-m-test.true),
  left-told _ _ (slacks_told _ (known_good _ c.args.good.is_good) _ c.requires)
      (left_is (messages-more _ _ (below _ _ _ c.messages-count.ensures.is c.loop-m-test.true))
      c.loop-m.invariant),
)

pub loop-m-preserved : goal.loop-m-preserved
loop-m-preserved c =
    left-more (left_is (messages-more _ _ (below _ _ _ c.messages-count.ensures.is
    c.loop-m-test.true)) c.loop-m.invariant)
    c.message_slacks-next.ensures

pub returns : goal.returns
returns c = left-done (left_is (messages-done _ _ (below_all _ _ _ c.messages-count.ensures.is c.loop-m-test.false))
    c.loop-m.invariant)
