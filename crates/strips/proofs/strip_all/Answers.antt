-- `strips::strip_all` meets its contract: the messages below message m are done. Assumes nothing.
use Rattle.strips.proofs.Strips.{stripping_all_none, near, may-strip, may-pass, stripping_all_more, stripping_all_done}
use Rattle.strips.proofs.strip_all.Goals as goal

pub loop-m-init : goal.loop-m-init
loop-m-init c =
    stripping_all_none _ _ c.requires.good
    c.requires.counted.bytes _ c.messages-n.ensures.is _ _ _ _
    c.message_index-at.ensures c.requires

pub strip_message-at-requires : goal.strip_message-at-requires
strip_message-at-requires c = (
  near _ _ c.requires.good c.requires.counted.bytes _ c.messages-n.ensures.is _ _ _ _ _ c.loop-m.invariant
      c.loop-m-test.true,
  may-strip _ _ c.requires.good c.requires.counted.bytes _
      c.messages-n.ensures.is _ _ _ _ _ c.loop-m.invariant c.loop-m-test.true,
)

pub pass-requires : goal.pass-requires
pass-requires c = (
  (may-strip _ _ c.requires.good c.requires.counted.bytes _ c.messages-n.ensures.is _ _ _ _ _
      c.loop-m.invariant c.loop-m-test.true).message,
  may-pass _ _ c.requires.good c.requires.counted.bytes _ c.messages-n.ensures.is _ _ _ _ _ c.loop-m.invariant
      c.loop-m-test.true,
)

pub loop-m-preserved : goal.loop-m-preserved
loop-m-preserved c =
    stripping_all_more _ _ c.requires.good c.requires.counted.bytes _ c.messages-n.ensures.is _ _ _ _ _ c.loop-m.invariant
    c.loop-m-test.true _ _ _ _
    c.strip_message-at.ensures c.pass.ensures

pub returns : goal.returns
returns c =
    stripping_all_done _ _ c.requires.good
    c.requires.counted.bytes _
    c.messages-n.ensures.is _ _ _ _ _ c.loop-m.invariant c.loop-m-test.false
