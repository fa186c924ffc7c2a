-- `strips::strip_message` meets its contract: whoever strips of the places left has stripped of all. Assumes nothing.
use Rattle.std.proofs.Common.{arith}
use Rattle.strips.proofs.Strips.{stripping_may, stripping_more, stripping_done}
use Rattle.strips.proofs.strip_message.Goals as goal

pub strip_place-at-requires : goal.strip_place-at-requires
strip_place-at-requires c = (
  omega (
    arith,
    c.loop-k.invariant.small,
    c.loop-k-test.true,
    c.place_count-n.ensures.small,
    c.requires.0,
  ),
  stripping_may _ _ _ _ _ _ c.requires.1 _ _ _ _ _
      c.loop-k.invariant c.loop-k-test.true,
)

pub loop-k-preserved : goal.loop-k-preserved
loop-k-preserved c =
    stripping_more _ _ _ _ _ _
    c.requires.1 _ _ _ _ _
    c.loop-k.invariant
    c.loop-k-test.true _ _ _
    c.strip_place-at.ensures

pub returns : goal.returns
returns c =
    stripping_done _ _ _ _ _ _ c.requires.1 _ _ _ _ _ c.loop-k.invariant
    c.loop-k-test.false c.place_count-n.ensures.small
