use Rattle.std.proofs.Common.{refl, arith}
use Rattle.rules.proofs.Laws as law
use Rattle.rules.proofs.message_starts.Goals as goal

pub loop-m-init : goal.loop-m-init
loop-m-init c = law.noting-first c.args.row.now 32 refl c.message_index-at.result c.message_index-at.ensures

pub loop-m-preserved : goal.loop-m-preserved
loop-m-preserved c = let l = c.loop-m in
    law.noting-next c.args.row.now l.m l.at c.after_message-at.result l.starts l.invariant
    (omega (arith, c.loop-m-test.true, c.messages-m-end.ensures.is, c.requires)) c.after_message-at.ensures

pub returns : goal.returns
returns c = let l = c.loop-m in
    law.noting-done c.args.row.now l.m l.at l.starts l.invariant
    (omega (arith, c.loop-m-test.false, c.loop-m.auto.m-end, c.messages-m-end.ensures.is))
