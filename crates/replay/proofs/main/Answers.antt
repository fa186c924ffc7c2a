-- `replay::main` is safe: what is printed is the text of what came, in whole buffers.
use Rattle.std.proofs.Common.{rules}
use Rattle.replay.proofs.main.Goals as goal

pub text-answer-requires : goal.text-answer-requires
text-answer-requires c =
    record { came = (search rules, c.in-Some.ensures.0); plan_len = (search rules, search rules, search rules) }
