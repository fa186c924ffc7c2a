-- `probe_questions::write` meets its contract: the buffer is filled, and the bytes are written to its front.
use Rattle.std.proofs.Common.{refl, ◌∙◌, arith}
use Rattle.std.proofs.Math.Path.{ap₂}
use Rattle.scope.specs.Questions.{write_file}
use Rattle.probe_lines.specs.Answers.{told_bytes}
use Rattle.probe_questions.specs.Asked.{write_line}
use Rattle.probe_questions.proofs.Lines.{puts_as}
use Rattle.probe_questions.proofs.Lent.{all-fits, behind, lent-told}
use Rattle.probe_questions.proofs.write.Goals as goal

pub returns : goal.returns
returns c =
    let lent = c.in-Some.ensures in
    let room = c.number-room.ensures.is in
    puts_as
    (lent-told _ _ _ lent.1 _ (write_file _) _ _ c.write_file-answer.ensures told_bytes
    ∙ ap₂ write_line (behind c.args.given.now 1) room
    ∙ all-fits _ _ _ _ _ _ _ refl room (grind arith) lent.0)
    c.told_bytes.ensures
