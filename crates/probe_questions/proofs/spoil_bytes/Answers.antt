-- `probe_questions::spoil_bytes` meets its contract: the line is told of a spoilt buffer, if there is one.
use Rattle.std.proofs.Common.{◌≡◌, ℕ, List, refl, sym, ap, ◌∙◌, replicate, set}
use lib.Seq.{set_out}
use Rattle.scope.specs.Outcome.{gives}
use Rattle.probe_words.specs.Words.{filler}
use Rattle.probe_lines.specs.Answers.{told_bytes}
use Rattle.probe_questions.proofs.Lines.{puts_as}
use Rattle.probe_questions.proofs.Lent.{enough}
use Rattle.probe_questions.proofs.spoil_bytes.Goals as goal
use Rattle.probe_questions.proofs.spoil_bytes.Goals.{then-index-lt-MARGIN, else-index-lt-MARGIN}

pub returns : goal.returns
returns c =
    let lent = c.in-Some.ensures in
    let spoilt : c.if-index-lt-MARGIN.lent ≡ set (replicate 16 filler) c.args.index 0 =
    elim c.if-index-lt-MARGIN.branch [
      | then-index-lt-MARGIN w ↦ w.lent-is ∙ ap (λ (s : List ℕ). set s c.args.index 0) lent.1
      | else-index-lt-MARGIN w ↦ w.lent-is ∙ lent.1 ∙ sym (set_out (replicate 16 filler) c.args.index 0 w.if-index-lt-MARGIN.false)
    ]
    in
    puts_as (ap (told_bytes (gives 0)) spoilt ∙ enough _ _ _ _ refl lent.0) c.told_bytes.ensures
