-- `forms::unpack` meets its contract: the edition, the walk of `fill`, and what `ends` says of the rest. Assumes nothing.
use mathlib.Core.Path.{refl, sym, ◌∙◌, ap}
use native.Mathlib.Omega.{arith}
use Rattle.scope.specs.Outcome.{Outcome, and_then, outcome_of, refuse}
use Rattle.scope.specs.Bits.{bits}
use Rattle.scope.specs.File.{ends_at}
use Rattle.forms.proofs.Whole.{empty_file, other-edition, file_opens, end-inside, with_answer}
use Rattle.forms.proofs.unpack.Goals as goal

pub returns-then-file-eq0 : goal.returns-then-file-eq0
returns-then-file-eq0 c =
    empty_file c.args.file.now c.args.row.now _
    c.if-file-eq0.true c.requires c.refuse.ensures refl

pub returns-then-field-ne1 : goal.returns-then-field-ne1
returns-then-field-ne1 c =
    let file = c.args.file.now in
    let some = c.if-file-eq0.false in
    let filled = c.fill-filled.ensures in
    with_answer file _ _ _ (refuse 1 0) _ _ filled
    (other-edition file some (λ e. c.if-field-ne1.true (c.field.ensures.is ∙ e)))
    c.refuse-then-field-ne1.ensures refl

pub ends-answer-requires : goal.ends-answer-requires
ends-answer-requires c =
    let file = c.args.file.now in
    let some = c.if-file-eq0.false in
    let filled = c.fill-filled.ensures in
    let inside = end-inside file some _ (sym filled.answer ∙ ap outcome_of c.in-Ok.is) in
    (inside.0, omega (arith, inside.1))

pub returns-in-Ok : goal.returns-in-Ok
returns-in-Ok c =
    let file = c.args.file.now in
    let some = c.if-file-eq0.false in
    let filled = c.fill-filled.ensures in
    let walked = sym filled.answer ∙ ap outcome_of c.in-Ok.is in
    let opens = file_opens file some
    (sym c.field.ensures.is ∙ c.if-field-ne1.false) in
    with_answer file _ _ _ _ _ _ filled (opens ∙ ap (λ (o : Outcome). and_then o (ends_at (bits file))) walked) c.ends-answer.ensures refl

pub returns-in-Err : goal.returns-in-Err
returns-in-Err c =
    let file = c.args.file.now in
    let some = c.if-file-eq0.false in
    let filled = c.fill-filled.ensures in
    let walked = sym filled.answer ∙ ap outcome_of c.in-Err.is in
    let opens = file_opens file some (sym c.field.ensures.is ∙ c.if-field-ne1.false) in
    with_answer file _ _ _ _ _ _ filled (opens ∙ ap (λ (o : Outcome). and_then o (ends_at (bits file))) walked) refl refl
