-- `forms::ends` meets its contract: in the last byte the bits after the last field say 0, and no byte follows. Assumes nothing.
use mathlib.Core.Path.{◌≡◌, sym, ◌∙◌}
use native.Mathlib.Omega.{arith}
use lib.ListN.{length}
use Rattle.scope.specs.File.{whole_bytes}
use Rattle.forms.proofs.Tail.{ends_more, ends_zero, ends_one}
use Rattle.forms.proofs.ends.Goals as goal

pub returns-then-n-file : goal.returns-then-n-file
returns-then-n-file c =
    let file = c.args.file.now in
    let end = c.args.end in
    c.refuse.ensures ∙ sym (ends_more file end c.if-n-file.true)

pub returns-then-field-eq0 : goal.returns-then-field-eq0
returns-then-field-eq0 c =
    let file = c.args.file.now in
    let end = c.args.end in
    let same : whole_bytes end ≡ length file = omega (arith, c.requires.0, c.if-n-file.false) in
    sym (ends_zero file end same (sym c.field.ensures.is ∙ c.if-field-eq0.true))

pub returns-else-field-eq0 : goal.returns-else-field-eq0
returns-else-field-eq0 c =
    let file = c.args.file.now in
    let end = c.args.end in
    let same : whole_bytes end ≡ length file = omega
    (arith, c.requires.0, c.if-n-file.false) in
    c.refuse-else-field-eq0.ensures ∙ sym (ends_one file end same (λ z. c.if-field-eq0.false (c.field.ensures.is ∙ z)))
