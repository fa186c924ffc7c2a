-- `probe_words::numbers` meets its contract: one law for each way.
use Rattle.std.proofs.Common.{rules}
use Rattle.probe_words.specs.Words.{number_value, number_next}
use Rattle.probe_words.proofs.Items.{numbers-good, numbers-bad}
use Rattle.probe_words.proofs.numbers.Goals as goal

pub returns-then-end-line : goal.returns-then-end-line
returns-then-end-line c =
    let line = c.args.line.now in
    let l = c.listed-n.ensures (number_value line) (number_next line) (λ i r p. search rules) in
    numbers-bad _ _ _ _ _ _ l c.if-end-line.true

pub returns-else-end-line : goal.returns-else-end-line
returns-else-end-line c =
    let line = c.args.line.now in
    let l = c.listed-n.ensures (number_value line) (number_next line) (λ i r p. search rules) in
    numbers-good _ _ _ _ _ _ l c.if-end-line.false
