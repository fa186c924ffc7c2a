-- `probe_dispatch::answer` meets its contract: the numbers are those of the line, and the question is the one that it is.
use native.Mathlib.Omega.{arith}
use mathlib.Core.Path.{sym, ◌∙◌, ap}
use lib.ListN.{length}
use lib.Seq.{length-take-le}
use Rattle.probe_dispatch.specs.Line.{numbers_in}
use Rattle.probe_dispatch.proofs.Laws.{numbers-are, answered}
use Rattle.probe_dispatch.proofs.answer.Goals as goal

pub slice_bounds-asked-end-2 : goal.slice_bounds-asked-end-2
slice_bounds-asked-end-2 c =
    let numbers = c.numbers-n in
    let few = numbers.ensures.few in
    let same = numbers.auto.into in
    sym (length-take-le numbers.result numbers.new.into (omega arith))

pub returns : goal.returns
returns c =
    let a = c.args in
    let line = a.line.now in
    let size = length a.given.now in
    let numbers = c.numbers-n in
    answered c.which-question.result line _ size (length a.lent.now) (length a.file.now) c.which-question.ensures
    (numbers-are line _ a.given.now numbers.new.into numbers.result numbers.ensures
    ∙ ap (numbers_in size line) (ap length c.word.ensures))
    c.asked.ensures
