-- A line has one answer.
use Prim.Native.Nat.{ℕ}
use mathlib.Core.Path.{◌≡◌, sym, ◌∙◌}
use mathlib.Core.List.{List}
use lib.ListN.{length}
use Rattle.probe_questions.proofs.Once.{one_verdict, one_explanation}
use Rattle.probe_dispatch.specs.declared.Question.{Question}
use Rattle.probe_dispatch.specs.declared.Question.TheVariants.{Read, Write, Replay, Verdict, Explain, Figures, Figure, Slack}
use Rattle.probe_dispatch.specs.declared.Question.TheVariants.{Second, Where, Spoil, Unknown}
use Rattle.probe_dispatch.specs.Line.{word_of, question_of, numbers_in, Says, Answers}

one_saying : (q : Question) (line given : List ℕ) (lent file : ℕ) (said said' : List ℕ) → Says q line given lent file said →
    Says q line given lent file said' → said ≡ said'
one_saying Read line given lent file said said' a b = a ∙ sym b
one_saying Write line given lent file said said' a b = a ∙ sym b
one_saying Replay line given lent file said said' a b = a ∙ sym b
one_saying Verdict line given lent file said said' a b = one_verdict lent given said said' a b
one_saying Explain line given lent file said said' a b = one_explanation lent given said said' a b
one_saying Figures line given lent file said said' a b = a ∙ sym b
one_saying Figure line given lent file said said' a b = a ∙ sym b
one_saying Slack line given lent file said said' a b = a ∙ sym b
one_saying Second line given lent file said said' a b = a ∙ sym b
one_saying Where line given lent file said said' a b = a ∙ sym b
one_saying Spoil line given lent file said said' a b = a ∙ sym b
one_saying Unknown line given lent file said said' a b = a ∙ sym b

pub one_answer : (line : List ℕ) (given lent file : ℕ) (said said' : List ℕ) → Answers line given lent file said →
    Answers line given lent file said' → said ≡ said'
one_answer line given lent file said said' a b =
    one_saying (question_of line) line (numbers_in given line (length (word_of (question_of line)))) lent file said said' a b
