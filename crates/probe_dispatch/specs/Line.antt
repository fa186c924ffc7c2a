-- A line of the probe: which question it is, and what is answered. The lengths of what is lent stand in it: as many numbers of a line are read
-- as `given` has room for, and as many bytes as `file` has.
use Rattle.std.specs.Prelude.{ℕ, ◌≡◌, cond, ◌&&◌, List, [], ◌∷◌, length}
use Rattle.text.specs.Reading.{stands}
use Rattle.probe_words.specs.Words.{is_number, number_next, number_value, numbers_from, are_all, last_word, is_bytes, bytes_in}
use Rattle.probe_lines.specs.Answers.{unknown_line}
use Rattle.probe_questions.specs.declared.OfPlace.TheVariants as OfPlace·
use Rattle.probe_questions.specs.Asked.{read_answer, write_answer, replay_answer, Judges, Explains, figures_answer, figure_answer}
use Rattle.probe_questions.specs.Asked.{place_answer, spoil_answer}
use Rattle.probe_dispatch.specs.declared.Question.{Question}
use Rattle.probe_dispatch.specs.declared.Question.TheVariants.{Read, Write, Replay, Verdict, Explain, Figures, Figure, Slack}
use Rattle.probe_dispatch.specs.declared.Question.TheVariants.{Second, Where, Spoil, Unknown}

-- the word that a question begins with: read, write, replay, verdict, explain, figures, figure, slack, second, where, spoil
abbrev pub word_of : Question → List ℕ
word_of Read = 114 ∷ 101 ∷ 97 ∷ 100 ∷ []
word_of Write = 119 ∷ 114 ∷ 105 ∷ 116 ∷ 101 ∷ []
word_of Replay = 114 ∷ 101 ∷ 112 ∷ 108 ∷ 97 ∷ 121 ∷ []
word_of Verdict = 118 ∷ 101 ∷ 114 ∷ 100 ∷ 105 ∷ 99 ∷ 116 ∷ []
word_of Explain = 101 ∷ 120 ∷ 112 ∷ 108 ∷ 97 ∷ 105 ∷ 110 ∷ []
word_of Figures = 102 ∷ 105 ∷ 103 ∷ 117 ∷ 114 ∷ 101 ∷ 115 ∷ []
word_of Figure = 102 ∷ 105 ∷ 103 ∷ 117 ∷ 114 ∷ 101 ∷ []
word_of Slack = 115 ∷ 108 ∷ 97 ∷ 99 ∷ 107 ∷ []
word_of Second = 115 ∷ 101 ∷ 99 ∷ 111 ∷ 110 ∷ 100 ∷ []
word_of Where = 119 ∷ 104 ∷ 101 ∷ 114 ∷ 101 ∷ []
word_of Spoil = 115 ∷ 112 ∷ 111 ∷ 105 ∷ 108 ∷ []
word_of Unknown = []

-- which of them a line is: the first whose word it begins with, so that `figures` comes before `figure`
abbrev pub questions : List Question
questions = Read ∷ Write ∷ Replay ∷ Verdict ∷ Explain ∷ Figures ∷ Figure ∷ Slack ∷ Second ∷ Where ∷ Spoil ∷ []

abbrev pub first_of : List ℕ → List Question → Question
first_of line [] = Unknown
first_of line (q ∷ qs) = cond (stands line 0 (word_of q)) q (first_of line qs)

abbrev pub question_of : List ℕ → Question
question_of line = first_of line questions

-- the numbers of a line from an index to its end, each behind one space; none where the line has anything else
abbrev pub numbers_in : ℕ → List ℕ → ℕ → List ℕ
numbers_in room line from = cond (are_all room line from) (numbers_from room line from) []

-- `read ROOM HEX`
abbrev pub read_asked : ℕ → ℕ → List ℕ → List ℕ
read_asked lent file line =
    cond (is_number line 4 && is_bytes file (last_word line (number_next line 4)))
    (read_answer lent (bytes_in file (last_word line (number_next line 4))) (number_value line 4))
    unknown_line

-- what is said to a question with these numbers behind its word
abbrev pub Says : Question → List ℕ → List ℕ → ℕ → ℕ → List ℕ → Type 0
Says Read line given lent file said = said ≡ read_asked lent file line
Says Write line given lent file said = said ≡ write_answer file given
Says Replay line given lent file said = said ≡ replay_answer lent given
Says Verdict line given lent file said = Judges lent given said
Says Explain line given lent file said = Explains lent given said
Says Figures line given lent file said = said ≡ figures_answer lent given
Says Figure line given lent file said = said ≡ figure_answer given
Says Slack line given lent file said = said ≡ place_answer OfPlace·.Slack given
Says Second line given lent file said = said ≡ place_answer OfPlace·.Second given
Says Where line given lent file said = said ≡ place_answer OfPlace·.Where given
Says Spoil line given lent file said = said ≡ spoil_answer lent file given
Says Unknown line given lent file said = said ≡ unknown_line

-- what is said to a line
abbrev pub Answers : List ℕ → ℕ → ℕ → ℕ → List ℕ → Type 0
Answers line given lent file said =
    Says (question_of line) line (numbers_in given line (length (word_of (question_of line)))) lent file said
