-- The answer line of each question, of what the question is asked on, and of the numbers that stand in its line.
use Rattle.std.specs.Prelude.{ℕ, ◌+◌, ◌*◌, ◌≤◌, ◌<◌, ◌≡◌, cond, List, [], ◌++◌, length, take, drop, set, replicate, ℤ, ltb, eqb}
use Rattle.scope.specs.Outcome.{Outcome, gives, refused, result}
use Rattle.scope.specs.Questions.{after, read_file, write_file, replay, figure_of, figures_of, may_spare, slack, second_path}
use Rattle.scope.specs.File.{row_of, file_of}
use Rattle.scope.specs.Lines.{refused_line}
use Rattle.scope.specs.Plan.{at, plan_of, timeout_of, message_count}
use Rattle.scope.specs.Cycle.{event_row}
use Rattle.scope.specs.Game.{figures}
use Rattle.text.specs.Text.{Puts}
use Rattle.plan.specs.Answers.{shown_index}
use Rattle.verdicts.specs.Verdict.{Ruling}
use Rattle.scope.specs.declared.Refusal.{Refusal}
use Rattle.std.specs.Prelude.{Option, Some, None, Result, Ok, Err}
use Rattle.verdicts.specs.Verdict.{Answered}
use Rattle.explanations.specs.Explained.{Explanation}
use Rattle.explanations.specs.Explained as Explained·
use Rattle.probe_words.specs.Words.{filler, filler16}
use Rattle.probe_lines.specs.Answers.{unknown_line, part_line, place_line, slack_line, no_list_line, list_line, told, told_bytes}
use Rattle.probe_lines.specs.Answers.{resistant_word, failing_word, unexplained_word, explained_word}
use Rattle.probe_questions.specs.declared.OfPlace.{OfPlace}
use Rattle.probe_questions.specs.declared.OfPlace.TheVariants.{Slack, Second, Where}

-- a question has at least so many numbers, and a lent buffer has at least such a length; else it is no question
abbrev pub at_least : ℕ → ℕ → List ℕ → List ℕ
at_least least n line = cond (ltb n least) unknown_line line

-- `second`: the links; a part that could not be told, which no row shows, is no answer
abbrev pub part_or_none : List ℕ → List ℕ
part_or_none links = cond (ltb 65536 (length links)) unknown_line (part_line links)

abbrev pub second_line : List ℕ → ℕ → ℕ → List ℕ
second_line row m p = part_or_none (second_path row m p)

-- `where`: the index of the first of them in the row, and how many
abbrev pub where_line : List ℕ → ℕ → ℕ → List ℕ
where_line row m p = place_line (shown_index row m p) (length (second_path row m p))

-- `slack`: the slack, or the refusal
abbrev pub slack_or : Outcome → ℤ → List ℕ
slack_or (gives n) z = slack_line z
slack_or (refused r) z = refused_line r

abbrev pub spare_line : List ℕ → ℕ → ℕ → List ℕ
spare_line row m p = slack_or (may_spare row m p) (slack row m p)

-- MESSAGE PLACE ROW...
abbrev pub of_place : OfPlace → List ℕ → ℕ → ℕ → List ℕ
of_place Slack row m p = spare_line row m p
of_place Second row m p = second_line row m p
of_place Where row m p = where_line row m p

abbrev pub place_answer : OfPlace → List ℕ → List ℕ
place_answer asks given = at_least 2 (length given) (of_place asks (drop 2 given) (at given 0) (at given 1))

-- a lent buffer of so much room with its margin behind it, all filled before the call, after the call
abbrev pub lent_after : Outcome → List ℕ → ℕ → ℕ → List ℕ
lent_after outcome written fill room = after outcome written (replicate room fill) ++ replicate 16 fill

-- an outcome that gives how many numbers it wrote, with these numbers
abbrev pub counted_line : Outcome → List ℕ → ℕ → List ℕ
counted_line outcome written room = told outcome (result outcome) (lent_after outcome written filler16 room)

-- `read`: the numbers of a file; `size` is the length of the buffer
abbrev pub read_line : List ℕ → ℕ → List ℕ
read_line file room = counted_line (read_file file room) (row_of file) room

abbrev pub read_answer : ℕ → List ℕ → ℕ → List ℕ
read_answer size file room = at_least (room + 16) size (read_line file room)

-- `write`, ROOM ROW...: the bytes
abbrev pub write_line : List ℕ → ℕ → List ℕ
write_line row room = told_bytes (write_file row room) (lent_after (write_file row room) (file_of row) filler room)

abbrev pub write_answer : ℕ → List ℕ → List ℕ
write_answer size given = at_least 1 (length given) (at_least (at given 0 + 16) size (write_line (drop 1 given) (at given 0)))

-- `replay`, ROOM C c... ROW...: the events
abbrev pub replay_line : List ℕ → List ℕ → ℕ → List ℕ
replay_line row cuts room =
    told (replay row cuts room) (timeout_of row * (2 * message_count row))
    (lent_after (replay row cuts room) (event_row (plan_of row) cuts) filler16 room)

abbrev pub replay_answer : ℕ → List ℕ → List ℕ
replay_answer size given =
    at_least (at given 1 + 2) (length given)
    (at_least (at given 0 + 16) size (replay_line (drop (at given 1 + 2) given) (take (at given 1) (drop 2 given)) (at given 0)))

-- a list that is found, or none, after a word for each
abbrev pub found_line : List ℕ → List ℕ → Result (Option ℕ) Refusal → List ℕ → List ℕ
found_line none some (Ok None) lent = no_list_line none lent
found_line none some (Ok (Some n)) lent = list_line some n lent
found_line none some (Err r) lent = told (refused r) 0 lent

-- `verdict`, K L ROOM ROW...: of a ruling, and of what the lent list then holds with its margin
abbrev pub ruling_line : Ruling → List ℕ → List ℕ
ruling_line = found_line resistant_word failing_word

pub record Ruled (row : List ℕ) (k l room : ℕ) (line : List ℕ) : Type 0 where
  pub ruling : Ruling
  pub list : List ℕ
  pub answered : Answered row k l (replicate room filler16) list ruling
  pub is : line ≡ ruling_line ruling (list ++ replicate 16 filler16)

-- a question with at least so many numbers and so much room is answered so; with fewer it is none
pub record Asks (least room size : ℕ) (given : List ℕ) (Answer : List ℕ → Type 0) (line : List ℕ) : Type 0 where
  pub few : length given < least → line ≡ unknown_line
  pub short : size < room + 16 → line ≡ unknown_line
  pub asked : least ≤ length given → room + 16 ≤ size → Answer line

abbrev pub Judges : ℕ → List ℕ → List ℕ → Type 0
Judges size given = Asks 3 (at given 2) size given (Ruled (drop 3 given) (at given 0) (at given 1) (at given 2))

-- `explain`, K ROOM COUNT n... ROW...: of an explanation, and of what the lent list then holds with its margin
abbrev pub explanation_line : Explanation → List ℕ → List ℕ
explanation_line = found_line unexplained_word explained_word

pub record Explained (row capture : List ℕ) (k room : ℕ) (line : List ℕ) : Type 0 where
  pub explanation : Explanation
  pub list : List ℕ
  pub answered : Explained·.Answered row k capture (replicate room filler16) list explanation
  pub is : line ≡ explanation_line explanation (list ++ replicate 16 filler16)

abbrev pub Explains : ℕ → List ℕ → List ℕ → Type 0
Explains size given =
    Asks (at given 2 + 3) (at given 1) size given
    (Explained (drop (at given 2 + 3) given) (take (at given 2) (drop 3 given)) (at given 0) (at given 1))

-- `figure`, K ROW...: the figure; nothing is lent
abbrev pub figure_line : List ℕ → ℕ → List ℕ
figure_line row k = told (figure_of row k) 0 []

abbrev pub figure_answer : List ℕ → List ℕ
figure_answer given = at_least 1 (length given) (figure_line (drop 1 given) (at given 0))

-- `figures`, K ROOM ROW...: the figures for 0 to k
abbrev pub figures_line : List ℕ → ℕ → ℕ → List ℕ
figures_line row k room = counted_line (figures_of row k room) (figures (plan_of row) 0 (k + 1)) room

abbrev pub figures_answer : ℕ → List ℕ → List ℕ
figures_answer size given =
    at_least 2 (length given) (at_least (at given 1 + 16) size (figures_line (drop 2 given) (at given 0) (at given 1)))

-- `spoil`, BITS INDEX: 16 numbers or bytes, filled, and one of them changed
abbrev pub spoilt_row : ℕ → ℕ → List ℕ
spoilt_row size index = at_least 16 size (told (gives 0) 0 (set (replicate 16 filler16) index 0))

abbrev pub spoilt_bytes : ℕ → ℕ → List ℕ
spoilt_bytes size index = at_least 16 size (told_bytes (gives 0) (set (replicate 16 filler) index 0))

abbrev pub spoil_answer : ℕ → ℕ → List ℕ → List ℕ
spoil_answer lent file given =
    cond (eqb (length given) 2)
    (cond (eqb (at given 0) 16) (spoilt_row lent (at given 1)) (spoilt_bytes file (at given 1)))
    unknown_line

-- a line that is as `Says` says is laid over a buffer from an index on
pub record Lays (Says : List ℕ → Type 0) (before after : List ℕ) (from next : ℕ) : Type 0 where
  pub line : List ℕ
  pub says : Says line
  pub puts : Puts line before after from next
