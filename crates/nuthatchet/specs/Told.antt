-- What a caller in another language is told: five numbers, and the lent buffer. Each question is one that documents 01 and 02 ask, by
-- the definitions that the Rattle functions cite.
use Rattle.std.specs.Prelude.{ℕ, ◌+◌, ◌≡◌, List, length, ℤ}
use Rattle.scope.specs.declared.Refusal.{Refusal}
use Rattle.scope.specs.Outcome.{Outcome, refused, number, place, path_place, path_step, result, and_then, room}
use Rattle.scope.specs.File.{row_of, file_of}
use Rattle.scope.specs.Plan.{plan_of}
use Rattle.scope.specs.Cycle.{event_row}
use Rattle.scope.specs.Game.{figures}
use Rattle.scope.specs.Questions.{after, judge, read_file, write_file, replay, may_judge, figure_of, figures_of, may_explain, may_spare, slack}
use Rattle.scope.specs.Limits.{longest_row}
use Rattle.replay_text.specs.Text.{may_list}
use Rattle.spare.specs.Slack.{unless_refused}
use Rattle.all_verdicts.specs.Answers.{may_answer, After}

-- "A refusal gives its number and place", and "with the message come the place and the step": n is returned, p, q and s are written. Each is
-- zero where nothing is refused, and q and s beside a refusal that is not of a path
pub record Refuses (o : Outcome) (n p q s : ℕ) : Type 0 where
  pub number : n ≡ number o
  pub place : p ≡ place o
  pub at : q ≡ path_place o
  pub step : s ≡ path_step o

-- "zero in every other result": v is written too
pub record Told (o : Outcome) (n p q s v : ℕ) : Type 0 where
  pub refusal : Refuses o n p q s
  pub result : v ≡ result o

-- and a lent buffer that held `entry` has this written to its front, where nothing is refused
pub record Tells (o : Outcome) (written entry exit : List ℕ) (n p q s v : ℕ) : Type 0 where
  pub told : Told o n p q s v
  pub buffer : exit ≡ after o written entry

-- a file read into a row
abbrev pub TellsRead : List ℕ → List ℕ → List ℕ → ℕ → ℕ → ℕ → ℕ → ℕ → Type 0
TellsRead file entry exit n p q s v = Tells (read_file file (length entry)) (row_of file) entry exit n p q s v

-- a row written into bytes
abbrev pub TellsWritten : List ℕ → List ℕ → List ℕ → ℕ → ℕ → ℕ → ℕ → ℕ → Type 0
TellsWritten row entry exit n p q s v = Tells (write_file row (length entry)) (file_of row) entry exit n p q s v

-- a row replayed under a cut list
abbrev pub TellsReplay : List ℕ → List ℕ → List ℕ → List ℕ → ℕ → ℕ → ℕ → ℕ → ℕ → Type 0
TellsReplay row cuts entry exit n p q s v =
    Tells (replay row cuts (length entry)) (event_row (plan_of row) cuts) entry exit n p q s v

-- a text laid into bytes, where nothing is refused before it
abbrev pub TellsText : Outcome → List ℕ → List ℕ → List ℕ → ℕ → ℕ → ℕ → ℕ → ℕ → Type 0
TellsText may text entry exit n p q s v = Tells (and_then may (λ _. room (length text) (length entry))) text entry exit n p q s v

-- all answers of a row for k
pub record TellsAll (row : List ℕ) (k : ℕ) (entry exit : List ℕ) (n p q s v : ℕ) : Type 0 where
  pub told : Told (may_answer row k (length entry)) n p q s v
  pub buffer : After (may_answer row k (length entry)) (plan_of row) k entry exit

-- the figures of a row for 0 to k
abbrev pub TellsFigures : List ℕ → ℕ → List ℕ → List ℕ → ℕ → ℕ → ℕ → ℕ → ℕ → Type 0
TellsFigures row k entry exit n p q s v = Tells (figures_of row k (length entry)) (figures (plan_of row) 0 (k + 1)) entry exit n p q s v

-- the slack z of the second path of message m from place i
pub record TellsSlack (row : List ℕ) (m i n p q s : ℕ) (z : ℤ) : Type 0 where
  pub refusal : Refuses (may_spare row m i) n p q s
  pub slack : z ≡ unless_refused (may_spare row m i) (slack row m i)

-- no refusal has the number 0, so that 0 says that nothing is refused
abbrev pub Numbered : Outcome → Type 0
Numbered o = (r : Refusal) → o ≡ refused r → r.no ≡ 0 → ⊥

pub record ZeroSaysNone : Type 0 where
  pub judges : (row : List ℕ) → Numbered (judge row)
  pub reads : (file : List ℕ) (lent : ℕ) → Numbered (read_file file lent)
  pub writes : (row : List ℕ) (lent : ℕ) → Numbered (write_file row lent)
  pub replays : (row cuts : List ℕ) (lent : ℕ) → Numbered (replay row cuts lent)
  pub rules : (row : List ℕ) (k l lent : ℕ) → Numbered (may_judge row k l lent)
  pub explains : (row : List ℕ) (k : ℕ) (capture : List ℕ) (lent : ℕ) → Numbered (may_explain row k capture lent)
  pub answers : (row : List ℕ) (k lent : ℕ) → Numbered (may_answer row k lent)
  pub one_figure : (row : List ℕ) (k : ℕ) → Numbered (figure_of row k)
  pub all_figures : (row : List ℕ) (k lent : ℕ) → Numbered (figures_of row k lent)
  pub spares : (row : List ℕ) (m i : ℕ) → Numbered (may_spare row m i)
  pub lists : (file input : List ℕ) (needed lent : ℕ) → Numbered (and_then (may_list file input) (λ _. room needed lent))
  pub prints : (file : List ℕ) (needed lent : ℕ) → Numbered (and_then (read_file file longest_row) (λ _. room needed lent))
  pub rooms : (needed lent : ℕ) → Numbered (room needed lent)
