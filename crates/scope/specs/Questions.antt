-- Every question of document 01, with its refusals in their order: "The lowest number that applies is given".
use Rattle.std.specs.Prelude.{ℕ, ◌+◌, ◌*◌, cond, ◌||◌, List, ◌++◌, length, drop, ℤ, ltb}
use Rattle.scope.specs.Outcome.{Outcome, gives, refused, refuse, and_then, room}
use Rattle.scope.specs.File.{walk_file, row_of, file_of}
use Rattle.scope.specs.Row.{walk_row}
use Rattle.scope.specs.Plan.{plan_of, place_of}
use Rattle.scope.specs.Rules.{rules}
use Rattle.scope.specs.Cuts.{check_cuts}
use Rattle.scope.specs.Cycle.{arrivals, event_row, order_of}
use Rattle.scope.specs.Capture.{check_capture}
use Rattle.scope.specs.Game.{figure}
use Rattle.scope.specs.Spare.{slack_of, no_second}
use Rattle.scope.specs.SecondPath.{shown}

-- a lent buffer after the call: "A success changes only the part it writes", and a refusal changes nothing
unfoldable pub after : Outcome → List ℕ → List ℕ → List ℕ
after (gives n) written buffer = written ++ drop (length written) buffer
after (refused r) written buffer = buffer

-- refusals 1 to 10 and 14 to 19 of a row, or how many numbers it has
unfoldable pub judge : List ℕ → Outcome
judge row = and_then (walk_row row) (λ n. and_then (rules (plan_of row)) (λ _. gives n))

-- read a file into a row with `lent` numbers: the count, or refusal 1, 2, 4 to 10, 14 to 19, 13
unfoldable pub read_file : List ℕ → ℕ → Outcome
read_file file lent =
    and_then (walk_file file) (λ _. and_then (rules (plan_of (row_of file))) (λ _. room (length (row_of file)) lent))

-- write a row as a file of at most `lent` bytes: the count, or refusal 1 to 10, 14 to 19, 13
unfoldable pub write_file : List ℕ → ℕ → Outcome
write_file row lent = and_then (judge row) (λ _. room (length (file_of row)) lent)

-- replay a row under a cut list, with `lent` numbers for the events: the arrivals, or refusal 1 to 10, 14 to 19, 12, 13
unfoldable pub replay : List ℕ → List ℕ → ℕ → Outcome
replay row cuts lent =
    and_then (judge row)
    (λ _. and_then (check_cuts (plan_of row) cuts)
    (λ _. and_then (room (length (event_row (plan_of row) cuts)) lent)
    (λ _. gives (arrivals (plan_of row) cuts))))

-- what stands before a verdict: refusals 1 to 10 and 14 to 19; 11, "k above 3, l above M"; 13, "for a verdict 2 × k numbers even if the
-- plan is resistant"
unfoldable pub may_judge : List ℕ → ℕ → ℕ → ℕ → Outcome
may_judge row k l lent =
    and_then (judge row)
    (λ _. cond (ltb 3 k || ltb (length (plan_of row).messages) l) (refuse 11 0) (room (2 * k) lent))

-- the figure of a row for k: the least number of arrivals, or refusal 1 to 10, 14 to 19; 11, "k above 3"
unfoldable pub figure_of : List ℕ → ℕ → Outcome
figure_of row k = and_then (judge row) (λ _. cond (ltb 3 k) (refuse 11 0) (gives (figure (plan_of row) k)))

-- all figures of a row up to k, into `lent` numbers: how many there are, or refusal 1 to 10, 14 to 19, 11, 13
unfoldable pub figures_of : List ℕ → ℕ → ℕ → Outcome
figures_of row k lent = and_then (judge row) (λ _. cond (ltb 3 k) (refuse 11 0) (room (k + 1) lent))

-- what stands before an explanation: refusals 1 to 10 and 14 to 19; 11, "k above 3"; 23; "then 13, for 2 × k numbers"
unfoldable pub may_explain : List ℕ → ℕ → List ℕ → ℕ → Outcome
may_explain row k capture lent =
    and_then (judge row)
    (λ _. cond (ltb 3 k) (refuse 11 0) (and_then (check_capture (plan_of row) capture) (λ _. room (2 * k) lent)))

-- what stands before a slack: refusals 1 to 10 and 14 to 19, and 11, "no such message, place or second path"
unfoldable pub may_spare : List ℕ → ℕ → ℕ → Outcome
may_spare row m p = and_then (judge row) (λ _. cond (no_second (place_of (plan_of row) m p).second) (refuse 11 0) (gives 0))

-- the slack of the second path of message m from place p
unfoldable pub slack : List ℕ → ℕ → ℕ → ℤ
slack row m p = slack_of (order_of (plan_of row)) (plan_of row) m (place_of (plan_of row) m p)

-- the second path of message m from place p, as a part of the row
unfoldable pub second_path : List ℕ → ℕ → ℕ → List ℕ
second_path row m p = shown (judge row) row m p
