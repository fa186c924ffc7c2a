-- What the replay program prints once the plan's row is known, and what is refused before it.
use Rattle.std.specs.Prelude.{ℕ, List}
use Rattle.scope.specs.Outcome.{Outcome, and_then}
use Rattle.scope.specs.File.{row_of}
use Rattle.scope.specs.Plan.{plan_of}
use Rattle.scope.specs.Cycle.{event_row}
use Rattle.scope.specs.Questions.{read_file, replay}
use Rattle.scope.specs.Limits.{longest_row, longest_events}
use Rattle.scope.specs.Lines.{cuts_of, listing}

-- for a row and a cut list: the listing of the replay, or its refusal
abbrev pub text_of : List ℕ → List ℕ → List ℕ
text_of row cuts = listing (replay row cuts longest_events) (plan_of row) (event_row (plan_of row) cuts)

-- what stands before the text of a plan file and an input: the plan's refusals 1, 2, 4 to 10, 14 to 19, and then that of the cuts
unfoldable pub may_list : List ℕ → List ℕ → Outcome
may_list file input = and_then (read_file file longest_row) (λ _. replay (row_of file) (cuts_of input) longest_events)
