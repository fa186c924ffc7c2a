-- No refusal has the number 0.
use Prim.Native.Nat.{ℕ, zero, suc, ◌+◌, ◌*◌}
use native.Mathlib.Omega.{arith}
use mathlib.Core.Path.{◌≡◌, refl, sym, ◌∙◌, ap}
use mathlib.Core.Bool.{Bool, true, false, cond, ◌&&◌, ◌||◌}
use mathlib.Core.List.{List}
use lib.ListN.{length, drop}
use lib.Dec.{ltb, leb, eqb}
use Rattle.scope.specs.declared.Fields.{Fields}
use Rattle.scope.specs.Lowest.{lowest}
use Rattle.scope.proofs.Outcomes.{not-both}
use Rattle.scope.specs.Outcome.{Outcome, gives, refused, refuse, and_then, room, number}
use Rattle.scope.specs.Fields.{width, step, opening, edition, edition_width}
use Rattle.scope.specs.Bits.{bits, field_at}
use Rattle.scope.specs.File.{walk_bits, zeros, ends_at, walk_file, row_of, file_of}
use Rattle.scope.specs.Plan.{Plan, plan_of, place_of}
use Rattle.scope.specs.Rules.{rules}
use Rattle.scope.specs.Cuts.{pairs, bad_pair, check_cuts}
use Rattle.scope.specs.Cycle.{event_row, arrivals}
use Rattle.scope.specs.Capture.{triples, bad_triple, check_capture}
use Rattle.scope.specs.Game.{figure}
use Rattle.scope.specs.Spare.{no_second}
use Rattle.scope.specs.Questions.{judge, read_file, write_file, replay, may_judge, figure_of, figures_of, may_explain, may_spare}
use Rattle.scope.specs.Limits.{longest_row, longest_events}
use Rattle.scope.specs.Lines.{cuts_of}
use Rattle.replay_text.specs.Text.{may_list}
use Rattle.forms.proofs.Theorems.{file-row}
use Rattle.plan.proofs.Numbers.{judge-numbered}
use Rattle.plan.proofs.Ways.{judge-bad}
use Rattle.all_verdicts.specs.Answers.{needed, may_answer}
use Rattle.nuthatchet.specs.Told.{Numbered, ZeroSaysNone}

given : (n : ℕ) → Numbered (gives n)
given n r e z = not-both (sym e)

named : (k q : ℕ) → (k ≡ 0 → ⊥) → Numbered (refuse k q)
named k q h r e z = h (ap number e ∙ z)

pick : (t : Bool) (a b : Outcome) → Numbered a → Numbered b → Numbered (cond t a b)
pick true a b ha hb = ha
pick false a b ha hb = hb

chain : (o : Outcome) (next : ℕ → Outcome) → Numbered o → ((n : ℕ) → o ≡ gives n → Numbered (next n)) → Numbered (and_then o next)
chain (gives n) next h g = g n refl
chain (refused r) next h g = h

judged : (row : List ℕ) → Numbered (judge row)
judged row r e z = judge-numbered row r e z

room-named : (needed lent : ℕ) → Numbered (room needed lent)
room-named needed lent = pick (leb needed lent) (gives needed) (refuse 13 needed) (given needed) (named 13 needed (λ e. omega arith))

bits-named : (n : ℕ) (s : Fields) (p : ℕ) (bs : List ℕ) → Numbered (walk_bits n s p bs)
unfolding walk_bits
bits-named zero s p bs = pick (eqb (width s) 0) (gives p) (refuse 2 p) (given p) (named 2 p (λ e. omega arith))
bits-named (suc n) s p bs =
    pick (eqb (width s) 0) (gives p)
    (cond (leb (p + width s) (length bs)) (walk_bits n (step s (field_at bs p (width s))) (p + width s) bs) (refuse 2 p)) (given p)
    (pick (leb (p + width s) (length bs)) (walk_bits n (step s (field_at bs p (width s))) (p + width s) bs) (refuse 2 p)
    (bits-named n (step s (field_at bs p (width s))) (p + width s) bs)
    (named 2 p (λ e. omega arith)))

ends_named : (bs : List ℕ) (end : ℕ) → Numbered (ends_at bs end)
unfolding ends_at
ends_named bs end =
    pick (ltb (length bs) (end + 8) && zeros (drop end bs)) (gives end) (refuse 4 end) (given end) (named 4 end (λ e. omega arith))

file-named : (file : List ℕ) → Numbered (walk_file file)
unfolding walk_file
file-named file =
    pick (ltb (length (bits file)) edition_width) (refuse 2 0) _ (named 2 0 (λ e. omega arith))
    (pick (eqb (field_at (bits file) 0 edition_width) edition)
    (and_then (walk_bits (length (bits file)) opening edition_width (bits file)) (ends_at (bits file)))
    (refuse 1 0)
    (chain (walk_bits (length (bits file)) opening edition_width (bits file)) (ends_at (bits file))
    (bits-named (length (bits file)) opening edition_width (bits file))
    (λ n e. ends_named (bits file) n))
    (named 1 0 (λ e. omega arith)))

read_named : (file : List ℕ) (lent : ℕ) → Numbered (read_file file lent)
unfolding read_file
read_named file lent =
    chain (walk_file file) (λ _. and_then (rules (plan_of (row_of file))) (λ _. room (length (row_of file)) lent)) (file-named file)
    (λ end form. chain (rules (plan_of (row_of file))) (λ _. room (length (row_of file)) lent)
    (λ r e z. judge-numbered (row_of file) r (sym (judge-bad (row_of file) (length (row_of file)) r (file-row file end form) e)) z)
    (λ n e. room-named (length (row_of file)) lent))

write_named : (row : List ℕ) (lent : ℕ) → Numbered (write_file row lent)
unfolding write_file
write_named row lent =
    chain (judge row) (λ _. room (length (file_of row)) lent) (judged row) (λ n e. room-named (length (file_of row)) lent)

cuts-named : (plan : Plan) (cuts : List ℕ) → Numbered (check_cuts plan cuts)
unfolding check_cuts
cuts-named plan cuts =
    pick (ltb (lowest (bad_pair plan cuts) (pairs cuts)) (pairs cuts)) (refuse 12 (lowest (bad_pair plan cuts) (pairs cuts))) (gives (pairs cuts))
    (named 12 (lowest (bad_pair plan cuts) (pairs cuts)) (λ e. omega arith))
    (given (pairs cuts))

replay-named : (row cuts : List ℕ) (lent : ℕ) → Numbered (replay row cuts lent)
unfolding replay
replay-named row cuts lent =
    chain (judge row) _ (judged row)
    (λ n e. chain (check_cuts (plan_of row) cuts) _ (cuts-named (plan_of row) cuts)
    (λ n e. chain (room (length (event_row (plan_of row) cuts)) lent) (λ _. gives (arrivals (plan_of row) cuts))
    (room-named (length (event_row (plan_of row) cuts)) lent)
    (λ n e. given (arrivals (plan_of row) cuts))))

rule_named : (row : List ℕ) (k l lent : ℕ) → Numbered (may_judge row k l lent)
unfolding may_judge
rule_named row k l lent =
    chain (judge row) _ (judged row)
    (λ n e. pick (ltb 3 k || ltb (length (plan_of row).messages) l) (refuse 11 0) (room (2 * k) lent)
    (named 11 0 (λ e. omega arith))
    (room-named (2 * k) lent))

capture_named : (plan : Plan) (capture : List ℕ) → Numbered (check_capture plan capture)
unfolding check_capture
capture_named plan capture =
    pick (ltb (lowest (bad_triple plan capture) (triples capture)) (triples capture))
    (refuse 23 (lowest (bad_triple plan capture) (triples capture))) (gives (triples capture))
    (named 23 (lowest (bad_triple plan capture) (triples capture)) (λ e. omega arith))
    (given (triples capture))

explain_named : (row : List ℕ) (k : ℕ) (capture : List ℕ) (lent : ℕ) → Numbered (may_explain row k capture lent)
unfolding may_explain
explain_named row k capture lent =
    chain (judge row) _ (judged row)
    (λ n e. pick (ltb 3 k) (refuse 11 0) _ (named 11 0 (λ e. omega arith))
    (chain (check_capture (plan_of row) capture) (λ _. room (2 * k) lent) (capture_named (plan_of row) capture)
    (λ n e. room-named (2 * k) lent)))

answer-named : (row : List ℕ) (k lent : ℕ) → Numbered (may_answer row k lent)
unfolding may_answer
answer-named row k lent =
    chain (judge row) _ (judged row)
    (λ n e. pick (ltb 3 k) (refuse 11 0) (room (needed (plan_of row)) lent) (named 11 0 (λ e. omega arith))
    (room-named (needed (plan_of row)) lent))

figure-named : (row : List ℕ) (k : ℕ) → Numbered (figure_of row k)
unfolding figure_of
figure-named row k =
    chain (judge row) _ (judged row)
    (λ n e. pick (ltb 3 k) (refuse 11 0) (gives (figure (plan_of row) k)) (named 11 0 (λ e. omega arith)) (given (figure (plan_of row) k)))

figures-named : (row : List ℕ) (k lent : ℕ) → Numbered (figures_of row k lent)
unfolding figures_of
figures-named row k lent =
    chain (judge row) _ (judged row)
    (λ n e. pick (ltb 3 k) (refuse 11 0) (room (k + 1) lent) (named 11 0 (λ e. omega arith)) (room-named (k + 1) lent))

spare_named : (row : List ℕ) (m q : ℕ) → Numbered (may_spare row m q)
unfolding may_spare
spare_named row m q =
    chain (judge row) _ (judged row)
    (λ n e. pick (no_second (place_of (plan_of row) m q).second) (refuse 11 0) (gives 0) (named 11 0 (λ e. omega arith)) (given 0))

list-named : (file input : List ℕ) (needed lent : ℕ) → Numbered (and_then (may_list file input) (λ _. room needed lent))
unfolding may_list
list-named file input needed lent =
    chain (may_list file input) (λ _. room needed lent)
    (chain (read_file file longest_row) (λ _. replay (row_of file) (cuts_of input) longest_events) (read_named file longest_row)
    (λ n e. replay-named (row_of file) (cuts_of input) longest_events))
    (λ n e. room-named needed lent)

pub zero_says_none : ZeroSaysNone
zero_says_none =
    record {
      judges = judged;
      reads = read_named;
      writes = write_named;
      replays = replay-named;
      rules = rule_named;
      explains = explain_named;
      answers = answer-named;
      one_figure = figure-named;
      all_figures = figures-named;
      spares = spare_named;
      lists = list-named;
      prints = λ file needed lent. chain (read_file file longest_row) (λ _. room needed lent) (read_named file longest_row)
          (λ n e. room-named needed lent);
      rooms = room-named;
    }
