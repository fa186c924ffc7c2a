-- Laws of the text: a listing looks only at the events of its plan, 65 lines of an input are as many as can matter, and the plan's refusal
-- comes first.
use Prim.Native.Nat.{ℕ, zero, suc, ◌+◌, ◌*◌, ◌/◌, ◌≤◌}
use mathlib.Core.Path.{◌≡◌, refl, sym, ◌∙◌, ap}
use mathlib.Core.List.{List, [], ◌++◌}
use native.Mathlib.Omega.{arith}
use native.Mathlib.Nat.{mul_assoc}
use lib.ListN.{length, get_or, take, drop, length-append, get_or-append}
use lib.Seq.{take_all, take_at}
use Rattle.scope.specs.Outcome.{Answer}
use Rattle.std.specs.Prelude.{Ok, Err}
use Rattle.scope.specs.declared.Refusal.{Refusal}
use Rattle.scope.specs.Outcome.{Outcome, outcome_of, gives, refused}
use Rattle.scope.specs.Plan.{Plan, plan_of}
use Rattle.scope.specs.File.{row_of}
use Rattle.scope.specs.Cycle.{event_row}
use Rattle.scope.specs.Questions.{after, judge, read_file, replay}
use Rattle.scope.specs.Cuts.{check_cuts}
use Rattle.scope.specs.Limits.{longest_row, longest_events}
use Rattle.scope.specs.Lines.{cuts_from, cuts_of, event_lines, refused_line, listing, replay_text}
use Rattle.cut_lines.specs.Reads.{Cuts}
use Rattle.cut_lines.proofs.Enough.{enough, enough-cuts}
use Rattle.cut_lines.proofs.Replay.{few-links, replay-enough}
use Rattle.listing.specs.Prints.{Says, Prints}
use Rattle.listing.proofs.Printing.{prints_as, says_as, says_given, says-refused}
use Rattle.cut_replay.specs.Replay.{Replays}
use Rattle.cut_replay.proofs.Ways.{numbers-needed}
use Rattle.replay_text.specs.Text.{text_of, may_list}

-- what stands behind the events is not looked at
lines_front : (m : ℕ) (row rest : List ℕ) (j n : ℕ) → 2 * (j + n) ≤ length row → event_lines m (row ++ rest) j n ≡ event_lines m row j n
unfolding event_lines
lines_front m row rest j zero h = refl
lines_front m row rest j (suc n) h =
    let k : get_or (row ++ rest) (2 * j) 0 ≡ get_or row (2 * j) 0 = get_or-append row rest 0 (2 * j) (omega arith) in
    let v : get_or (row ++ rest) (2 * j + 1) 0 ≡ get_or row (2 * j + 1) 0 = get_or-append row rest 0 (2 * j + 1) (omega arith) in
    rw (k, v, lines_front m row rest (j + 1) n (omega arith))

-- a listing of the buffer that a replay leaves is the listing of its events
listed : (o : Outcome) (plan : Plan) (events buffer : List ℕ) → length events ≡ 2 * plan.timeout * length plan.messages →
    listing o plan (after o events buffer) ≡ listing o plan events
unfolding listing after
listed (gives n) plan events buffer l =
    let m = length plan.messages in
    let t = plan.timeout in
    let fits : 2 * (0 + t * m) ≤ length events = omega (arith, mul_assoc 2 t m) in
    rw (lines_front m events (drop (length events) buffer) 0 (t * m) fits)
listed (refused r) plan events buffer l = refl

played_text : (row cuts entry exit : List ℕ) (r : Answer) → length entry ≡ longest_events → Replays row cuts entry exit r →
    listing (outcome_of r) (plan_of row) exit ≡ text_of row cuts
played_text row cuts entry exit r l h =
    ap (λ (o : Outcome). listing o (plan_of row) exit) h.answer
    ∙ ap (listing (replay row cuts (length entry)) (plan_of row)) h.buffer
    ∙ listed (replay row cuts (length entry)) (plan_of row) (event_row (plan_of row) cuts) entry (numbers-needed (plan_of row) cuts)
    ∙ ap (λ (n : ℕ). listing (replay row cuts n) (plan_of row) (event_row (plan_of row) cuts)) l

-- a replay that gave n arrivals, and one that was refused
module _ (row cuts entry exit : List ℕ) (a : Answer) (l : length entry ≡ longest_events) (h : Replays row cuts entry exit a) where
  pub played_given : (n : ℕ) → a ≡ Ok n → {out out' : List ℕ} {r : Answer} → Prints (listing (gives n) (plan_of row) exit) out out' r →
      Says (replay row cuts longest_events) (text_of row cuts) out out' r
  played_given n e p =
      let o : outcome_of a ≡ gives n = ap outcome_of e in
      says_given n (ap (replay row cuts) (sym l) ∙ sym h.answer ∙ o)
      (prints_as (ap (λ (o : Outcome). listing o (plan_of row) exit) (sym o) ∙ played_text row cuts entry exit a l h) p)

  pub played_refused : (r : Refusal) → a ≡ Err r → (out : List ℕ) → Says (replay row cuts longest_events)
      (text_of row cuts) out out (Err r)
  played_refused r e out =
      says-refused (text_of row cuts) out r (ap (replay row cuts) (sym l) ∙ sym h.answer ∙ ap outcome_of e)

-- the cuts that were read are in the buffer
pub cuts_fit : (input entry exit : List ℕ) (n : ℕ) → Cuts input entry exit n → n ≤ length exit
cuts_fit input entry exit n h = omega (arith, simp length-append at (ap length h.buffer), h.count)

-- they are those of the first 65 lines, and print what the whole input prints
cuts-read : (input entry exit : List ℕ) (n : ℕ) → length entry ≡ 130 → Cuts input entry exit n → take n exit ≡ cuts_from 65 input 0
cuts-read input entry exit n l h =
    ap (take n) h.buffer ∙ take_at _ _ n (sym h.count) ∙ ap (λ (k : ℕ). cuts_from (k / 2) input 0) l

input-text : (row input : List ℕ) → text_of row (cuts_from 65 input 0) ≡ text_of row (cuts_of input)
input-text row input =
    let whole : take (650 + length input) input ≡ input = take_all (650 + length input) input (omega arith) in
    ap (λ (t : List ℕ). text_of row (cuts_from 65 t 0)) (sym whole) ∙ replay-enough row input longest_events (650 + length input) (omega arith)

-- and are refused, or not, as those of the whole input are
replay-refused : (row cuts : List ℕ) (r : Refusal) → judge row ≡ refused r → replay row cuts longest_events ≡ refused r
unfolding replay
replay-refused row cuts r e = rw e

cuts-refused : (row cuts : List ℕ) (n : ℕ) (r : Refusal) → judge row ≡ gives n → check_cuts (plan_of row) cuts ≡ refused r →
    replay row cuts longest_events ≡ refused r
unfolding replay
cuts-refused row cuts n r e d = rw (e, d)

input-may : (row input : List ℕ) (m : ℕ) → 650 ≤ m → replay row (cuts_from 65 (take m input) 0) longest_events ≡ replay row
    (cuts_of input) longest_events
input-may row input m h = by (judge row) refl
  where
    good : (n : ℕ) → judge row ≡ gives n → (o : Outcome) → check_cuts (plan_of row) (cuts_of input) ≡ o →
        replay row (cuts_from 65 (take m input) 0) longest_events ≡ replay row (cuts_of input) longest_events
    good n e (gives i) d = ap (λ (c : List ℕ). replay row c longest_events) (enough-cuts (plan_of row) (few-links row n e) input m i h d)
    good n e (refused r) d =
        cuts-refused row (cuts_from 65 (take m input) 0) n r e (enough (plan_of row) (few-links row n e) input m h ∙ d)
        ∙ sym (cuts-refused row (cuts_of input) n r e d)

    by : (o : Outcome) → judge row ≡ o → replay row (cuts_from 65 (take m input) 0) longest_events ≡ replay row (cuts_of input) longest_events
    by (refused r) e = replay-refused row (cuts_from 65 (take m input) 0) r e ∙ sym (replay-refused row (cuts_of input) r e)
    by (gives n) e = good n e (check_cuts (plan_of row) (cuts_of input)) refl

lines_may : (row input : List ℕ) → replay row (cuts_from 65 input 0) longest_events ≡ replay row (cuts_of input) longest_events
lines_may row input =
    let whole : take (650 + length input) input ≡ input = take_all (650 + length input) input (omega arith) in
    ap (λ (t : List ℕ). replay row (cuts_from 65 t 0) longest_events) (sym whole) ∙ input-may row input (650 + length input) (omega arith)

pub input-says : (row : List ℕ) {input entry exit : List ℕ} {n : ℕ} → length entry ≡ 130 → Cuts input entry exit n →
    {out out' : List ℕ} {r : Answer} →
    Says (replay row (take n exit) longest_events) (text_of row (take n exit)) out out' r →
    Says (replay row (cuts_of input) longest_events) (text_of row (cuts_of input)) out out' r
input-says row {input} {entry} {exit} {n} l h s =
    let is = cuts-read input entry exit n l h in
    says_as (ap (λ (cuts : List ℕ). replay row cuts longest_events) is ∙ lines_may row input) (ap (text_of row) is ∙ input-text row input) s

-- the text by what reading the file gives
pub text-refused : (file input : List ℕ) (r : Refusal) → read_file file longest_row ≡ refused r → replay_text file input ≡ refused_line r
unfolding replay_text
text-refused file input r e = rw e

pub text_given : (file input : List ℕ) (n : ℕ) → read_file file longest_row ≡ gives n → replay_text file input ≡ text_of (row_of file) (cuts_of input)
unfolding replay_text
text_given file input n e = rw e

pub text-row : (file input row : List ℕ) (n : ℕ) → read_file file longest_row ≡ gives n → row ≡ row_of file →
    text_of row (cuts_of input) ≡ replay_text file input
text-row file input row n e is = ap (λ (r : List ℕ). text_of r (cuts_of input)) is ∙ sym (text_given file input n e)

pub may-refused : (file input : List ℕ) (r : Refusal) → read_file file longest_row ≡ refused r → may_list file input ≡ refused r
unfolding may_list
may-refused file input r e = rw e

pub may_given : (file input row : List ℕ) (n : ℕ) → read_file file longest_row ≡ gives n → row ≡ row_of file →
    replay row (cuts_of input) longest_events ≡ may_list file input
unfolding may_list
may_given file input row n e is = sym (rw (e, is))

-- a text that is refused is the line of its refusal
pub text-line : (file input : List ℕ) (r : Refusal) → may_list file input ≡ refused r → replay_text file input ≡ refused_line r
unfolding may_list listing
text-line file input r may = by (read_file file longest_row) refl
  where
    by : (o : Outcome) → read_file file longest_row ≡ o → replay_text file input ≡ refused_line r
    by (refused q) e = text-refused file input q e ∙ ap (λ (o : Outcome). listing o (plan_of (row_of file)) [])
        (sym (may-refused file input q e) ∙ may)
    by (gives n) e =
        text_given file input n e
        ∙ ap (λ (o : Outcome). listing o (plan_of (row_of file)) (event_row (plan_of (row_of file)) (cuts_of input)))
        (may_given file input (row_of file) n e refl ∙ may)
