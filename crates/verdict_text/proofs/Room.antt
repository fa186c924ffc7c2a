-- How many bytes the lines have: at most 33 lines of at most 131 bytes under each of at most four k, and at most 512 slack lines of at most
-- 34. The bounds take each cut and each slack to have as many digits as any number: what is printed has fewer.
use Prim.Native.Nat.{ℕ, zero, suc, ◌+◌, ◌-◌, ◌*◌, ◌≤◌, ◌<◌, ◌^◌}
use mathlib.Core.Path.{◌≡◌, sym, ◌∙◌, ap, ap₂}
use mathlib.Core.Bool.{Bool, true, false, cond}
use mathlib.Core.List.{List, [], ◌∷◌}
use native.Mathlib.Omega.{arith}
use native.Mathlib.Nat.{min-le_left}
use lib.ListN.{length, get_or, drop, length-append, length-take}
use lib.IntN.{ℤ, pos, negsuc}
use lib.Dec.{eqb}
use borrow.Author.Tests.{le-leb, lt-leb}
use Rattle.scope.specs.Outcome.{Answer}
use Rattle.scope.specs.Plan.{Plan, Place, plan_of, path_of, place_count, message_count, link_count, timeout_of}
use Rattle.scope.specs.SecondPath.{message_index}
use Rattle.scope.specs.Cycle.{order_of}
use Rattle.scope.specs.Spare.{slack_of}
use Rattle.scope.specs.Lines.{resistant_line, failing_line, spaced, signed, slack_line, slack_line_of, message_slacks, slack_lines}
use Rattle.rows.specs.Lies.{PlanLies}
use Rattle.rows.proofs.Walked.{walked}
use Rattle.rows.proofs.Parts.{message-count, link-count, timeout-is, path_at, places_length}
use Rattle.plan.specs.Answers.{GoodRow}
use Rattle.all_verdicts.specs.Answers.{Says, seven, AnswersAll}
use Rattle.text.specs.Text.{Told, Puts}
use Rattle.text.proofs.Decimal.{decimal-all, decimal-most}
use Rattle.verdict_text.specs.Texts.{highest_or}
use Rattle.verdict_text.specs.Layout.{list_of, line_of, lines_of, Sevens, LinesUnder, Lays}
use Rattle.verdict_text.proofs.Verdicts.{few-messages, all_said, sevens, lines_are}

spaced-size : (ns : List ℕ) → length (spaced ns) ≤ 21 * length ns
unfolding spaced
spaced-size [] = omega arith
spaced-size (n ∷ ns) =
    let d = decimal-all n in
    let r = spaced-size ns in
    simp length-append (omega arith)

pub resistant-size : (k l : ℕ) → k < 10 → l < 100 → length (resistant_line k l) ≤ 131
resistant-size k l p q =
    let a = decimal-most k 0 p in
    let b = decimal-most l 1 q in
    simp length-append (omega arith)

pub failing-size : (k l : ℕ) (cuts : List ℕ) → k < 10 → l < 100 → length cuts ≤ 6 → length (failing_line k l cuts) ≤ 131
failing-size k l cuts p q few =
    let a = decimal-most k 0 p in
    let b = decimal-most l 1 q in
    let s = spaced-size cuts in
    simp length-append (omega arith)

line-size : (k l : ℕ) (numbers : List ℕ) → k < 10 → l < 100 → get_or numbers 0 0 ≤ 4 → length (line_of k l numbers) ≤ 131
unfolding line_of
line-size k l numbers p q few = by (eqb (get_or numbers 0 0) 0)
  where
    by : (t : Bool) → length (cond t (resistant_line k l) (failing_line k l (list_of numbers))) ≤ 131
    by true = resistant-size k l p q
    by false =
        let n = 2 * get_or numbers 0 0 - 1 - 1 in
        let m = min-le_left n (length (drop 1 numbers)) in
        let t : length (list_of numbers) ≤ 6 = omega (arith, length-take n (drop 1 numbers)) in
        failing-size k l (list_of numbers) p q t

lines_from : (k count : ℕ) (all : List ℕ) → k < 10 → Sevens all count → (l n : ℕ) → l + n ≤ count → length (lines_of k all l n) ≤ 131 * n
unfolding lines_of
lines_from k count all p s l zero h = omega arith
lines_from k count all p s l (suc n) h =
    let few = s.few in
    let r = lines_from k count all p s (l + 1) n (omega arith) in
    let e = line-size k l (seven l all) p (omega arith) (s.pairs l (omega arith)) in
    let a = length-append (line_of k l (seven l all)) (lines_of k all (l + 1) n) in
    omega arith

pub lines_size : (k count : ℕ) (all : List ℕ) → k ≤ 3 → Sevens all count → length (lines_of k all 0 count) ≤ 4323
lines_size k count all p s =
    let few = s.few in
    let r = lines_from k count all (omega arith) s 0 count (omega arith) in
    omega arith

pub lines_told : (k count at : ℕ) (all : List ℕ) → k ≤ 3 → at < 2 ^ 32 → Sevens all count → Told at (lines_of k all 0 count)
lines_told k count at all p h s = let r = lines_size k count all p s in record { fits = omega arith }

-- the lines of the answers that were given for k, m being the number of messages
module _ (row : List ℕ) (g : GoodRow row) (k m : ℕ) (few : k ≤ 3) (count : m ≡ message_count row) (entry exit : List ℕ) (r : Answer)
    (long : length entry ≡ 231) (same : length exit ≡ 231) (h : AnswersAll row k entry exit r) where
  each : (l : ℕ) → l ≤ length (plan_of row).messages → Says (plan_of row) k l (seven l exit)
  each = (all_said row g k entry exit r few long h).each

  number : m + 1 ≡ length (plan_of row).messages + 1
  number = omega (arith, message-count row)

  answers_sevens : Sevens exit (m + 1)
  answers_sevens =
      let messages = few-messages row g in
      let n = number in
      sevens (plan_of row) k exit each (m + 1) few number (omega arith) (omega arith)

  pub answers-told : (at : ℕ) → at < 2 ^ 32 → Sevens exit (m + 1) × Told at (lines_of k exit 0 (m + 1))
  answers-told at low = (answers_sevens, lines_told k (m + 1) at exit few low answers_sevens)

  pub answers_lay : {b c : List ℕ} {i j : ℕ} → Puts (lines_of k exit 0 (m + 1)) b c i j → Lays (LinesUnder (plan_of row) k) 4323 b c i j
  answers_lay p =
      record {
        text = lines_of k exit 0 (m + 1);
        kind = lines_are (plan_of row) k exit each (m + 1) number;
        short = lines_size k (m + 1) exit few answers_sevens;
        puts = p;
      }

-- the slack lines
signed-size : (z : ℤ) → length (signed z) ≤ 21
signed-size (pos n) = omega (arith, decimal-all n)
signed-size (negsuc n) = omega (arith, decimal-all (suc n))

slack-size : (m p : ℕ) (z : ℤ) → m < 100 → p < 100 → length (slack_line m p z) ≤ 34
slack-size m p z g h =
    let a = decimal-most m 1 g in
    let b = decimal-most p 1 h in
    let s = signed-size z in
    simp length-append (omega arith)

place-size : (plan : Plan) (m p : ℕ) (here : Place) (es : List ℕ) → m < 100 → p < 100 → length (slack_line_of plan m p here es) ≤ 34
place-size plan m p here [] g h = omega arith
place-size plan m p here (e ∷ es) g h = slack-size m p (slack_of (order_of plan) plan m here) g h

message-size : (plan : Plan) (m p : ℕ) (path : List Place) → m < 100 → p + length path ≤ 100 →
    length (message_slacks plan m p path) ≤ 34 * length path
unfolding message_slacks
message-size plan m p [] g h = omega arith
message-size plan m p (here ∷ path) g h =
    let r = message-size plan m (p + 1) path g (omega arith) in
    let e = place-size plan m p here here.second g (omega arith) in
    let a = length-append (slack_line_of plan m p here here.second) (message_slacks plan m (p + 1) path) in
    omega arith

paths_size : (plan : Plan) (m : ℕ) (paths : List (List Place)) → m + length paths ≤ 100 →
    ((i : ℕ) → i < length paths → length (get_or paths i []) ≤ 16) → length (slack_lines plan m paths) ≤ 544 * length paths
unfolding slack_lines
paths_size plan m [] h few = omega arith
paths_size plan m (path ∷ paths) h few =
    let short : length path ≤ 16 = few 0 (omega arith) in
    let r = paths_size plan (m + 1) paths (omega arith) (λ i below. few (suc i) (omega arith)) in
    let e = message-size plan m 0 path (omega arith) (omega arith) in
    let a = length-append (message_slacks plan m 0 path) (slack_lines plan (m + 1) paths) in
    omega arith

module _ (row : List ℕ) (g : GoodRow row) where
  few_places : (m : ℕ) → m < length (plan_of row).messages → length (path_of (plan_of row) m) ≤ 16
  few_places m h =
      let lies : PlanLies row = walked row g.form in
      let below : m < message_count row = omega (arith, message-count row) in
      let few = (lies.message m below).few in
      let e : length (path_of (plan_of row) m) ≡ place_count row (message_index row m) =
      ap length (path_at row m below) ∙ places_length row (message_index row m + 1) (place_count row (message_index row m)) in
      omega arith

  pub slacks_size : length (slack_lines (plan_of row) 0 (plan_of row).messages) ≤ 17408
  slacks_size =
      let few = few-messages row g in
      let r = paths_size (plan_of row) 0 (plan_of row).messages (omega arith) few_places in
      omega arith

  pub slacks_told : (at : ℕ) → at < 2 ^ 32 → Told at (slack_lines (plan_of row) 0 (plan_of row).messages)
  slacks_told at h = let r = slacks_size in record { fits = omega arith }

-- how high k goes, from the links and the timeout that were read
module _ (row : List ℕ) (e t large : ℕ) (links : e ≡ link_count row) (time : t ≡ timeout_of row) where
  product : e * t ≡ length (plan_of row).links * (plan_of row).timeout
  product = ap₂ ◌*◌ (links ∙ sym (link-count row)) (time ∙ sym (timeout-is row))

  pub goes_three : e * t ≤ 64 → 3 ≡ highest_or large (plan_of row)
  goes_three h = rw (le-leb (length (plan_of row).links * (plan_of row).timeout) 64 (rw product at h))

  pub goes_large : 64 < e * t → large ≡ highest_or large (plan_of row)
  goes_large h = rw (lt-leb (length (plan_of row).links * (plan_of row).timeout) 64 (rw product at h))
