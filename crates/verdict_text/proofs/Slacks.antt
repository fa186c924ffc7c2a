-- Laws of the slack lines: a place by what `spare` answers, one place and one message after another.
use Prim.Native.Nat.{ℕ, ◌+◌, ◌≤◌, ◌<◌}
use mathlib.Core.Path.{◌≡◌, refl, sym, ◌∙◌, ap}
use mathlib.Core.Bool.{Bool, true, false}
use mathlib.Core.List.{List, [], ◌∷◌, ◌++◌}
use native.Mathlib.Omega.{arith}
use native.Mathlib.Numerals.{add-one}
use lib.ListN.{length, drop, drop_of_length-le}
use lib.Seq.{drop-cons}
use lib.IntN.{ℤ, pos, negsuc}
use lib.Dec.{leb→le}
use mir.Syntax.{w32}
use mir.Val.{SFits, to_z, of_z}
use mir.ValLaws.{to_z-of_z}
use Rattle.scope.specs.declared.Refusal.{Refusal}
use Rattle.scope.proofs.Outcomes.{not-both}
use Rattle.scope.specs.Outcome.{gives}
use Rattle.scope.specs.Plan.{Plan, Place, plan_of, path_of, place_count, message_count, place_of}
use Rattle.scope.specs.SecondPath.{message_index}
use Rattle.scope.specs.Cycle.{order_of}
use Rattle.scope.specs.Spare.{no_second, slack_of}
use Rattle.scope.specs.Questions.{may_spare, slack}
use Rattle.scope.specs.Lines.{slack_line, slack_line_of, message_slacks, slack_lines}
use Rattle.rows.proofs.Parts.{places_length, path_at, message-count}
use Rattle.plan.specs.Answers.{GoodRow}
use Rattle.spare.specs.Slack.{Spare}
use Rattle.std.specs.Prelude.{Ok, Err}
use Rattle.spare.specs.Slack.{Slacks, Between}
use Rattle.spare.proofs.There.{has-second}
use Rattle.spare.proofs.Bounds.{asked, answered, answer-lies}
use Rattle.text.specs.Text.{Puts}
use Rattle.text.proofs.Laid.{laid_nil}
use Rattle.verdict_text.specs.Layout.{slack_at}
use Rattle.plan.proofs.Theorems.{judged}

module _ (plan : Plan) (m p : ℕ) (here : Place) where
  none : (es : List ℕ) → no_second es ≡ true → slack_line_of plan m p here es ≡ []
  none [] e = refl
  none (x ∷ es) e = absurd (let z : ◌≡◌ {A = ℕ} 0 1 = cc in omega arith)

  some : (es : List ℕ) → no_second es ≡ false → slack_line_of plan m p here es ≡ slack_line m p (slack_of (order_of plan) plan m here)
  some [] e = absurd (let z : ◌≡◌ {A = ℕ} 0 1 = cc in omega arith)
  some (x ∷ es) e = refl

-- a slack has 32 bits
fits : (z : ℤ) → Between z → SFits w32 z
fits (pos n) h = record { sfits = let l = leb→le n 63 h.high.le in omega arith }
fits (negsuc n) h = record { sfits = let l = leb→le n 1534 h.low.le in omega arith }

-- a place by the answer
module _ (row : List ℕ) (m p : ℕ) where
  pub answered-line : (s : Spare) (z : ℤ) → Slacks row m p s → s ≡ Ok z → slack_at (plan_of row) m p ≡ slack_line m p (to_z w32 (of_z w32 z))
  unfolding slack
  answered-line s z given e =
      let r : Slacks row m p (Ok z) = rw e at given in
      let a = answered row m p z r in
      let there = has-second row m p (asked row m p a.may).second in
      some (plan_of row) m p (place_of (plan_of row) m p) (place_of (plan_of row) m p).second there ∙
      ap (slack_line m p) (a.is ∙ sym (to_z-of_z w32 z (fits z (answer-lies row m p z r))))

  may : GoodRow row → no_second (place_of (plan_of row) m p).second ≡ false → may_spare row m p ≡ gives 0
  unfolding may_spare
  may g e = rw (judged row g, e)

  pub no_line : (s : Spare) (x : Refusal) → GoodRow row → Slacks row m p s → s ≡ Err x → slack_at (plan_of row) m p ≡ []
  no_line s x g given same = by (no_second (place_of (plan_of row) m p).second) refl
    where
      r : Slacks row m p (Err x)
      r = rw same at given

      by : (t : Bool) → no_second (place_of (plan_of row) m p).second ≡ t → slack_at (plan_of row) m p ≡ []
      by true e = none (plan_of row) m p (place_of (plan_of row) m p) (place_of (plan_of row) m p).second e
      by false e = not-both (r.answer ∙ may g e)

-- no text is put
pub nothing_put : {text b : List ℕ} {i : ℕ} → text ≡ [] → Puts text b b i i
nothing_put {text} {b} {i} e = rw e (record { buffer = sym (laid_nil b i); ends = omega arith })

-- the places of a message, at p
module _ (plan : Plan) (m : ℕ) where
  pub places_more : (p : ℕ) → p < length (path_of plan m) →
      message_slacks plan m p (drop p (path_of plan m)) ≡ slack_at plan m p ++ message_slacks plan m (p + 1) (drop (p + 1) (path_of plan m))
  unfolding message_slacks
  places_more p h =
      ap (message_slacks plan m p) (drop-cons (path_of plan m) p (record { link = 0; slot = 0; second = [] }) h) ∙
      ap (λ (k : ℕ). slack_at plan m p ++ message_slacks plan m (p + 1) (drop k (path_of plan m))) (sym (add-one p))

  pub places_done : (p : ℕ) → length (path_of plan m) ≤ p → message_slacks plan m p (drop p (path_of plan m)) ≡ []
  unfolding message_slacks
  places_done p h = rw (drop_of_length-le (path_of plan m) h)

  -- the messages, at m
  pub messages-more : m < length plan.messages →
      slack_lines plan m (drop m plan.messages) ≡ message_slacks plan m 0 (path_of plan m) ++ slack_lines plan (m + 1)
      (drop (m + 1) plan.messages)
  unfolding slack_lines
  messages-more h =
      ap (slack_lines plan m) (drop-cons plan.messages m [] h) ∙
      ap (λ (k : ℕ). message_slacks plan m 0 (path_of plan m) ++ slack_lines plan (m + 1) (drop k plan.messages)) (sym (add-one m))

  pub messages-done : length plan.messages ≤ m → slack_lines plan m (drop m plan.messages) ≡ []
  unfolding slack_lines
  messages-done h = rw (drop_of_length-le plan.messages h)

-- how many places a message has
place-count : (row : List ℕ) (m i n : ℕ) → m < message_count row → i ≡ message_index row m → n ≡ place_count row i →
    length (path_of (plan_of row) m) ≡ n
place-count row m i n h index count =
    ap length (path_at row m h) ∙ places_length row (message_index row m + 1) (place_count row (message_index row m)) ∙
    sym (count ∙ ap (place_count row) index)

module _ (row : List ℕ) (m i n p : ℕ) (h : m < message_count row) (index : i ≡ message_index row m) (count : n ≡ place_count row i) where
  pub counted : p < n → p < length (path_of (plan_of row) m)
  counted l = omega (arith, place-count row m i n h index count)

  pub counted-all : n ≤ p → length (path_of (plan_of row) m) ≤ p
  counted-all l = omega (arith, place-count row m i n h index count)

-- how many messages there are
module _ (row : List ℕ) (n m : ℕ) (count : n ≡ message_count row) where
  pub below : m < n → m < length (plan_of row).messages
  below h = omega (arith, message-count row)

  pub below_all : n ≤ m → length (plan_of row).messages ≤ m
  below_all h = omega (arith, message-count row)
