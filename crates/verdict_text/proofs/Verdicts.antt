-- Laws of the lines under one k: a line from its seven numbers, one line after another, and that the lines of all answers are those of
-- document 01.
use Prim.Native.Nat.{ℕ, zero, suc, ◌+◌, ◌-◌, ◌*◌, ◌/◌, ◌≤◌, ◌<◌}
use mathlib.Core.Path.{◌≡◌, refl, sym, ◌∙◌, ap, subst}
use mathlib.Core.Logic.{inl, inr}
use mathlib.Core.Bool.{Bool, true, false, true≢false}
use mathlib.Core.List.{List, [], ◌++◌}
use native.Mathlib.Omega.{arith}
use lib.ListN.{length, get_or, take, drop, length-drop, replicate}
use lib.Seq.{length-take-le, take_at}
use lib.Dec.{eqb}
use borrow.Author.Tests.{eq-eqb, ne_eqb, eqb-true, eqb-false, not-true, le-ltb, le-leb}
use Rattle.scope.specs.Outcome.{Answer}
use Rattle.scope.specs.Outcome.{Outcome, gives}
use Rattle.scope.specs.Plan.{Plan, plan_of}
use Rattle.scope.specs.Cuts.{pairs, bad_pair, is_cut_list}
use Rattle.scope.specs.Lines.{resistant_line, failing_line, VerdictLine, resistant, failing, UnderK}
use Rattle.rows.specs.Lies.{PlanLies}
use Rattle.rows.proofs.Walked.{walked}
use Rattle.rows.proofs.Parts.{message-count}
use Rattle.plan.specs.Answers.{GoodRow}
use Rattle.plan.proofs.Theorems.{judged}
use Rattle.scope.proofs.Some.{none_below}
use Rattle.all_verdicts.specs.Answers.{Says, SaysResistant, SaysFailing, seven, needed, may_answer, AllSaid, After, AnswersAll}
use Rattle.text.specs.Text.{Told, Puts}
use Rattle.verdict_text.specs.Layout.{line_of, lines_of, Sevens, LinesUnder}

-- a line by the first of its numbers, which was read as n
module _ (k l n : ℕ) (numbers : List ℕ) (is : n ≡ get_or numbers 0 0) where
  pub line-resists : n ≡ 0 → line_of k l numbers ≡ resistant_line k l
  unfolding line_of
  line-resists z = rw (eq-eqb (get_or numbers 0 0) 0 (sym is ∙ z))

  pub line-fails : (n ≡ 0 → ⊥) → line_of k l numbers ≡ failing_line k l (take (2 * n - 1 - 1) (drop 1 numbers))
  unfolding line_of
  line-fails z =
      let e : eqb (get_or numbers 0 0) 0 ≡ false = ne_eqb (get_or numbers 0 0) 0 (λ s. z (is ∙ s)) in
      rw e (ap (λ (x : ℕ). failing_line k l (take (2 * x - 1 - 1) (drop 1 numbers))) (sym is))

-- n answers, at l: its line and the lines after it; and nothing at the end
module _ (k : ℕ) (all : List ℕ) where
  pub lines_first : (n : ℕ) → lines_of k all 0 n ≡ lines_of k all 0 (n - 0)
  lines_first n = ap (lines_of k all 0) (omega arith)

  pub lines_more : (l n : ℕ) → l < n → lines_of k all l (n - l) ≡ line_of k l (seven l all) ++ lines_of k all (l + 1) (n - (l + 1))
  unfolding lines_of
  lines_more l n h =
      let e : n - l ≡ suc (n - (l + 1)) = omega arith in
      rw e

  pub lines_done : (l n : ℕ) → n ≤ l → lines_of k all l (n - l) ≡ []
  unfolding lines_of
  lines_done l n h =
      let e : n - l ≡ zero = omega arith in
      rw e

-- the seven numbers as the code takes them
part-pairs : (all : List ℕ) (count l : ℕ) → Sevens all count → l < count → 2 * get_or (seven l all) 0 0 ≤ length (seven l all) + 1
part-pairs all count l s h =
    let r = s.room in
    let d = length-drop (7 * l) all in
    let t = length-take-le 7 (drop (7 * l) all) (omega arith) in
    omega (arith, s.pairs l h)

part-seven : (all : List ℕ) (l : ℕ) → take (7 * l + 7 - 7 * l) (drop (7 * l) all) ≡ seven l all
part-seven all l =
    let n : 7 * l + 7 - 7 * l ≡ 7 = omega arith in
    ap (λ (x : ℕ). take x (drop (7 * l) all)) n

pub part-told : (k : ℕ) (all : List ℕ) (count l at : ℕ) → Sevens all count → l < count → Told at (line_of k l (seven l all)) →
    (2 * get_or (take (7 * l + 7 - 7 * l) (drop (7 * l) all)) 0 0 ≤ length (take (7 * l + 7 - 7 * l) (drop (7 * l) all)) + 1)
    × Told at (line_of k l (take (7 * l + 7 - 7 * l) (drop (7 * l) all)))
part-told k all count l at s h t = rw (part-seven all l) (part-pairs all count l s h, t)

pub part-puts : (k : ℕ) (all : List ℕ) (l : ℕ) {b c : List ℕ} {i j : ℕ} → Puts
    (line_of k l (take (7 * l + 7 - 7 * l) (drop (7 * l) all))) b c i j →
    Puts (line_of k l (seven l all)) b c i j
part-puts k all l p = rw (part-seven all l) at p

-- a cut list has no lone number
even : (plan : Plan) (cuts : List ℕ) → is_cut_list plan cuts ≡ true → length cuts ≡ 2 * pairs cuts
even plan cuts good = by (eqb (length cuts) (2 * (length cuts / 2) + 1)) refl
  where
    by : (t : Bool) → eqb (length cuts) (2 * (length cuts / 2) + 1) ≡ t → length cuts ≡ 2 * pairs cuts
    by true e =
        let odd : length cuts ≡ 2 * (length cuts / 2) + 1 = eqb-true (length cuts) (2 * (length cuts / 2) + 1) e in
        let bad : bad_pair plan cuts (length cuts / 2) ≡ true = rw e in
        let fine : bad_pair plan cuts (length cuts / 2) ≡ false =
        none_below (bad_pair plan cuts) (pairs cuts) (not-true _ good) (length cuts / 2) (omega arith) in
        absurd (true≢false (sym bad ∙ fine))
    by false e =
        let odd : length cuts ≡ 2 * (length cuts / 2) + 1 → ⊥ = eqb-false (length cuts) (2 * (length cuts / 2) + 1) e in
        omega arith

-- what the numbers say is what their line says
module _ (plan : Plan) (k l : ℕ) where
  resists : (numbers : List ℕ) → SaysResistant plan k l numbers → VerdictLine plan k l (line_of k l numbers)
  resists numbers s =
      subst (VerdictLine plan k l) (sym (line-resists k l 0 numbers (sym (ap (λ (x : List ℕ). get_or x 0 0) s.is)) refl))
      (resistant s.resists)

  list-is : (numbers : List ℕ) (s : SaysFailing plan k l numbers) → take (2 * (pairs s.cuts + 1) - 1 - 1) (drop 1 numbers) ≡ s.cuts
  list-is numbers s =
      let n : length s.cuts ≡ 2 * (pairs s.cuts + 1) - 1 - 1 = omega (arith, even plan s.cuts s.first.good) in
      ap (λ (x : List ℕ). take (2 * (pairs s.cuts + 1) - 1 - 1) (drop 1 x)) s.is ∙
      take_at s.cuts (replicate (6 - length s.cuts) 0) (2 * (pairs s.cuts + 1) - 1 - 1) n

  fails : (numbers : List ℕ) → SaysFailing plan k l numbers → VerdictLine plan k l (line_of k l numbers)
  fails numbers s =
      let head : pairs s.cuts + 1 ≡ get_or numbers 0 0 = sym (ap (λ (x : List ℕ). get_or x 0 0) s.is) in
      let line : line_of k l numbers ≡ failing_line k l s.cuts =
      line-fails k l (pairs s.cuts + 1) numbers head (λ z. omega arith) ∙ ap (failing_line k l) (list-is numbers s) in
      subst (VerdictLine plan k l) (sym line) (failing s.first)

  pub says-line : (numbers : List ℕ) → Says plan k l numbers → VerdictLine plan k l (line_of k l numbers)
  says-line numbers (inl s) = resists numbers s
  says-line numbers (inr s) = fails numbers s

  says-few : (numbers : List ℕ) → k ≤ 3 → Says plan k l numbers → get_or numbers 0 0 ≤ 4
  says-few numbers h (inl s) = omega (arith, ap (λ (x : List ℕ). get_or x 0 0) s.is)
  says-few numbers h (inr s) = omega (arith, ap (λ (x : List ℕ). get_or x 0 0) s.is, s.first.few)

-- so the lines of all answers are those under k
module _ (plan : Plan) (k : ℕ) (all : List ℕ) (each : (l : ℕ) → l ≤ length plan.messages → Says plan k l (seven l all)) where
  lines_from : (l n : ℕ) → l + n ≤ length plan.messages + 1 → UnderK plan k (λ (rest : List ℕ). rest ≡ []) l n (lines_of k all l n)
  unfolding UnderK lines_of
  lines_from l zero h = refl
  lines_from l (suc n) h = (
    line_of k l (seven l all),
    lines_of k all (l + 1) n,
    says-line plan k l (seven l all) (each l (omega arith)),
    refl,
    lines_from (l + 1) n (omega arith),
  )

  pub lines_are : (count : ℕ) → count ≡ length plan.messages + 1 → LinesUnder plan k (lines_of k all 0 count)
  lines_are count e =
      subst (λ (n : ℕ). LinesUnder plan k (lines_of k all 0 n)) (sym e) (lines_from 0 (length plan.messages + 1) (omega arith))

  pub sevens : (count : ℕ) → k ≤ 3 → count ≡ length plan.messages + 1 → count ≤ 33 → 7 * count ≤ length all → Sevens all count
  sevens count h e few room = record { few = few; room = room; pairs = λ l below. says-few plan k l (seven l all) h (each l (omega arith)) }

-- what `all_verdicts` says of a good row
module _ (row : List ℕ) (g : GoodRow row) where
  pub few-messages : length (plan_of row).messages ≤ 32
  few-messages = let lies : PlanLies row = walked row g.form in omega (arith, message-count row, lies.messages)

  pub all_said : (k : ℕ) (entry exit : List ℕ) (r : Answer) → k ≤ 3 → length entry ≡ 231 → AnswersAll row k entry exit r →
      AllSaid (plan_of row) k entry exit
  unfolding may_answer
  all_said k entry exit r few long h =
      let fits : needed (plan_of row) ≤ length entry = omega (arith, few-messages) in
      let o : may_answer row k (length entry) ≡ gives (needed (plan_of row)) =
      rw (judged row g, le-ltb 3 k few, le-leb (needed (plan_of row)) (length entry) fits) in
      subst (λ (x : Outcome). After x (plan_of row) k entry exit) o h.buffer
