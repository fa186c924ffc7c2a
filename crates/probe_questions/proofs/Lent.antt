-- A buffer that is lent filled, with a margin behind the room: what it holds after a call, and the line that is told of it.
use Prim.Native.Nat.{ℕ, ◌+◌, ◌-◌, ◌<◌, ◌≤◌}
use mathlib.Core.Path.{◌≡◌, refl, sym, ◌∙◌, ap, ap₂, subst}
use mathlib.Core.List.{List, ◌++◌}
use native.Mathlib.Omega.{arith}
use lib.ListN.{length, take, drop, replicate, length-drop, length-replicate, replicate-append-replicate}
use lib.Seq.{take_at, drop_at, take_all}
use borrow.Author.Tests.{lt-ltb, le-ltb}
use Rattle.scope.specs.Outcome.{Answer}
use Rattle.scope.specs.Outcome.{Outcome, outcome_of, result}
use Rattle.scope.specs.Questions.{after}
use Rattle.scope.specs.Plan.{at}
use Rattle.plan.specs.Answers.{Answers}
use Rattle.verdicts.specs.Verdict.{Ruling}
use Rattle.verdicts.specs.Verdict.{Answered}
use Rattle.explanations.specs.Explained.{Explanation}
use Rattle.explanations.specs.Explained as Explained·
use Rattle.probe_words.specs.Words.{filler16}
use Rattle.probe_lines.specs.Answers.{unknown_line, told}
use Rattle.probe_questions.specs.Asked.{at_least, lent_after, replay_line, figures_line, ruling_line, Ruled, Asks}
use Rattle.probe_questions.specs.Asked.{explanation_line, Explained}

-- a question has so many numbers, or is none
module _ (least least' n : ℕ) (line : List ℕ) (e : least ≡ least') where
  pub too_few : n < least → unknown_line ≡ at_least least' n line
  too_few h = sym (rw (lt-ltb n least' (omega arith)))

  pub enough : least ≤ n → line ≡ at_least least' n line
  enough h = sym (rw (le-ltb n least' (omega arith)))

-- and what is lent has its room and the margin
module _ (least least' n room room' size : ℕ) (line : List ℕ) (e : least ≡ least') (f : room ≡ room') (h : least ≤ n) where
  pub no_room : size < room + 16 → unknown_line ≡ at_least least' n (at_least (room' + 16) size line)
  no_room k =
      too_few (room + 16) (room' + 16) size line (ap (λ (r : ℕ). r + 16) f) k
      ∙ enough least least' n (at_least (room' + 16) size line) e h

  pub all-fits : room + 16 ≤ size → line ≡ at_least least' n (at_least (room' + 16) size line)
  all-fits k =
      enough (room + 16) (room' + 16) size line (ap (λ (r : ℕ). r + 16) f) k
      ∙ enough least least' n (at_least (room' + 16) size line) e h

-- the numbers behind the first so many
pub behind : (given : List ℕ) (n : ℕ) → take (length given - n) (drop n given) ≡ drop n given
behind given n = take_all (length given - n) (drop n given) (let l = length-drop n given in omega arith)

-- of a lent buffer the room and the margin were filled
module _ (fill room : ℕ) (filled : List ℕ) (is : filled ≡ replicate (room + 16) fill) where
  parts : filled ≡ replicate room fill ++ replicate 16 fill
  parts = is ∙ sym (replicate-append-replicate room 16 fill)

  pub front : take room filled ≡ replicate room fill
  front = ap (take room) parts ∙ take_at (replicate room fill) (replicate 16 fill) room (length-replicate room fill)

  size : length (take room filled) ≡ room
  size = ap length front ∙ length-replicate room fill

  -- a call has changed the room alone
  module _ (exit : List ℕ) where
    pub margin_stays : exit ++ drop room filled ≡ exit ++ replicate 16 fill
    margin_stays =
        ap (λ (s : List ℕ). exit ++ drop room s) parts
        ∙ ap (λ (s : List ℕ). exit ++ s) (drop_at (replicate room fill) (replicate 16 fill) room (length-replicate room fill))

    -- an answer that depends on the room
    module _ (outcome : ℕ → Outcome) (written : List ℕ) (a : Answer)
        (w : Answers (outcome (length (take room filled))) written (take room filled) exit a) where
      asked : Answers (outcome room) written (take room filled) exit a
      asked = subst (λ (k : ℕ). Answers (outcome k) written (take room filled) exit a) size w

      pub lent-told : (line : Outcome → List ℕ → List ℕ) →
          line (outcome_of a) (exit ++ drop room filled) ≡ line (outcome room) (lent_after (outcome room) written fill room)
      lent-told line =
          ap₂ line asked.answer
          (margin_stays ∙ ap (λ (s : List ℕ). s ++ replicate 16 fill) (asked.buffer ∙ ap (after (outcome room) written) front))

      pub told-numbers : (n n' : ℕ) → n ≡ n' →
          told (outcome_of a) n (exit ++ drop room filled) ≡ told (outcome room) n' (lent_after (outcome room) written fill room)
      told-numbers n n' e =
          ap (λ (k : ℕ). told (outcome_of a) k (exit ++ drop room filled)) e ∙ lent-told (λ (o : Outcome) (s : List ℕ). told o n' s)

      pub told-result : (n : ℕ) → n ≡ result (outcome_of a) →
          told (outcome_of a) n (exit ++ drop room filled)
          ≡ told (outcome room) (result (outcome room)) (lent_after (outcome room) written fill room)
      told-result n e = told-numbers n (result (outcome room)) (e ∙ ap result asked.answer)

-- and of a verdict
module _ (room : ℕ) (filled : List ℕ) (is : filled ≡ replicate (room + 16) filler16) where
  pub ruled : (exit row : List ℕ) (k l : ℕ) (r : Ruling) → Answered row k l (take room filled) exit r →
      Ruled row k l room (ruling_line r (exit ++ drop room filled))
  ruled exit row k l r w =
      record {
        ruling = r;
        list = exit;
        answered = subst (λ (entry : List ℕ). Answered row k l entry exit r) (front filler16 room filled is) w;
        is = ap (ruling_line r) (margin_stays filler16 room filled is exit);
      }

  -- and of an explanation
  pub explained : (exit row capture : List ℕ) (k : ℕ) (r : Explanation) → Explained·.Answered row k capture (take room filled) exit r →
      Explained row capture k room (explanation_line r (exit ++ drop room filled))
  explained exit row capture k r w =
      record {
        explanation = r;
        list = exit;
        answered = subst (λ (entry : List ℕ). Explained·.Answered row k capture entry exit r) (front filler16 room filled is) w;
        is = ap (explanation_line r) (margin_stays filler16 room filled is exit);
      }

-- a question that is answered, or is none
module _ (least least' room room' size : ℕ) (given : List ℕ) (Answer : List ℕ → Type 0) (e : least ≡ least') (f : room ≡ room') where
  pub asks_few : length given < least → Asks least' room' size given Answer unknown_line
  asks_few h = record { few = λ _. refl; short = λ _. refl; asked = λ k _. absurd (omega arith) }

  pub asks_short : size < room + 16 → Asks least' room' size given Answer unknown_line
  asks_short h = record { few = λ _. refl; short = λ _. refl; asked = λ _ k. absurd (omega arith) }

  pub asks : (line : List ℕ) → least ≤ length given → room + 16 ≤ size → Answer line → Asks least' room' size given Answer line
  asks line long fits r = record { few = λ k. absurd (omega arith); short = λ k. absurd (omega arith); asked = λ _ _. r }

-- the numbers of a verdict
pub ruled-of : (given : List ℕ) (k l room : ℕ) → k ≡ at given 0 → l ≡ at given 1 → room ≡ at given 2 → (row line : List ℕ) →
    row ≡ drop 3 given → Ruled row k l room line → Ruled (drop 3 given) (at given 0) (at given 1) (at given 2) line
ruled-of given k l room e f g row line is r =
    subst (λ (x : ℕ). Ruled (drop 3 given) (at given 0) (at given 1) x line) g
    (subst (λ (x : ℕ). Ruled (drop 3 given) (at given 0) x room line) f
    (subst (λ (x : ℕ). Ruled (drop 3 given) x l room line) e (subst (λ (x : List ℕ). Ruled x k l room line) is r)))

-- the numbers of an explanation
pub explained-of : (given : List ℕ) (k room count : ℕ) → k ≡ at given 0 → room ≡ at given 1 → count ≡ at given 2 → (line : List ℕ) →
    Explained (take (length given - (count + 3)) (drop (count + 3) given)) (take (count + 3 - 3) (drop 3 given)) k room line →
    Explained (drop (at given 2 + 3) given) (take (at given 2) (drop 3 given)) (at given 0) (at given 1) line
explained-of given k room count e f g line r =
    let row : take (length given - (count + 3)) (drop (count + 3) given) ≡ drop (at given 2 + 3) given =
    behind given (count + 3) ∙ ap (λ (n : ℕ). drop (n + 3) given) g
    in
    let n : count + 3 - 3 ≡ at given 2 = omega arith in
    subst (λ (x : ℕ). Explained (drop (at given 2 + 3) given) (take (at given 2) (drop 3 given)) (at given 0) x line) f
    (subst (λ (x : ℕ). Explained (drop (at given 2 + 3) given) (take (at given 2) (drop 3 given)) x room line) e
    (subst (λ (x : ℕ). Explained (drop (at given 2 + 3) given) (take x (drop 3 given)) k room line) n
    (subst (λ (x : List ℕ). Explained x (take (count + 3 - 3) (drop 3 given)) k room line) row r)))

-- a replay's row and cuts
pub replayed : (given : List ℕ) (cuts room : ℕ) → cuts ≡ at given 1 → room ≡ at given 0 →
    replay_line (take (length given - (cuts + 2)) (drop (cuts + 2) given)) (take (cuts + 2 - 2) (drop 2 given)) room
    ≡ replay_line (drop (at given 1 + 2) given) (take (at given 1) (drop 2 given)) (at given 0)
replayed given cuts room e f =
    let row : take (length given - (cuts + 2)) (drop (cuts + 2) given) ≡ drop (at given 1 + 2) given =
    behind given (cuts + 2) ∙ ap (λ (k : ℕ). drop (k + 2) given) e
    in
    let n : cuts + 2 - 2 ≡ at given 1 = omega arith in
    ap₂ (λ (s t : List ℕ). replay_line s t room) row (ap (λ (k : ℕ). take k (drop 2 given)) n)
    ∙ ap (replay_line (drop (at given 1 + 2) given) (take (at given 1) (drop 2 given))) f

-- a row's figures
pub figured : (given : List ℕ) (k room : ℕ) → k ≡ at given 0 → room ≡ at given 1 →
    figures_line (take (length given - 2) (drop 2 given)) k room ≡ figures_line (drop 2 given) (at given 0) (at given 1)
figured given k room e f =
    ap (λ (s : List ℕ). figures_line s k room) (behind given 2) ∙ ap₂ (figures_line (drop 2 given)) e f
