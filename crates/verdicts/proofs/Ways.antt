-- The verdict: one law for each answer, and that a row, k, l and a list allow one outcome.
use Rattle.std.proofs.Common.{◌≡◌, refl, sym, ◌∙◌, ap, ap₂, ℕ, ◌*◌, ◌≤◌, ◌<◌, None, List, ◌++◌, length, take, drop, ltb, arith}
use mathlib.Core.Bool.{or-true}
use lib.ListN.{take-append-drop}
use lib.Seq.{length-take-le, take_at, drop_at}
use borrow.Author.Tests.{lt-ltb, le-ltb, le-leb, lt-leb}
use Rattle.scope.specs.declared.Refusal.{Refusal}
use Rattle.scope.proofs.Outcomes.{not-both}
use Rattle.scope.specs.Outcome.{gives, refused, refusal_at}
use Rattle.scope.specs.Plan.{plan_of, message_count}
use Rattle.scope.specs.Cuts.{pairs}
use Rattle.scope.specs.Questions.{judge, may_judge}
use Rattle.scope.specs.Verdict.{Fails}
use Rattle.scope.proofs.Order.{first_once_lem, resistant_or_failing}
use Rattle.rows.proofs.Parts.{message-count}
use Rattle.plan.specs.Answers.{GoodRow}
use Rattle.plan.proofs.Theorems.{judged}
use Rattle.search.specs.declared.Found.{Found}
use Rattle.search.specs.Hunt.{list_of, Hunted, Hunts}
use Rattle.search.proofs.Answer.{all-leave}
use Rattle.verdicts.specs.Verdict.{Ruling}
use Rattle.std.specs.Prelude.{Some, None, Ok, Err}
use Rattle.verdicts.specs.Verdict.{MayAsk, IsResistant, IsFailing, IsRefused, Answered}

-- refusals 1 to 10 and 14 to 19
pub bad-row : (row : List ℕ) (k l : ℕ) (entry : List ℕ) (r : Refusal) → judge row ≡ refused r → IsRefused row k l entry entry r
unfolding may_judge
bad-row row k l entry r e = record { may = rw e; buffer = refl }

module _ (row : List ℕ) (k l : ℕ) (entry : List ℕ) (g : GoodRow row) where
  -- refusal 11
  pub k_too_large : (r : Refusal) → 3 < k → r ≡ refusal_at 11 0 → IsRefused row k l entry entry r
  unfolding may_judge
  k_too_large r h is = record { may = rw (judged row g, lt-ltb 3 k h) (ap refused (sym is)); buffer = refl }

  pub l_too_large : (m : ℕ) (r : Refusal) → m ≡ message_count row → m < l → r ≡ refusal_at 11 0 → IsRefused row k l entry entry r
  unfolding may_judge
  l_too_large m r e h is =
      record {
        may = rw (judged row g, lt-ltb (length (plan_of row).messages) l (omega (arith, message-count row)), or-true (ltb 3 k))
            (ap refused (sym is));
        buffer = refl;
      }

  module _ (m : ℕ) (e : m ≡ message_count row) (few : k ≤ 3) (least : l ≤ m) where
    pub may-ask : MayAsk row k l
    may-ask = record { good = g; few = few; least = omega (arith, message-count row) }

    -- refusal 13
    pub too_short : (r : Refusal) → length entry < 2 * k → r ≡ refusal_at 13 (2 * k) → IsRefused row k l entry entry r
    unfolding may_judge
    too_short r h is =
        record {
          may =
              rw (
                judged row g,
                le-ltb 3 k few,
                le-ltb (length (plan_of row).messages) l (omega (arith, message-count row)),
                lt-leb (2 * k)
                    (length entry) h,
              )
              (ap refused (sym is));
          buffer = refl;
        }

    module _ (room : 2 * k ≤ length entry) where
      may : may_judge row k l (length entry) ≡ gives (2 * k)
      unfolding may_judge
      may = rw (
        judged row g,
        le-ltb 3 k few,
        le-ltb (length (plan_of row).messages) l (omega (arith, message-count row)),
        le-leb (2 * k)
            (length entry) room,
      )

      pub resists : Hunts row l k None → IsResistant row k l entry entry
      resists none = record { may = may; resistant = all-leave (plan_of row) k l none; buffer = refl }

      module _ (f : Found) (h : Hunted row l k f) where
        pub front : length (list_of f) ≡ 2 * f.pairs
        front = length-take-le (2 * f.pairs) f.numbers (omega (arith, h.told.long, h.few))

        pub fails : (exit : List ℕ) → exit ≡ list_of f ++ drop (length (list_of f)) entry → IsFailing row k l entry exit f.pairs
        fails exit is =
            let list : take (2 * f.pairs) exit ≡ list_of f =
            ap (take (2 * f.pairs)) is ∙ take_at (list_of f) (drop (length (list_of f)) entry) (2 * f.pairs) front in
            record {
              may = may;
              list = rw list h.first;
              count = rw list (omega (arith, front));
              rest =
                  ap (drop (2 * f.pairs)) is ∙ drop_at (list_of f) (drop (length (list_of f)) entry) (2 * f.pairs) front ∙
                  ap (λ (n : ℕ). drop n entry) front;
            }

-- two outcomes that the statement allows are equal
module _ (row : List ℕ) (k l : ℕ) (entry exit exit' : List ℕ) where
  pub failing_once : (n m : ℕ) → IsFailing row k l entry exit n → IsFailing row k l entry exit' m → (n ≡ m) × (exit ≡ exit')
  failing_once n m a b =
      let same : take (2 * n) exit ≡ take (2 * m) exit' = first_once_lem (plan_of row) (Fails (plan_of row) l) k (take (2 * n) exit) (take (2 * m) exit') a.list
      b.list in
      let count : n ≡ m = sym a.count ∙ ap pairs same ∙ b.count in (
        count,
        sym (take-append-drop (2 * n) exit) ∙ ap₂ ◌++◌ same (a.rest ∙ ap (λ (i : ℕ). drop (2 * i) entry) count ∙ sym b.rest) ∙
            take-append-drop (2 * m) exit',
      )

  pub one_outcome : (v w : Ruling) → Answered row k l entry exit v → Answered row k l entry exit' w → (v ≡ w) × (exit ≡ exit')
  one_outcome (Ok None) (Ok None) a b = (refl, a.buffer ∙ sym b.buffer)
  one_outcome (Ok None) (Ok (Some m)) a b = absurd (resistant_or_failing (plan_of row) k l (take (2 * m) exit') a.resistant b.list)
  one_outcome (Ok None) (Err s) a b = not-both (sym b.may ∙ a.may)
  one_outcome (Ok (Some n)) (Ok None) a b = absurd (resistant_or_failing (plan_of row) k l (take (2 * n) exit) b.resistant a.list)
  one_outcome (Ok (Some n)) (Ok (Some m)) a b = let two = failing_once n m a b in (ap (λ i. Ok (Some i)) two.0, two.1)
  one_outcome (Ok (Some n)) (Err s) a b = not-both (sym b.may ∙ a.may)
  one_outcome (Err r) (Ok None) a b = not-both (sym a.may ∙ b.may)
  one_outcome (Err r) (Ok (Some m)) a b = not-both (sym a.may ∙ b.may)
  one_outcome (Err r) (Err s) a b =
      let same : r ≡ s = cc (a.may, b.may) in
      (ap Err same, a.buffer ∙ sym b.buffer)
