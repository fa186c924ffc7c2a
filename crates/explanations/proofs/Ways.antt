-- The explanation: one law for each answer, and that a row, k, a capture and a list allow one outcome.
use Prim.Native.Nat.{ℕ, ◌*◌, ◌≤◌, ◌<◌}
use native.Mathlib.Omega.{arith}
use mathlib.Core.Path.{◌≡◌, refl, sym, ◌∙◌, ap, ap₂}
use mathlib.Core.Bool.{true, false}
use mathlib.Core.List.{List, ◌++◌}
use lib.ListN.{length, take, drop, take-append-drop}
use lib.Seq.{length-take-le, take_at, drop_at}
use borrow.Author.Tests.{lt-ltb, le-ltb, le-leb, lt-leb}
use Rattle.scope.specs.declared.Refusal.{Refusal}
use Rattle.scope.specs.Limits.{most_slots, most_messages}
use Rattle.scope.specs.Outcome.{gives, refused, refusal_at}
use Rattle.scope.specs.Plan.{plan_of}
use Rattle.scope.specs.Cuts.{pairs}
use Rattle.scope.specs.Capture.{Explains, FirstExplaining, Unexplained as NoListExplains}
use Rattle.scope.specs.Questions.{judge, may_explain}
use Rattle.scope.proofs.Outcomes.{not-both}
use Rattle.scope.proofs.Order.{first_once_lem}
use Rattle.rows.proofs.Parts.{message-count, timeout-is}
use Rattle.rows.proofs.Walked.{walked}
use Rattle.plan.specs.Answers.{GoodRow}
use Rattle.plan.proofs.Theorems.{judged}
use Rattle.capture.specs.declared.Kept.{Kept}
use Rattle.capture.specs.Kept.{Keeps}
use Rattle.capture.proofs.Keeping.{check_kept}
use Rattle.clues.specs.Clues.{Matches}
use Rattle.explaining.specs.declared.Hunted.{Hunted}
use Rattle.explaining.specs.Walk.{IsFirst, Hunts}
use Rattle.explanations.specs.Explained.{Explanation}
use Rattle.std.specs.Prelude.{Some, None, Ok, Err}
use Rattle.explanations.specs.Explained.{IsUnexplained, IsListed, IsRefused, Answered}
use Rattle.explanations.proofs.Crossings.{matches, explains, unexplained, first-same}

-- refusals 1 to 10 and 14 to 19
pub bad-row : (row : List ℕ) (k : ℕ) (capture entry : List ℕ) (r : Refusal) → judge row ≡ refused r → IsRefused row k capture entry entry r
unfolding may_explain
bad-row row k capture entry r e = record { may = rw e; buffer = refl }

-- a list was found: it has so many numbers
pub front : (row crossed : List ℕ) (k : ℕ) (h : Hunted) → k ≤ 3 → IsFirst row crossed k h →
    length (take (2 * h.pairs) h.numbers) ≡ 2 * h.pairs
front row crossed k h few f = length-take-le (2 * h.pairs) h.numbers (omega (arith, f.list.long, f.few))

module _ (row : List ℕ) (k : ℕ) (capture entry : List ℕ) (g : GoodRow row) where
  -- refusal 11
  pub k_too_large : (r : Refusal) → 3 < k → r ≡ refusal_at 11 0 → IsRefused row k capture entry entry r
  unfolding may_explain
  k_too_large r h is = record { may = rw (judged row g, lt-ltb 3 k h) (ap refused (sym is)); buffer = refl }

  module _ (few : k ≤ 3) (crossed : List ℕ) (kept : Kept) (has : Keeps (plan_of row) capture crossed kept) where
    -- refusal 23
    pub bad_capture : (r : Refusal) → kept.bad ≡ true → r ≡ refusal_at 23 kept.count → IsRefused row k capture entry entry r
    unfolding may_explain
    bad_capture r bad is =
        record {
          may = rw (judged row g, le-ltb 3 k few, check_kept (plan_of row) capture crossed kept has, bad) (ap refused (sym is));
          buffer = refl;
        }

    module _ (fine : kept.bad ≡ false) where
      -- refusal 13
      pub too_short : (r : Refusal) → length entry < 2 * k → r ≡ refusal_at 13 (2 * k) → IsRefused row k capture entry entry r
      unfolding may_explain
      too_short r h is =
          record {
            may = rw (judged row g, le-ltb 3 k few, check_kept (plan_of row) capture crossed kept has, fine, lt-leb (2 * k) (length entry) h)
                (ap refused (sym is));
            buffer = refl;
          }

      module _ (room : 2 * k ≤ length entry) where
        may : may_explain row k capture (length entry) ≡ gives (2 * k)
        unfolding may_explain
        may =
            rw (judged row g, le-ltb 3 k few, check_kept (plan_of row) capture crossed kept has, fine, le-leb (2 * k) (length entry) room)

        slots : (plan_of row).timeout ≤ most_slots
        slots = omega (arith, timeout-is row, (walked row g.form).timeout)

        many : length (plan_of row).messages ≤ most_messages
        many = omega (arith, message-count row, (walked row g.form).messages)

        pub on_two_links : kept.twice ≡ true → IsUnexplained row k capture entry entry
        on_two_links two =
            record { may = may; unexplained = unexplained (plan_of row) slots many capture crossed kept (has.all fine) two k; buffer = refl }

        pub none_found : kept.twice ≡ false → Hunts row crossed k None → IsUnexplained row k capture entry entry
        unfolding NoListExplains
        none_found once none =
            record {
              may = may;
              unexplained = λ cuts good few it.
                  none cuts few good (matches (plan_of row) slots many capture crossed kept (has.all fine) once cuts it);
              buffer = refl;
            }

        module _ (once : kept.twice ≡ false) (h : Hunted) (f : IsFirst row crossed k h) where
          size : length (take (2 * h.pairs) h.numbers) ≡ 2 * h.pairs
          size = front row crossed k h few f

          pub one_found : (exit : List ℕ) → exit ≡ take (2 * h.pairs) h.numbers ++ drop (length (take (2 * h.pairs) h.numbers)) entry →
              IsListed row k capture entry exit h.pairs
          one_found exit is =
              let n = 2 * h.pairs in
              let list : take n exit ≡ take n h.numbers =
              ap (take n) is ∙ take_at (take n h.numbers) (drop (length (take n h.numbers)) entry) n size in
              record {
                may = may;
                list =
                    rw list
                    (first-same (plan_of row) (Matches (plan_of row) crossed) (Explains (plan_of row) capture) k (take n h.numbers)
                    (explains (plan_of row) slots many capture crossed kept (has.all fine) once)
                    (matches (plan_of row) slots many capture crossed kept (has.all fine) once) f.list.first);
                count = rw list (omega (arith, size));
                rest =
                    ap (drop n) is ∙ drop_at (take n h.numbers) (drop (length (take n h.numbers)) entry) n size ∙
                    ap (λ (i : ℕ). drop i entry) size;
              }

-- two outcomes that the statement allows are equal
module _ (row : List ℕ) (k : ℕ) (capture entry exit exit' : List ℕ) where
  listed_once : (n m : ℕ) → IsListed row k capture entry exit n → IsListed row k capture entry exit' m → (n ≡ m) × (exit ≡ exit')
  listed_once n m a b =
      let same : take (2 * n) exit ≡ take (2 * m) exit' =
      first_once_lem (plan_of row) (Explains (plan_of row) capture) k (take (2 * n) exit) (take (2 * m) exit') a.list b.list in
      let count : n ≡ m = sym a.count ∙ ap pairs same ∙ b.count in (
        count,
        sym (take-append-drop (2 * n) exit) ∙ ap₂ ◌++◌ same (a.rest ∙ ap (λ (i : ℕ). drop (2 * i) entry) count ∙ sym b.rest) ∙
            take-append-drop (2 * m) exit',
      )

  explained_or_not : {A : Type 0} (cuts : List ℕ) → NoListExplains (plan_of row) k capture → FirstExplaining (plan_of row) k capture cuts → A
  unfolding NoListExplains
  explained_or_not cuts none f = absurd (none cuts f.good f.few f.answers)

  pub one_outcome : (v w : Explanation) → Answered row k capture entry exit v → Answered row k capture entry exit' w → (v ≡ w) × (exit ≡ exit')
  one_outcome (Ok None) (Ok None) a b = (refl, a.buffer ∙ sym b.buffer)
  one_outcome (Ok None) (Ok (Some m)) a b = explained_or_not (take (2 * m) exit') a.unexplained b.list
  one_outcome (Ok None) (Err s) a b = not-both (sym b.may ∙ a.may)
  one_outcome (Ok (Some n)) (Ok None) a b = explained_or_not (take (2 * n) exit) b.unexplained a.list
  one_outcome (Ok (Some n)) (Ok (Some m)) a b = let two = listed_once n m a b in (ap (λ i. Ok (Some i)) two.0, two.1)
  one_outcome (Ok (Some n)) (Err s) a b = not-both (sym b.may ∙ a.may)
  one_outcome (Err r) (Ok None) a b = not-both (sym a.may ∙ b.may)
  one_outcome (Err r) (Ok (Some m)) a b = not-both (sym a.may ∙ b.may)
  one_outcome (Err r) (Err s) a b =
      let same : r ≡ s = cc (a.may, b.may) in
      (ap Err same, a.buffer ∙ sym b.buffer)
