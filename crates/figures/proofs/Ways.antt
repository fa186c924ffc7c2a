-- The figures: one law for each answer, and that one figure is the last of all.
use Prim.Native.Nat.{ℕ, ◌+◌, ◌≤◌, ◌<◌}
use native.Mathlib.Omega.{arith}
use mathlib.Core.Path.{◌≡◌, refl, sym, ◌∙◌, ap}
use mathlib.Core.Bool.{Bool, true, false, cond}
use mathlib.Core.List.{List, [], ◌∷◌, ◌++◌, append_assoc}
use lib.ListN.{length, get_or, take, drop}
use lib.Seq.{get_or_at, take_at}
use lib.Dec.{ltb}
use borrow.Author.Tests.{lt-ltb, le-ltb, le-leb, lt-leb, ltb-false}
use Rattle.scope.specs.Outcome.{Answer}
use Rattle.std.specs.Prelude.{Ok, Err}
use Rattle.scope.specs.declared.Refusal.{Refusal}
use Rattle.scope.specs.Outcome.{Outcome, gives, refused, refuse, outcome_of, and_then, room}
use Rattle.scope.specs.Plan.{plan_of}
use Rattle.scope.specs.Game.{figure, figures}
use Rattle.scope.specs.Questions.{judge, after, figure_of, figures_of}
use Rattle.scope.proofs.Outcomes.{not-both}
use Rattle.order.proofs.Game.{figures-length, figures-more}
use Rattle.plan.specs.Answers.{GoodRow}
use Rattle.plan.proofs.Theorems.{judged}
use Rattle.plan.proofs.Outcomes.{then-back, room-there}
use Rattle.figures.specs.Figures.{FiguresAll, Filled}

-- a refusal changes nothing
refuses : (row : List ℕ) (k : ℕ) (entry : List ℕ) (r : Refusal) (a : Answer) → figures_of row k (length entry) ≡ refused r →
    outcome_of a ≡ refused r → FiguresAll row k entry entry a
unfolding after
refuses row k entry r a e is = record { answer = is ∙ sym e; buffer = rw e refl }

pub bad-row : (row : List ℕ) (k : ℕ) (entry : List ℕ) (r : Refusal) → judge row ≡ refused r → FiguresAll row k entry entry (Err r)
unfolding figures_of
bad-row row k entry r e = refuses row k entry r (Err r) (rw e) refl

module _ (row : List ℕ) (k : ℕ) (entry : List ℕ) (g : GoodRow row) where
  pub k_too_large : (a : Answer) → 3 < k → outcome_of a ≡ refuse 11 0 → FiguresAll row k entry entry a
  unfolding figures_of
  k_too_large a h is = refuses row k entry _ a (rw (judged row g, lt-ltb 3 k h)) is

  module _ (few : k ≤ 3) where
    pub too_short : (a : Answer) → length entry < k + 1 → outcome_of a ≡ refuse 13 (k + 1) → FiguresAll row k entry entry a
    unfolding figures_of
    too_short a h is = refuses row k entry _ a (rw (judged row g, le-ltb 3 k few, lt-leb (k + 1) (length entry) h)) is

    pub all_told : (exit : List ℕ) → k + 1 ≤ length entry → Filled (plan_of row) k entry exit → FiguresAll row k entry exit (Ok (k + 1))
    unfolding figures_of after
    all_told exit enough filled =
        let o : figures_of row k (length entry) ≡ gives (k + 1) = rw (judged row g, le-ltb 3 k few, le-leb (k + 1) (length entry) enough) in
        record {
          answer = sym o;
          buffer =
              filled ∙ ap (λ (n : ℕ). figures (plan_of row) 0 (k + 1) ++ drop n entry) (sym (figures-length (plan_of row) 0 (k + 1))) ∙
              ap (λ (x : Outcome). after x (figures (plan_of row) 0 (k + 1)) entry) (sym o);
        }

-- of a good row and such a k, with room, the figures stand at the front
pub good-told : (row : List ℕ) (k : ℕ) (entry exit : List ℕ) (a : Answer) → GoodRow row → k ≤ 3 → k + 1 ≤ length entry →
    FiguresAll row k entry exit a → take (k + 1) exit ≡ figures (plan_of row) 0 (k + 1)
unfolding figures_of after
good-told row k entry exit a g few enough told =
    let o : figures_of row k (length entry) ≡ gives (k + 1) = rw (judged row g, le-ltb 3 k few, le-leb (k + 1) (length entry) enough) in
    let is : exit ≡ figures (plan_of row) 0 (k + 1) ++ drop (length (figures (plan_of row) 0 (k + 1))) entry =
    told.buffer ∙ ap (λ (x : Outcome). after x (figures (plan_of row) 0 (k + 1)) entry) o in
    ap (take (k + 1)) is ∙
    take_at (figures (plan_of row) 0 (k + 1)) (drop (length (figures (plan_of row) 0 (k + 1))) entry) (k + 1) (figures-length (plan_of row) 0 (k +
    1))

-- one figure is asked for as all are, into room enough for four
module _ (row : List ℕ) (k : ℕ) where
  asked_one : (n : ℕ) → cond (ltb 3 k) (refuse 11 0) (room (k + 1) 4) ≡ gives n → k ≤ 3
  asked_one n = by (ltb 3 k) refl
    where
      by : (t : Bool) → ltb 3 k ≡ t → cond t (refuse 11 0) (room (k + 1) 4) ≡ gives n → k ≤ 3
      by true t e = not-both e
      by false t e = ltb-false 3 k t

  pub one_refused : (entry : List ℕ) (r : Refusal) → length entry ≡ 4 → figures_of row k (length entry) ≡ refused r →
      figure_of row k ≡ refused r
  unfolding figure_of figures_of
  one_refused entry r four e = by (judge row) refl (rw four at e)
    where
      few : (t : Bool) → ltb 3 k ≡ t → cond t (refuse 11 0) (room (k + 1) 4) ≡ refused r →
          cond t (refuse 11 0) (gives (figure (plan_of row) k)) ≡ refused r
      few true t e = e
      few false t e = not-both (sym e ∙ room-there (k + 1) 4 (omega (arith, ltb-false 3 k t)))

      by : (o : Outcome) → judge row ≡ o → and_then o (λ _. cond (ltb 3 k) (refuse 11 0) (room (k + 1) 4)) ≡ refused r →
          and_then o (λ _. cond (ltb 3 k) (refuse 11 0) (gives (figure (plan_of row) k))) ≡ refused r
      by (refused q) is e = e
      by (gives n) is e = few (ltb 3 k) refl e

  pub one_given : (entry exit : List ℕ) (n f : ℕ) → length entry ≡ 4 → figures_of row k (length entry) ≡ gives n →
      exit ≡ after (figures_of row k (length entry)) (figures (plan_of row) 0 (k + 1)) entry → f ≡ get_or exit k 0 → gives f ≡ figure_of row k
  unfolding figure_of figures_of after
  one_given entry exit n f four e told is =
      let back = then-back (judge row) (λ _. cond (ltb 3 k) (refuse 11 0) (room (k + 1) 4)) n (rw four at e) in
      let few = asked_one n back.2 in
      sym
      (ap (λ (o : Outcome). and_then o (λ _. cond (ltb 3 k) (refuse 11 0) (gives (figure (plan_of row) k)))) back.1 ∙
      ap (λ (t : Bool). cond t (refuse 11 0) (gives (figure (plan_of row) k))) (le-ltb 3 k few) ∙ ap gives (sym (is ∙ last)))
    where
      last : get_or exit k 0 ≡ figure (plan_of row) k
      last =
          ap (λ (l : List ℕ). get_or l k 0) (told ∙ ap (λ (o : Outcome). after o (figures (plan_of row) 0 (k + 1)) entry) e ∙
          ap (λ (l : List ℕ). l ++ drop (length (figures (plan_of row) 0 (k + 1))) entry) (figures-more (plan_of row) 0 k) ∙
          append_assoc (figures (plan_of row) 0 k) (figure (plan_of row) (0 + k) ∷ []) (drop (length (figures (plan_of row) 0 (k + 1))) entry)) ∙
          get_or_at (figures (plan_of row) 0 k) (figure (plan_of row) (0 + k)) (drop (length (figures (plan_of row) 0 (k + 1))) entry) 0 k
          (figures-length (plan_of row) 0 k) ∙
          (let z : 0 + k ≡ k = omega arith in ap (figure (plan_of row)) z)
