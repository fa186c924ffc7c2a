-- What is allowed of a call is one outcome: two calls with the same input tell the same numbers and leave the same buffer.
use Prim.Native.Nat.{ℕ}
use mathlib.Core.Path.{◌≡◌, refl, sym, ◌∙◌, ap}
use mathlib.Core.Bool.{cond}
use mathlib.Core.List.{List}
use lib.ListN.{length}
use lib.Dec.{eqb}
use lib.IntN.{ℤ}
use Rattle.scope.specs.Outcome.{Answer}
use Rattle.std.specs.Prelude.{Ok, Err}
use Rattle.scope.specs.Outcome.{Outcome, outcome_of, gives, refused}
use Rattle.scope.specs.Plan.{second_start}
use Rattle.scope.specs.SecondPath.{place_index}
use Rattle.scope.specs.Questions.{may_spare}
use Rattle.verdicts.proofs.Ways as verdict
use Rattle.explanations.proofs.Ways as explanation
use Rattle.all_verdicts.specs.Answers.{AnswersAll, may_answer}
use Rattle.all_verdicts.proofs.Ways as all
use Rattle.nuthatchet.specs.Told.{Refuses, Told, Tells, TellsAll, TellsSlack}
use Rattle.nuthatchet.specs.Part.{TellsPart}
use Rattle.nuthatchet.specs.Ruled.{ruled, TellsRuling}
use Rattle.nuthatchet.specs.Explained.{explained, TellsExplanation}

answer_of : Outcome → Answer
answer_of (gives i) = Ok i
answer_of (refused r) = Err r

answer_back : (o : Outcome) → outcome_of (answer_of o) ≡ o
unfolding answer_of
answer_back (gives i) = refl
answer_back (refused r) = refl

-- the four numbers of a refusal are the same
abbrev pub Same : ℕ → ℕ → ℕ → ℕ → ℕ → ℕ → ℕ → ℕ → Type 0
Same n p q s n' p' q' s' = (n ≡ n') × (p ≡ p') × (q ≡ q') × (s ≡ s')

module _ {n p q s n' p' q' s' : ℕ} where
  one_refusal : (o : Outcome) → Refuses o n p q s → Refuses o n' p' q' s' → Same n p q s n' p' q' s'
  one_refusal o a b =
      (a.number ∙ sym b.number, a.place ∙ sym b.place, a.at ∙ sym b.at, a.step ∙ sym b.step)

  pub one_slack : (row : List ℕ) (m i : ℕ) {y z : ℤ} → TellsSlack row m i n p q s y → TellsSlack row m i n' p' q' s' z →
      Same n p q s n' p' q' s' × (y ≡ z)
  one_slack row m i a b = (one_refusal (may_spare row m i) a.refusal b.refusal, a.slack ∙ sym b.slack)

  module _ {v v' : ℕ} where
    pub one_told : (o : Outcome) → Told o n p q s v → Told o n' p' q' s' v' → Same n p q s n' p' q' s' × (v ≡ v')
    one_told o a b = (one_refusal o a.refusal b.refusal, a.result ∙ sym b.result)

    pub one_telling : (o : Outcome) (written entry exit exit' : List ℕ) → Tells o written entry exit n p q s v →
        Tells o written entry exit' n' p' q' s' v' → (Same n p q s n' p' q' s' × (v ≡ v')) × (exit ≡ exit')
    one_telling o written entry exit exit' a b = (one_told o a.told b.told, a.buffer ∙ sym b.buffer)

    pub one_ruling : (row : List ℕ) (k l : ℕ) (entry exit exit' : List ℕ) → TellsRuling row k l entry exit n p q s v →
        TellsRuling row k l entry exit' n' p' q' s' v' → (Same n p q s n' p' q' s' × (v ≡ v')) × (exit ≡ exit')
    one_ruling row k l entry exit exit' a b =
        let same = verdict.one_outcome row k l entry exit exit' a.ruling b.ruling a.answered b.answered in
        let t : Told (ruled b.ruling) n p q s v = rw (← same.0) a.told in
        (one_told (ruled b.ruling) t b.told, same.1)

    pub one_explanation : (row : List ℕ) (k : ℕ) (capture entry exit exit' : List ℕ) → TellsExplanation row k capture entry exit n p q s v →
        TellsExplanation row k capture entry exit' n' p' q' s' v' → (Same n p q s n' p' q' s' × (v ≡ v')) × (exit ≡ exit')
    one_explanation row k capture entry exit exit' a b =
        let same = explanation.one_outcome row k capture entry exit exit' a.explanation b.explanation a.answered b.answered in
        let t : Told (explained b.explanation) n p q s v = rw (← same.0) a.told in
        (one_told (explained b.explanation) t b.told, same.1)

    pub one_all : (row : List ℕ) (k : ℕ) (entry exit exit' : List ℕ) → TellsAll row k entry exit n p q s v →
        TellsAll row k entry exit' n' p' q' s' v' → (Same n p q s n' p' q' s' × (v ≡ v')) × (exit ≡ exit')
    one_all row k entry exit exit' a b =
        let o = may_answer row k (length entry) in
        let f : AnswersAll row k entry exit (answer_of o) = record { answer = answer_back o; buffer = a.buffer } in
        let g : AnswersAll row k entry exit' (answer_of o) = record { answer = answer_back o; buffer = b.buffer } in
        (one_told o a.told b.told, (all.one_outcome row k entry exit exit' (answer_of o) (answer_of o) f g).1)

module _ (row : List ℕ) (m q : ℕ) {n i n' i' : ℕ} where
  pub one_part : TellsPart row m q n i → TellsPart row m q n' i' → (n ≡ n') × (i ≡ i')
  one_part a b =
      let same : n ≡ n' = a.count ∙ sym b.count in
      (same, a.begins ∙ ap (λ (k : ℕ). cond (eqb k 0) 0 (second_start (place_index row m q))) same ∙ sym b.begins)
