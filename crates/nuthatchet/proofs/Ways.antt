-- What a function of the face tells, from what it calls ensures.
use Prim.Native.Nat.{ℕ}
use mathlib.Core.Path.{◌≡◌, sym, ◌∙◌, ap}
use mathlib.Core.List.{List}
use lib.IntN.{ℤ, pos}
use mir.Syntax.{w32}
use mir.Val.{SFits, to_z, of_z}
use mir.Facts.{to_z-of_z}
use Rattle.scope.specs.Outcome.{Answer}
use Rattle.scope.specs.declared.Refusal.{Refusal}
use Rattle.scope.specs.Outcome.{Outcome, outcome_of, gives, refused, number, place, path_place, path_step, result}
use Rattle.scope.specs.Questions.{after}
use Rattle.plan.specs.Answers.{Answers}
use Rattle.listing.specs.Prints.{Says}
use Rattle.all_verdicts.specs.Answers.{AnswersAll}
use Rattle.spare.specs.Slack.{Spare}
use Rattle.std.specs.Prelude.{Ok, Err}
use Rattle.spare.specs.Slack.{Slacks, said, value}
use Rattle.nuthatchet.specs.Told.{Refuses, Told, Tells, TellsText, TellsAll, TellsSlack}

-- a refusal of what has another name
refuses_as : {o o' : Outcome} {n p q s : ℕ} → o ≡ o' → Refuses o n p q s → Refuses o' n p q s
refuses_as e r =
    record { number = r.number ∙ ap number e; place = r.place ∙ ap place e; at = r.at ∙ ap path_place e; step = r.step ∙ ap path_step e }

module _ (a : Answer) {n p q s v : ℕ} (t : Told (outcome_of a) n p q s v) where
  pub told : {o : Outcome} → outcome_of a ≡ o → Told o n p q s v
  told e = record { refusal = refuses_as e t.refusal; result = t.result ∙ ap result e }

  pub tells : {o : Outcome} {written entry exit : List ℕ} → Answers o written entry exit a → Tells o written entry exit n p q s v
  tells h = record { told = told h.answer; buffer = h.buffer }

  pub prints : {may : Outcome} {text entry exit : List ℕ} → Says may text entry exit a → TellsText may text entry exit n p q s v
  prints {may} {text} {entry} h =
      record { told = told h.answer; buffer = h.buffer ∙ ap (λ (o : Outcome). after o text entry) h.answer }

  pub says_all : {row : List ℕ} {k : ℕ} {entry exit : List ℕ} → AnswersAll row k entry exit a → TellsAll row k entry exit n p q s v
  says_all h = record { told = told h.answer; buffer = h.buffer }

-- nothing is refused, whatever is given
pub allows : {n p q s : ℕ} (i : ℕ) → Refuses (gives 0) n p q s → Refuses (gives i) n p q s
allows i r = record { number = r.number; place = r.place; at = r.at; step = r.step }

-- a slack, and a refusal in its place
module _ (row : List ℕ) (m i : ℕ) (a : Spare) (h : Slacks row m i a) {n p q s : ℕ} where
  pub slots : (z : ℤ) → a ≡ Ok z → SFits w32 z → Refuses (gives 0) n p q s → TellsSlack row m i n p q s (to_z w32 (of_z w32 z))
  slots z e fits r =
      record { refusal = refuses_as (sym (ap said e) ∙ h.answer) r; slack = to_z-of_z fits ∙ sym (ap value e) ∙ h.value }

  pub no_slots : (r : Refusal) → a ≡ Err r → Refuses (refused r) n p q s → TellsSlack row m i n p q s (pos 0)
  no_slots r e t = record { refusal = refuses_as (sym (ap said e) ∙ h.answer) t; slack = sym (ap value e) ∙ h.value }
