-- The line of a plan, with its figures or refused.
use Prim.Native.Nat.{ℕ, ◌+◌, ◌*◌, ◌≤◌}
use native.Mathlib.Omega.{arith}
use mathlib.Core.Path.{◌≡◌, refl, sym, ◌∙◌, ap, subst}
use mathlib.Core.Bool.{Bool, true, false, cond}
use mathlib.Core.List.{List, [], ◌∷◌, ◌++◌}
use lib.ListN.{length}
use lib.Dec.{leb}
use Rattle.scope.specs.declared.Refusal.{Refusal}
use Rattle.scope.specs.Limits.{longest_row}
use Rattle.scope.specs.Outcome.{gives, refused}
use Rattle.scope.specs.File.{row_of}
use Rattle.scope.specs.Plan.{plan_of, message_count}
use Rattle.scope.specs.Game.{figures}
use Rattle.scope.specs.Lines.{highest_k}
use Rattle.scope.specs.Questions.{read_file}
use Rattle.scope.specs.Shelf.{Rated, rate}
use Rattle.rows.proofs.Parts.{message-count}
use Rattle.rows.proofs.Walked.{walked}
use Rattle.order.proofs.Game.{figures-length}
use Rattle.plan.specs.Answers.{GoodRow}
use Rattle.text.specs.Text.{Puts, Told}
use Rattle.verdict_text.specs.Texts.{highest_or}
use Rattle.sheet_lines.specs.declared.Tally.{Tally}
use Rattle.sheet_lines.specs.Sheet.{figures_line, refused_plan}
use Rattle.sheet_lines.specs.Tally.{sums, rated, Tallies, MayAdd, Adds}
use Rattle.sheet_lines.proofs.Adding.{tallies-refused}
use Rattle.sheet_lines.proofs.Rated.{rate-refused, rate_given, line_refused, line_given}
use Rattle.sheet_lines.proofs.Room.{figures-told, refused-told}
use Rattle.shelf_text.specs.declared.Laid.{Laid}
use Rattle.shelf_text.specs.Lines.{figures_on, MayLay, Rates, Lays}

-- how high k goes
pub highest_few : (row : List ℕ) (k : ℕ) → k ≡ highest_or 1 (plan_of row) → k ≤ 3
highest_few row k is = by (leb (length (plan_of row).links * (plan_of row).timeout) 64) refl
  where
    by : (t : Bool) → leb (length (plan_of row).links * (plan_of row).timeout) 64 ≡ t → k ≤ 3
    by true t = omega (arith, is ∙ ap (λ (u : Bool). cond u 3 1) t)
    by false t = omega (arith, is ∙ ap (λ (u : Bool). cond u 3 1) t)

pub fits : (row : List ℕ) (k : ℕ) → k ≡ highest_or 1 (plan_of row) → k + 1 ≤ 4
fits row k is = omega (arith, highest_few row k is)

module _ (row name : List ℕ) (t : Tally) (at : ℕ) (g : GoodRow row) (m : MayLay name t at) (k : ℕ) (hk : k ≡ highest_or 1 (plan_of row))
    (all : List ℕ) (told : all ≡ figures (plan_of row) 0 (k + 1)) where
  are : all ≡ figures_on row
  are = told ∙ ap (figures (plan_of row) 0) (let e : k + 1 ≡ 1 + highest_k (plan_of row) = omega (arith, hk) in e)

  few : length all ≤ sums
  few = omega (arith, ap length told, figures-length (plan_of row) 0 (k + 1), highest_few row k hk)

  pub may_tell_lem : Told at (figures_line all name)
  may_tell_lem = figures-told name m.short at m.early all few

  pub may_add : (n : ℕ) → n ≡ message_count row → MayAdd t n all
  may_add n is =
      record { plans = m.plans; tallies = m.tallies; few = m.few; most = omega (arith, (walked row g.form).messages); short = few }

  pub rates : (n : ℕ) (entry exit : List ℕ) (r : Laid) → n ≡ message_count row → Puts (figures_line all name) entry exit at r.next →
      Adds t (rated n all) r.tally → Rates row name t entry exit at r
  rates n entry exit r is puts adds =
      record {
        puts = subst (λ (fs : List ℕ). Puts (figures_line fs name) entry exit at r.next) are puts;
        adds =
            subst (λ (p : Rated). Adds t p r.tally)
            (ap (λ (fs : List ℕ). rated n fs) are ∙ ap (λ (i : ℕ). rated i (figures_on row)) (is ∙ sym (message-count row))) adds;
      }

module _ (file name : List ℕ) (t : Tally) (entry exit : List ℕ) (at : ℕ) (r : Laid) where
  pub lays_given : (n : ℕ) (row : List ℕ) → read_file file longest_row ≡ gives n → row ≡ row_of file → Rates row name t entry exit at r →
      Lays file name t entry exit at r
  lays_given n row e is rates =
      let here : Rates (row_of file) name t entry exit at r = subst (λ (x : List ℕ). Rates x name t entry exit at r) is rates in
      let are : (rate file).figures ≡ figures_on (row_of file) = ap (λ (p : Rated). p.figures) (rate_given file n e) in
      record {
        puts =
            subst (λ (s : List ℕ). Puts s entry exit at r.next)
            (sym (line_given file n e name ∙ ap (λ (fs : List ℕ). figures_line fs name) are)) here.puts;
        adds = subst (λ (p : Rated). Adds t p r.tally) (sym (rate_given file n e)) here.adds;
      }

  pub lays-refused : (x : Refusal) → read_file file longest_row ≡ refused x → Puts (refused_plan x name) entry exit at r.next → r.tally ≡ t →
      Lays file name t entry exit at r
  lays-refused x e puts same =
      record {
        puts = subst (λ (s : List ℕ). Puts s entry exit at r.next) (sym (line_refused file x e name)) puts;
        adds = λ ps tallies.
            subst (λ (p : Rated). Tallies (ps ++ (p ∷ [])) r.tally) (sym (rate-refused file x e))
            (subst (λ (u : Tally). Tallies (ps ++ (rated 0 [] ∷ [])) u) (sym same) (tallies-refused ps t tallies));
      }

pub may-refuse : (name : List ℕ) (t : Tally) (at : ℕ) (x : Refusal) → MayLay name t at → Told at (refused_plan x name)
may-refuse name t at x m = refused-told name m.short at m.early x
