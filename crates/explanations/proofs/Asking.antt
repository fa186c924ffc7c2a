-- What the walk is lent is right: the table and the first positions of a good row, and its sizes.
use Prim.Native.Nat.{ℕ, ◌≤◌}
use native.Mathlib.Omega.{arith}
use mathlib.Core.Path.{◌≡◌, sym, ◌∙◌, ap}
use mathlib.Core.List.{List, map}
use lib.ListN.{length}
use Rattle.scope.specs.Limits.{longest_row}
use Rattle.scope.specs.Plan.{message_count, link_count, timeout_of, first_message, messages_at, plan_of}
use Rattle.scope.specs.Slot.{on_first}
use Rattle.scope.specs.Cycle.{table_of, positions}
use Rattle.rows.specs.Lies.{PlanLies}
use Rattle.rows.proofs.Parts.{message-count, link-count, timeout-is}
use Rattle.rows.proofs.Walked.{walked}
use Rattle.table.specs.Table.{Table}
use Rattle.cables.specs.Others.{OtherWays}
use Rattle.forms.proofs.Theorems.{row-most}
use Rattle.plan.specs.Answers.{GoodRow}
use Rattle.step.specs.declared.Standing.{Standing}
use Rattle.cycle.specs.Play.{MayStart, Begins}
use Rattle.cycle.proofs.Whole.{start_is}
use Rattle.cycle.proofs.Agree.{owner-same}
use Rattle.capture.specs.Kept.{Small}
use Rattle.explaining.specs.Walk.{MayHunt}
use Rattle.explanations.specs.Explained.{MayDecide}

module _ (row : List ℕ) (good : GoodRow row) where
  pub lies : PlanLies row
  lies = walked row good.form

  pub small : Small row
  small = record { timeout = lies.timeout; links = lies.links; messages = lies.messages }

  pub may-start : (n : ℕ) → n ≡ message_count row → MayStart row n
  may-start n is =
      let l : length row ≤ longest_row = row-most row (length row) good.form in
      rw is (record { few = lies.messages; fit = omega (arith, lies.ends) })

pub may_hunt : (row : List ℕ) (k : ℕ) (crossed : List ℕ) → MayDecide row k crossed → (table : List ℕ) → Table (table_of (plan_of row)) table →
    (t e n : ℕ) (others : List ℕ) (ps : Standing) → t ≡ timeout_of row → e ≡ link_count row → n ≡ message_count row →
    OtherWays (plan_of row) others → Begins row n ps →
    MayHunt row table crossed (record { timeout = t; links = e; messages = n; others = others }) ps k
unfolding positions
may_hunt row k crossed m table tab t e n others ps ht he hn ho b =
    record {
      good = m.good.keeps;
      play =
          record {
            timeout = ht ∙ sym (timeout-is row);
            short = omega (arith, (lies row m.good).timeout);
            links = he ∙ sym (link-count row);
            few = omega (arith, (lies row m.good).links);
            messages = hn ∙ sym (message-count row);
            others = ho;
            owner = owner-same row (lies row m.good) table tab;
          };
      stand =
          record {
            time = b.time;
            next =
                record {
                  is = b.next.is ∙ ap (λ (i : ℕ). map on_first (messages_at row (first_message row) i)) hn ∙ start_is row;
                  stand = b.next.stand;
                };
          };
      size = m.size;
      few = m.few;
    }
