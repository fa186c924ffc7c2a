-- What the search is lent is right: the table, the weights and the first positions of a good row.
use Prim.Native.Nat.{ℕ, ◌≤◌}
use native.Mathlib.Omega.{arith}
use mathlib.Core.Path.{◌≡◌, sym, ◌∙◌, ap}
use mathlib.Core.List.{List, [], map}
use lib.ListN.{length, get_or, replicate, length-replicate}
use Rattle.scope.specs.Limits.{most_slots, most_links, most_messages, table_size, plane_size, seconds_size, weights_size, longest_row}
use Rattle.scope.specs.Plan.{message_count, link_count, timeout_of, first_message, messages_at, plan_of}
use Rattle.scope.specs.Slot.{on_first}
use Rattle.scope.specs.Cycle.{table_of, positions}
use Rattle.rows.specs.Lies.{PlanLies}
use Rattle.rows.proofs.Parts.{message-count, link-count, timeout-is}
use Rattle.rows.proofs.Walked.{walked}
use Rattle.table.specs.Table.{Table}
use Rattle.cables.specs.Others.{OtherWays}
use Rattle.bound.specs.Weights.{HasRoom, MayWeigh, WeighsAll, TopsAll}
use Rattle.bound.specs.Sets.{SetsOf, StripSetsOf, MayGatherStrips}
use Rattle.strips.specs.Filled.{MayFill, Filled}
use Rattle.strips.proofs.Lent.{touched_in_set, stripped_in_set, lent as bounds_of}
use Rattle.forms.proofs.Theorems.{row-most}
use Rattle.plan.specs.Answers.{GoodRow}
use Rattle.step.specs.declared.Standing.{Standing}
use Rattle.cycle.specs.Play.{MayStart, Begins}
use Rattle.cycle.proofs.Whole.{start_is}
use Rattle.cycle.proofs.Agree.{owner-same}
use Rattle.picks.proofs.Picking.{noughts}
use Rattle.picks.specs.Picks.{StandAt}
use Rattle.board.specs.declared.Board.{Board}
use Rattle.board.specs.Lent.{Laid, Lent}

module _ (row : List ℕ) (good : GoodRow row) where
  pub lies : PlanLies row
  lies = walked row good.form

  pub may-start : (n : ℕ) → n ≡ message_count row → MayStart row n
  may-start n is =
      let l : length row ≤ longest_row = row-most row (length row) good.form in
      rw is (record { few = lies.messages; fit = omega (arith, lies.ends) })

  -- the places of robust messages may be looked up
  pub may_fill : (fragile seconds : List ℕ) → length fragile ≡ table_size → seconds ≡ replicate seconds_size 0 → MayFill row fragile seconds
  may_fill fragile seconds long zeros =
      record {
        good = good;
        long = long;
        bytes = ap length zeros ∙ length-replicate {A = ℕ} seconds_size 0;
        none = λ k. ap (λ (l : List ℕ). get_or l k 0) zeros ∙ noughts seconds_size k;
      }

  -- the table has the plan's slots
  pub few_slots : (t : ℕ) → t ≡ timeout_of row → t ≤ most_slots
  few_slots t is = omega (arith, lies.timeout)

  module _ (t : ℕ) (is : t ≡ timeout_of row) (table : List ℕ) (tab : Table (table_of (plan_of row)) table) where
    pub may-touch : (sets : List ℕ) → length sets ≡ plane_size → HasRoom table t sets
    may-touch sets long = record { entries = tab.long; few = few_slots t is; long = long }

    module _ (fragile seconds : List ℕ) (f : Filled (plan_of row) fragile seconds) where
      pub may-strip : (sets : List ℕ) → length sets ≡ plane_size → MayGatherStrips fragile seconds t sets
      may-strip sets long = record { table = record { entries = f.table.long; few = few_slots t is; long = long }; bytes = f.bytes.long }

      pub may-weigh : (others weights : List ℕ) → OtherWays (plan_of row) others → length weights ≡ weights_size →
          MayWeigh table fragile seconds others t weights
      may-weigh others weights o heavy =
          record {
            entries = tab.long;
            marks = f.table.long;
            bytes = f.bytes.long;
            ways = o.bytes;
            few = few_slots t is;
            long = heavy;
          }

  module _ (t : ℕ) (ht : t ≡ timeout_of row) (table fragile seconds others touch_sets strip_sets weights most : List ℕ)
      (tab : Table (table_of (plan_of row)) table) (f : Filled (plan_of row) fragile seconds) (o : OtherWays (plan_of row) others)
      (ts : SetsOf table t touch_sets) (ss : StripSetsOf fragile seconds t strip_sets)
      (w : WeighsAll table fragile seconds others t weights) (m : TopsAll weights t most) where
    slots : t ≡ (plan_of row).timeout
    slots = ht ∙ sym (timeout-is row)

    time : (plan_of row).timeout ≤ most_slots
    time = omega (arith, timeout-is row, lies.timeout)

    ways : length (plan_of row).links ≤ most_links
    ways = omega (arith, link-count row, lies.links)

    many : length (plan_of row).messages ≤ most_messages
    many = omega (arith, message-count row, lies.messages)

    pub lends : (e n : ℕ) → e ≡ link_count row → n ≡ message_count row →
        Lent row
        (record {
          sizes = record { timeout = t; links = e; messages = n; others = others };
          table = table;
          touches = touch_sets;
          strips = strip_sets;
          weights = weights;
          most = most;
        })
    lends e n he hn =
        record {
          laid =
              record {
                play =
                    record {
                      timeout = slots;
                      short = few_slots t ht;
                      links = he ∙ sym (link-count row);
                      few = omega (arith, lies.links);
                      messages = hn ∙ sym (message-count row);
                      others = o;
                      owner = owner-same row lies table tab;
                    };
                many = omega (arith, lies.messages);
                hit =
                    record {
                      touch = ts.long;
                      strip = ss.long;
                      touched = touched_in_set (plan_of row) time ways many table touch_sets tab (rw slots at ts);
                      stripped = stripped_in_set (plan_of row) time ways many fragile seconds f strip_sets (rw slots at ss);
                    };
                heavy = w.long;
                tops = m.tops.long;
                start = may-start n hn;
              };
          bounds = λ l need h.
              bounds_of (plan_of row) time ways many fragile seconds f table others weights tab o (rw slots at w) l need most good.keeps
              (rw slots at m) (omega (arith, message-count row));
        }

-- where the messages are put at first is where they stand at time 0 without a cut
pub stands : (row : List ℕ) (board : Board) → Laid row board → (ps : Standing) → Begins row board.sizes.messages ps →
    StandAt row board.sizes.messages [] 0 ps
unfolding positions
stands row board laid ps b =
    let n : board.sizes.messages ≡ message_count row = laid.play.messages ∙ message-count row in
    record {
      time = b.time;
      next =
          record {
            is = b.next.is ∙ ap (λ (i : ℕ). map on_first (messages_at row (first_message row) i)) n ∙ start_is row;
            stand = b.next.stand;
          };
    }
