-- What one pair can both touch and strip: the loops that find it.
use Rattle.std.proofs.Common.{ℕ, ◌+◌, ◌-◌, ◌*◌, min, ◌≤◌, ◌<◌, arith, ◌≡◌, ◌∙◌, List, length, get_or}
use Rattle.std.proofs.lemmas.Grind.{common_steps}
use borrow.Rule.Slice.PartMut.{mid_of, put_mid}
use Rattle.scope.specs.Limits.{most_slots, most_links, most_messages, plane_size, front_size, fronts_size}
use Rattle.bound.specs.Bounds.{weight_in, front_of}
use Rattle.bound.specs.Weights.{TopsEach, TopsAll}
use Rattle.bound.specs.Fronts.{Bucketed, RunsDown, FrontRow, Fronts}
use Rattle.bound.proofs.Planes.{put_in, put-before, put-long}
use Rattle.bound.proofs.Weights.{Topping}

-- a loop from the last number down: those before index k are as they were
pub record Running (old new : List ℕ) (top k : ℕ) : Type 0 where
  pub topping : Topping (λ i v. get_or old i 0 ≤ v) front_size new top k
  pub same : (i : ℕ) → i < k → get_or new i 0 ≡ get_or old i 0

-- the weights of slot s are a part of a plane, from index a to b
slot-part : (weights : List ℕ) (j s a b e : ℕ) → a ≡ j * plane_size + s * most_links → b ≡ a + most_links → e < most_links →
    get_or (mid_of a (b - a) weights) e 0 ≡ weight_in weights j s e
slot-part weights j s a b e from to h = grind (arith, common_steps)

pub front-row : (weights : List ℕ) (s : ℕ) (old new : List ℕ) →
    Bucketed (mid_of (s * most_links) ((s + 1) * most_links - s * most_links) weights)
    (mid_of (plane_size + s * most_links) (plane_size + (s + 1) * most_links - (plane_size + s * most_links)) weights) most_links old →
    RunsDown old new → FrontRow weights s new
front-row weights s old new b r =
    record {
      long = r.long;
      most =
          λ e x he hx.
          let w = weight_in weights 0 s e in
          let touched = slot-part weights 0 s (s * most_links) ((s + 1) * most_links) e (omega arith) (omega arith) he in
          let stripped = slot-part weights 1 s (plane_size + s * most_links) (plane_size + (s + 1) * most_links) e (omega arith) (omega arith) he in
          omega (
            arith,
            rw (touched, stripped) at (b.most e he),
            r.most (min x most_messages) (min w most_messages) (omega arith) (omega arith),
          );
    }

-- a loop over the slots, at slot s
pub fronts-more : (weights fronts : List ℕ) (s : ℕ) → Fronts weights s fronts → (slots : ℕ) → slots ≤ most_slots → s < slots →
    (row : List ℕ) → FrontRow weights s row →
    Fronts weights (s + 1) (put_mid (s * front_size) ((s + 1) * front_size - s * front_size) fronts row)
fronts-more weights fronts s g slots few h row r =
    record {
      long = grind (arith, common_steps, g.long, r.long);
      most = λ i e x b he hx. grind (arith, common_steps, g.most i e x, r.most e x, g.long, r.long);
    }

-- the tops, and the fronts after them
pub tops_and_fronts : (weights : List ℕ) (slots : ℕ) (old new : List ℕ) → slots ≤ most_slots → TopsEach weights slots old →
    Fronts weights slots new → TopsAll weights slots (put_mid (3 * most_slots) fronts_size old new)
tops_and_fronts weights slots old new few t f =
    let room : 3 * most_slots + fronts_size ≤ length old = omega (arith, t.long) in
    record {
      tops =
          record {
            long = put-long (3 * most_slots) fronts_size old new room f.long ∙ t.long;
            later =
                λ j s i e l a b c.
                omega (
                  arith,
                  t.later j s i e l a b c,
                  put-before (3 * most_slots) fronts_size old new room f.long (j * most_slots + s) (omega arith),
                );
          };
      fronts =
          λ s e x hs he hx.
          omega (arith, f.most s e x hs he hx, put_in (3 * most_slots) fronts_size old new room f.long (front_of s x) (omega arith));
    }
