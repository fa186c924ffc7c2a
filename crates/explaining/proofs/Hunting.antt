-- The loop over the number of pairs.
use Prim.Native.Nat.{ℕ, ◌+◌, ◌*◌, ◌≤◌, ◌<◌}
use native.Mathlib.Omega.{arith}
use mathlib.Core.Path.{◌≡◌, refl, subst}
use mathlib.Core.List.{List, []}
use lib.ListN.{take}
use Rattle.scope.specs.Plan.{plan_of}
use Rattle.step.specs.declared.Standing.{Standing}
use Rattle.order.specs.Search.{NoneOf}
use Rattle.order.proofs.First.{no_list, first-list, none_more}
use Rattle.picks.specs.declared.Sizes.{Sizes}
use Rattle.picks.specs.declared.Picked.{Picked}
use Rattle.picks.specs.Picks.{cuts_of, no_pair}
use Rattle.picks.proofs.Picking.{holding-none}
use Rattle.clues.specs.declared.Suspicion.{Suspicion}
use Rattle.clues.specs.Clues.{Matches, MaySuspect, Names}
use Rattle.std.proofs.Common.{Some, None}
use Rattle.explaining.proofs.Telling.{lists_more}
use Rattle.explaining.specs.Walk.{Lasts, MaySeek, Sought, MayHunt, Hunts}
use Rattle.explaining.proofs.Levels.{is_it}

-- no list of fewer than n pairs matches
pub record Hunting (row crossed : List ℕ) (k n : ℕ) : Type 0 where
  pub within : n ≤ k + 1
  pub none : (i : ℕ) → i < n → NoneOf (plan_of row) (Matches (plan_of row) crossed) [] i

-- so at first, by what the table says of the lists of at most k pairs, where one may match: none does with fewer pairs than links are named
module _ (row crossed : List ℕ) (z : Sizes) (k : ℕ) (p : Picked) (v : Suspicion) (told : Names row crossed p k v) where
  pub hunt_first : p ≡ no_pair z → Hunting row crossed k v.named
  hunt_first is = record { within = omega (arith, told.few); none = λ i l. rw is at (told.fewer i l) }

  -- what it says holds of the lists of at most n pairs too, where no more links are named
  told-fewer : (n : ℕ) → v.named ≤ n → Names row crossed p n v
  told-fewer n low = record { few = low; fewer = told.fewer; whole = told.whole; only = told.only }

pub hunt_none : (row crossed : List ℕ) (z : Sizes) (k : ℕ) (p : Picked) → p ≡ no_pair z →
    ((j : ℕ) → j ≤ k → NoneOf (plan_of row) (Matches (plan_of row) crossed) (cuts_of p) j) → Hunting row crossed k (k + 1)
hunt_none row crossed z k p is none = record { within = omega arith; none = λ i l. rw is at (none i (omega arith)) }

pub hunt_over : (row crossed : List ℕ) (k n : ℕ) → Hunting row crossed k n → k < n → Hunts row crossed k None
hunt_over row crossed k n g over = no_list (plan_of row) (Matches (plan_of row) crossed) k (λ i l. g.none i (omega arith))

module _ (row table crossed : List ℕ) (z : Sizes) (ps : Standing) (k : ℕ) (m : MayHunt row table crossed z ps k) where
  pub may-ask : (p : Picked) → p ≡ no_pair z → MaySuspect row table crossed z ps p
  may-ask p is =
      record {
        good = m.good;
        play = m.play;
        holding = rw is (holding-none row table z m.play);
        stand = rw is m.stand;
        before = rw is (λ i l. absurd (omega arith));
        size = m.size;
      }

  pub may-seek : (n : ℕ) (p : Picked) (v : Suspicion) (last : List ℕ) → p ≡ no_pair z → Names row crossed p k v → v.named ≤ n → n ≤ k →
      Lasts crossed z last → MaySeek row table crossed z ps p n v last
  may-seek n p v last is told low high lasts =
      record {
        suspect = may-ask p is;
        few = rw is (omega (arith, m.few));
        told = told-fewer row crossed z k p v told n low;
        lasts = lasts;
      }

  module _ (n : ℕ) (g : Hunting row crossed k n) (p : Picked) (is : p ≡ no_pair z) (few : n ≤ k) where
    pub hunt_some : (r : List ℕ) → Sought row crossed p n (Some r) → Hunts row crossed k (Some (record { pairs = n; numbers = r }))
    hunt_some r f =
        let told : Sought row crossed (no_pair z) n (Some r) = rw is at f in
        record {
          few = few;
          list =
              lists_more _ _ (0 + n) n r (omega arith)
              (λ first. first-list (plan_of row) (Matches (plan_of row) crossed) k n (take (2 * n) r) few g.none first) told;
        }

    pub hunt_on : Sought row crossed p n None → Hunting row crossed k (n + 1)
    hunt_on f =
        let told : Sought row crossed (no_pair z) n None = rw is at f in
        record { within = omega arith; none = none_more (plan_of row) (Matches (plan_of row) crossed) n g.none told }

  -- no link is named: it is the list without a pair
  pub hunt_empty : (p : Picked) (v : Suspicion) → p ≡ no_pair z → Names row crossed p k v → v.named ≡ 0 →
      Hunts row crossed k (Some (record { pairs = 0; numbers = p.numbers }))
  hunt_empty p v is told none =
      hunt_some 0 (subst (Hunting row crossed k) none (hunt_first row crossed z k p v told is)) p is (omega arith) p.numbers
      (is_it row crossed z p 0 (may-ask p is).holding refl (told.whole none))
