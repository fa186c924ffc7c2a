-- The loop that puts the sets, from the last slot down.
use Rattle.std.proofs.Common.{ℕ, zero, suc, ◌+◌, ◌-◌, ◌*◌, ◌/◌, ◌%◌, ◌≤◌, ◌<◌, arith, ◌≡◌, sym, ◌∙◌, ap, ap₂, true, List, length, get_or}
use Rattle.scope.specs.Limits.{most_slots, most_links, most_messages, plane_size}
use Rattle.table.specs.Table.{index_of, entry_at, at_index}
use Rattle.sets.specs.Sets.{has}
use Rattle.bound.specs.Sets.{set_in, Gathered}

-- from index k on a set has whom the table names, and who is in the set of the next slot
pub record Gathering (table : List ℕ) (slots : ℕ) (old new : List ℕ) (k : ℕ) : Type 0 where
  pub named : (j m : ℕ) → k ≤ j → j < slots * most_links → m < most_messages → at_index table j ≡ m + 1 → has (get_or new j 0) m ≡ true
  pub next : (j m : ℕ) → k ≤ j → j < slots * most_links → has (get_or new (j + most_links) 0) m ≡ true → has (get_or new j 0) m ≡ true
  pub rest : (j : ℕ) → slots * most_links ≤ j → get_or new j 0 ≡ get_or old j 0

module _ (table : List ℕ) (slots : ℕ) (old new : List ℕ) (k : ℕ) (g : Gathering table slots old new k) (all : k ≤ 0) where
  -- who is in a set is in those of its link and of every slot before
  before : (d s e m : ℕ) → s + d ≤ slots → e < most_links → has (set_in new (s + d) e) m ≡ true → has (set_in new s e) m ≡ true
  before zero s e m h l is = let z : s + 0 ≡ s = omega arith in rw z at is
  before (suc d) s e m h l is =
      let at : index_of (s + suc d) e ≡ index_of (s + d) e + most_links = omega arith in
      before d s e m (omega arith) l
      (g.next (index_of (s + d) e) m (omega arith) (omega arith) (ap (λ (x : ℕ). has (get_or new x 0) m) (sym at) ∙ is))

  pub gathering_done : slots ≤ most_slots → length new ≡ plane_size → Gathered table slots old new
  gathering_done few long =
      record {
        put =
            record {
              long = long;
              from = λ s i e m l h he hm is.
                  let d : s + (i - s) ≡ i = omega arith in
                  let slot : index_of i e / most_links ≡ i = omega (arith, he) in
                  let link : index_of i e % most_links ≡ e = omega (arith, he) in
                  let own : at_index table (index_of i e) ≡ m + 1 = ap₂ (entry_at table) slot link ∙ is in
                  before (i - s) s e m (omega arith) he
                  (rw d (g.named (index_of i e) m (omega arith) (omega arith) hm own));
            };
        last = λ s e m h he is.
            let d : s + (slots - s) ≡ slots = omega arith in
            before (slots - s) s e m (omega arith) he
            (rw d (ap (λ (x : ℕ). has x m) (g.rest (index_of slots e) (omega arith)) ∙ is));
      }
