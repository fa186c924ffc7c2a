-- The loop over the number of pairs.
use Rattle.std.proofs.Common.{◌≡◌, refl, ℕ, ◌+◌, ◌≤◌, ◌<◌, None, Some, List, [], arith}
use Rattle.scope.specs.Plan.{plan_of}
use Rattle.picks.specs.Picks.{no_pair}
use Rattle.board.specs.declared.Walk.{Walk}
use Rattle.board.specs.Walks.{Walks}
use Rattle.board.specs.declared.Board.{Board}
use Rattle.search.specs.declared.Asked.{Asked}
use Rattle.picks.specs.declared.Picked.{Picked}
use Rattle.search.specs.declared.Found.{Found}
use Rattle.order.specs.Search.{NoneOf}
use Rattle.search.specs.Hunt.{Seeks, list_of, MaySeek, Sought, MayHunt, Hunts}
use Rattle.order.proofs.First.{first-list, none_more}

-- no list of fewer than n pairs answers
abbrev pub Passed : List ℕ → Asked → ℕ → Type 0
Passed row a n = (i : ℕ) → i < n → NoneOf (plan_of row) (Seeks row a) [] i

module _ (row : List ℕ) (board : Board) (a : Asked) (low k : ℕ) (m : MayHunt row board a low k) where
  pub may-seek : (n : ℕ) (walk : Walk) → n ≤ k → Walks row board 0 walk → walk.picked ≡ no_pair board.sizes → MaySeek row board a walk n
  may-seek n walk h walks is =
      let slot : 0 ≡ walk.picked.slot = rw is refl in
      record { ready = m.ready; walks = rw slot at walks; few = rw is (omega (arith, m.few)) }

  module _ (n : ℕ) (passed : Passed row a n) (p : Picked) (is : p ≡ no_pair board.sizes) where
    pub hunt_some : (f : Found) → n ≤ k → Sought row a p n (Some f) → Hunts row a.least k (Some f)
    hunt_some f few sought =
        let found : Sought row a (no_pair board.sizes) n (Some f) = rw is at sought in
        let count : f.pairs ≡ n = omega (arith, found.count) in
        record {
          told = found.told;
          few = omega arith;
          first = first-list (plan_of row) (Seeks row a) k n (list_of f) few passed found.first;
          fewer = λ i l. passed i (omega arith);
        }

    pub hunt_on : Sought row a p n None → Passed row a (n + 1)
    hunt_on sought = none_more (plan_of row) (Seeks row a) n passed (rw is at sought)

  pub hunt_over : (n : ℕ) → Passed row a n → k < n → Hunts row a.least k None
  hunt_over n passed over i l = passed i (omega arith)
