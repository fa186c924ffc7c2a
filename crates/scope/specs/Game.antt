-- Document 02, [2]: "Think of it as a game: in each slot the breaker picks what else to cut, then the network moves one slot, and they
-- alternate until the timeout." What the breaker can leave at least is the plan's figure.
use Rattle.std.specs.Prelude.{ℕ, zero, suc, ◌+◌, ◌-◌, ◌≤◌, min, ◌≡◌, Bool, true, not, ◌&&◌, cond, List, [], ◌∷◌, ◌++◌, length, ltb}
use Rattle.scope.specs.Plan.{Plan}
use Rattle.scope.specs.Cuts.{pairs, bad_pair, is_cut, is_cut_list}
use Rattle.scope.specs.Slot.{Position}
use Rattle.scope.specs.Cycle.{order_of, table_of, slot, nexts, arrived, start, arrivals}
use Rattle.scope.specs.Verdict.{Resistant}

-- the breaker may cut link e in slot i as well: it makes no bad pair behind those picked
abbrev pub may_cut : Plan → List ℕ → ℕ → ℕ → Bool
may_cut plan cuts i e = not (bad_pair plan (cuts ++ i ∷ e ∷ []) (pairs cuts))

-- the breaker's turn in slot i, with so many links unchosen, from link e on, and k cuts left: each of them is cut or left whole, and then it
-- is the network's turn
unfoldable pub breaker : Plan → ℕ → (ℕ → List ℕ → ℕ) → ℕ → ℕ → ℕ → List ℕ → ℕ
breaker plan i network zero e k cuts = network k cuts
breaker plan i network (suc unchosen) e k cuts =
    let whole = breaker plan i network unchosen (e + 1) k cuts in
    cond (ltb 0 k && may_cut plan cuts i e) (min (breaker plan i network unchosen (e + 1) (k - 1) (cuts ++ i ∷ e ∷ [])) whole) whole

-- where the messages stand after the network's turn in slot i
abbrev pub move_on : Plan → List ℕ → ℕ → List Position → List Position
move_on plan cuts i ps = nexts (slot (order_of plan) (is_cut plan cuts) (table_of plan) i ps)

-- the least number of arrivals that the breaker can leave with k cuts more, where so many slots are left, from slot i on
unfoldable pub least_from : Plan → ℕ → ℕ → ℕ → List ℕ → List Position → ℕ
least_from plan zero i k cuts ps = arrived ps
least_from plan (suc slots) i k cuts ps =
    breaker plan i (λ left picked. least_from plan slots (i + 1) left picked (move_on plan picked i ps)) (length plan.links) 0 k cuts

-- the figure of a plan for k: the value of the game from the start of the cycle on
unfoldable pub figure : Plan → ℕ → ℕ
figure plan k = least_from plan plan.timeout 0 k [] (start plan)

-- the figures of so many numbers from k on
unfoldable pub figures : Plan → ℕ → ℕ → List ℕ
figures plan k zero = []
figures plan k (suc n) = figure plan k ∷ figures plan (k + 1) n

-- "the least number of arrivals over all cut lists of at most k pairs": none leaves fewer, and one leaves exactly that many
pub record IsLeast (plan : Plan) (k f : ℕ) : Type 0 where
  pub bound : Resistant plan k f
  pub list : List ℕ
  pub good : is_cut_list plan list ≡ true
  pub few : pairs list ≤ k
  pub reached : arrivals plan list ≡ f

-- "The figure for k is at least l exactly when the verdict for k and l says resistant"
pub record AsVerdict (plan : Plan) (k : ℕ) : Type 0 where
  pub then : (l : ℕ) → l ≤ figure plan k → Resistant plan k l
  pub back : (l : ℕ) → Resistant plan k l → l ≤ figure plan k
