-- The value of the game is the least number of arrivals over the cut lists of at most k pairs: that number is one alone, it decides every
-- verdict for k, falls as k rises and is at most the number of messages. And the row of figures, number by number.
use Prim.Native.Nat.{ℕ, zero, suc, ◌+◌, ◌≤◌}
use native.Mathlib.Omega.{arith}
use mathlib.Core.Path.{◌≡◌, refl, ◌∙◌, ap}
use mathlib.Core.Bool.{Bool, true, false, cond}
use mathlib.Core.List.{List, [], ◌∷◌, ◌++◌}
use lib.ListN.{length, length-map}
use Rattle.scope.specs.Limits.{most_links}
use Rattle.scope.specs.Plan.{Plan}
use Rattle.scope.specs.Slot.{Position, on_first, at_target}
use Rattle.scope.specs.Cuts.{is_cut}
use Rattle.scope.specs.Cycle.{order_of, table_of, start, positions, arrived, arrivals}
use Rattle.scope.specs.Verdict.{Resistant}
use Rattle.scope.specs.Game.{figure, figures, IsLeast, AsVerdict}
use Rattle.laws.proofs.Replay.{lengths_kept}
use Rattle.order.specs.Search.{Chosen}
use Rattle.order.proofs.Pairs.{is_cut_list_lem}
use Rattle.order.proofs.Turns.{from-slot}

-- no more arrive than there are messages
arrived-most : (ps : List Position) → arrived ps ≤ length ps
unfolding arrived
arrived-most [] = omega arith
arrived-most (p ∷ ps) = omega (arith, arrived-most ps, one (at_target p))
  where
    one : (b : Bool) → cond b 1 0 ≤ 1
    one true = omega arith
    one false = omega arith

pub arrivals-most : (plan : Plan) (cuts : List ℕ) → arrivals plan cuts ≤ length plan.messages
unfolding arrivals
arrivals-most plan cuts =
    let ps = positions (order_of plan) (is_cut plan cuts) (table_of plan) 0 plan.timeout (start plan) in
    let size = lengths_kept.of_positions (order_of plan) (is_cut plan cuts) (table_of plan) 0 plan.timeout (start plan) in
    omega (arith, arrived-most ps, size, length-map plan.messages on_first)

-- two numbers that are least are the same
pub least_once : (plan : Plan) (k f g : ℕ) → IsLeast plan k f → IsLeast plan k g → f ≡ g
unfolding Resistant
least_once plan k f g a b =
    let low : f ≤ g = omega (arith, a.bound b.list b.good b.few, b.reached) in
    let high : g ≤ f = omega (arith, b.bound a.list a.good a.few, a.reached) in
    omega arith

module _ (plan : Plan) (small : length plan.links ≤ most_links) where
  -- "Think of it as a game": its value is the least number of arrivals
  pub game_least : (k : ℕ) → IsLeast plan k (figure plan k)
  unfolding figure Resistant positions
  game_least k =
      let none-bad = is_cut_list_lem plan [] (λ i h. absurd (omega arith)) in
      let nothing : Chosen plan [] 0 0 = record { long = refl; good = none-bad; none = λ z. refl; next = λ j z. absurd (omega arith) } in
      let all = from-slot plan small plan.timeout 0 (omega arith) [] 0 0 k (start plan) nothing (omega arith) refl in
      record {
        bound = λ cuts good few. all.bound cuts (record { good = good; few = few; late = λ h. omega arith });
        list = all.list;
        good = all.goes.good;
        few = all.goes.few;
        reached = all.reached;
      }

  -- so the least number of arrivals, however it is found, is the figure
  pub is-figure : (k f : ℕ) → IsLeast plan k f → f ≡ figure plan k
  is-figure k f least = least_once plan k f (figure plan k) least (game_least k)

  -- "The figure for k is at least l exactly when the verdict for k and l says resistant"
  pub as_verdict : (k : ℕ) → AsVerdict plan k
  unfolding Resistant
  as_verdict k =
      let least = game_least k in
      record {
        then = λ l h cuts good few. omega (arith, least.bound cuts good few);
        back = λ l resists. omega (arith, resists least.list least.good least.few, least.reached);
      }

  -- a cut more leaves no more
  pub figure-falls : (k : ℕ) → figure plan (k + 1) ≤ figure plan k
  unfolding Resistant
  figure-falls k =
      let least = game_least k in
      omega (arith, (game_least (k + 1)).bound least.list least.good (omega (arith, least.few)), least.reached)

  pub figure-most : (k : ℕ) → figure plan k ≤ length plan.messages
  figure-most k = let least = game_least k in omega (arith, arrivals-most plan least.list, least.reached)

-- the row of figures
pub figures-length : (plan : Plan) (k n : ℕ) → length (figures plan k n) ≡ n
unfolding figures
figures-length plan k zero = refl
figures-length plan k (suc n) = ap suc (figures-length plan (k + 1) n)

pub figures-more : (plan : Plan) (k n : ℕ) → figures plan k (n + 1) ≡ figures plan k n ++ (figure plan (k + n) ∷ [])
unfolding figures
figures-more plan k zero = let e : k ≡ k + 0 = omega arith in ap (λ (j : ℕ). figure plan j ∷ []) e
figures-more plan k (suc n) =
    let s : suc n + 1 ≡ suc (n + 1) = omega arith in
    let e : k + 1 + n ≡ k + suc n = omega arith in
    ap (figures plan k) s ∙ ap (λ (fs : List ℕ). figure plan k ∷ fs) (figures-more plan (k + 1) n) ∙
    ap (λ (j : ℕ). figure plan k ∷ figures plan (k + 1) n ++ (figure plan j ∷ [])) e
