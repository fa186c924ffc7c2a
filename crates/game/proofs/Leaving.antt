-- What no list from a place leaves fewer than: from more arrivals to fewer, from pair to pair, and of a whole plan.
use Prim.Native.Nat.{ℕ, zero, suc, ◌≤◌, ◌<◌}
use native.Mathlib.Omega.{arith}
use mathlib.Core.Path.{◌≡◌, subst}
use mathlib.Core.List.{List, [], ◌∷◌}
use lib.ListN.{length}
use Rattle.scope.specs.Limits.{most_links}
use Rattle.scope.specs.Plan.{Plan}
use Rattle.scope.specs.Cycle.{arrivals}
use Rattle.scope.specs.Verdict.{Fails, Resistant}
use Rattle.scope.specs.Game.{IsLeast}
use Rattle.order.specs.Search.{code, Chosen, Not, NoneOf}
use Rattle.order.proofs.Steps.{split, nothing_more, none_before}
use Rattle.order.proofs.First.{no_list}
use Rattle.game.specs.Turns.{Reached, Leave}

-- what leaves no fewer than some number leaves no fewer than a lower one
pub lower : (plan : Plan) (f g : ℕ) (cuts : List ℕ) → g ≤ f → Not plan (Fails plan f) cuts → Not plan (Fails plan g) cuts
lower plan f g cuts h not good it = not good (omega arith)

-- a list that leaves enough, where the one that leaves fewer is none
pub enough : (f a : ℕ) → (a < f → ⊥) → f ≤ a
enough f a not = split a f (λ less. absurd (not less)) (λ more. more)

-- a number that is reached with some pairs is reached with more
pub reached-more : (plan : Plan) (k n f : ℕ) → k ≤ n → Reached plan k f → Reached plan n f
reached-more plan k n f h r = record { list = r.list; good = r.good; few = omega (arith, r.few); is = r.is }

module _ (plan : Plan) (small : length plan.links ≤ most_links) (pre : List ℕ) (d lo : ℕ) (chosen : Chosen plan pre d lo) (n f : ℕ)
    (leave : Leave plan pre n lo f) where
  -- no list of at most n pairs more leaves fewer
  pub all_of : (k : ℕ) → k ≤ n → NoneOf plan (Fails plan f) pre k
  all_of zero h x long = nothing_more plan (Fails plan f) pre (λ it. omega (arith, leave.none, it)) x long
  all_of (suc k) h [] long = absurd (omega arith)
  all_of (suc k) h (a ∷ []) long = absurd (omega arith)
  all_of (suc k) h (a ∷ b ∷ x) long =
      split (code a b) lo
      (λ less. none_before plan (Fails plan f) small pre d lo chosen k a b x (omega arith) (omega arith) less)
      (λ more. leave.more k (omega arith) a b x (omega arith) more)

-- the value of the whole game, from the start
pub is-least : (plan : Plan) → length plan.links ≤ most_links → (k f least : ℕ) → Chosen plan [] 0 0 → Leave plan [] k 0 f →
    Reached plan k least → f ≤ least → (f < least → Reached plan k f) → IsLeast plan k f
unfolding Resistant
is-least plan small k f least chosen leave known low reached = by (split f least reached (λ no_less. same no_less))
  where
    same : least ≤ f → Reached plan k f
    same no_less = let e : least ≡ f = omega arith in subst (Reached plan k) e known

    by : Reached plan k f → IsLeast plan k f
    by r =
        record {
          bound = λ cuts good few.
              enough f (arrivals plan cuts)
              (no_list plan (Fails plan f) k (λ i l. all_of plan small [] 0 0 chosen k f leave i (omega arith)) cuts few good);
          list = r.list;
          good = r.good;
          few = r.few;
          reached = r.is;
        }
