-- What a look at a slot says of a list, and of every list that goes on from it later.
use Prim.Native.Nat.{ℕ, ◌+◌, ◌*◌, ◌≤◌, ◌<◌}
use native.Mathlib.Omega.{arith}
use mathlib.Core.Path.{◌≡◌, refl, sym, ◌∙◌, ap}
use mathlib.Core.Bool.{true}
use mathlib.Core.List.{List, ◌∷◌, ◌++◌}
use lib.ListN.{length}
use Rattle.scope.specs.Limits.{most_links}
use Rattle.scope.specs.Plan.{Plan, plan_of}
use Rattle.scope.specs.Cuts.{is_cut_list}
use Rattle.order.proofs.Pairs.{not-before}
use Rattle.order.proofs.Prefix.{event-before}
use Rattle.step.specs.Events.{crossing_of}
use Rattle.clues.specs.declared.Clue.{Clue}
use Rattle.clues.specs.declared.Clue.TheVariants.{Nothing, Link, Dead}
use Rattle.step.specs.declared.Standing.{Standing}
use Rattle.clues.specs.Clues.{MatchesIn, Matches, Shows}
use Rattle.clues.proofs.Looking.{shown-link, shown_dead}

-- what differs in slot s differs in every list that goes on after it
pub still_differs : (plan : Plan) (crossed pre : List ℕ) (d k s a b : ℕ) (x : List ℕ) → length plan.links ≤ most_links → length pre ≡ 2 * d →
    length x ≡ 2 * k → s < plan.timeout → s < a → is_cut_list plan (pre ++ a ∷ b ∷ x) ≡ true → (MatchesIn plan crossed pre s → ⊥) →
    Matches plan crossed (pre ++ a ∷ b ∷ x) → ⊥
still_differs plan crossed pre d k s a b x few long rest early after good differs it =
    let size : length {A = ℕ} (a ∷ b ∷ x) ≡ 2 * (1 + k) = omega arith in
    let later = not-before plan few pre (a ∷ b ∷ x) d (1 + k) (s + 1) long size good (omega arith) in
    differs
    (λ m there.
    sym (ap crossing_of (event-before plan pre (a ∷ b ∷ x) d (1 + k) (s + 1) long size later s m (omega arith))) ∙ it s early m there)

-- a slot that does not say nothing differs
pub seen_other : (row crossed : List ℕ) (n : ℕ) (cuts : List ℕ) (s : ℕ) (r : Clue) → Shows row crossed n cuts s r →
    ((next : Standing) → r ≡ Nothing next → ⊥) → MatchesIn (plan_of row) crossed cuts s → ⊥
seen_other row crossed n cuts s (Nothing next) shows other all = other next refl
seen_other row crossed n cuts s (Link x) shows other all = shown-link row crossed n cuts s (Link x) shows x refl all
seen_other row crossed n cuts s Dead shows other all = shown_dead row crossed n cuts s Dead shows refl all
