-- A message at its target stays there, and one that has turned never returns.
use Prim.Native.Nat.{ℕ, zero, suc, ◌+◌, ◌≤◌}
use native.Mathlib.Omega.{arith}
use mathlib.Core.Path.{◌≡◌, refl, ◌∙◌, ap}
use mathlib.Core.Bool.{Bool, true, false≢true}
use mathlib.Core.List.{List, [], ◌∷◌}
use lib.ListN.{drop}
use lib.Seq.{drop-drop}
use Rattle.scope.specs.Slot.{Position, on_first, on_second, Moved, moved, at_target, turn}
use Rattle.scope.specs.Cycle.{slot, nexts, positions}
use Rattle.laws.specs.Message.{position_of, move_in}
use Rattle.laws.specs.Replay.{AtTargetStays, NeverReturns}
use Rattle.laws.proofs.One.{acts, tried_in, move_at, next-at}
use Rattle.laws.proofs.Cases.{act-second}

-- where message m stands after slot i, from where it stood before
pub step-at : (rank : ℕ → ℕ) (down : ℕ → ℕ → Bool) (owner : ℕ → ℕ → ℕ) (m i : ℕ) (ps : List Position) (p : Position) →
    position_of m ps ≡ p →
    position_of m (nexts (slot rank down owner i ps)) ≡ (acts rank (down i) (owner i) i (tried_in (down i) ps) m (turn (down i) p)).next
step-at rank down owner m i ps p h =
    next-at (slot rank down owner i ps) m ∙ ap (λ (v : Moved). v.next) (move_at rank down owner i ps m) ∙
    ap (λ (q : Position). (acts rank (down i) (owner i) i (tried_in (down i) ps) m (turn (down i) q)).next) h

-- at its target
act-home : (down : ℕ → Bool) (rank : ℕ → ℕ) (owner : ℕ → ℕ) (i : ℕ) (tried : List ℕ) (m : ℕ) (p : Position) → at_target p ≡ true →
    acts rank down owner i tried m (turn down p) ≡ moved p 0 0
act-home down rank owner i tried m (on_first []) h = refl
act-home down rank owner i tried m (on_first (p ∷ ps)) h = absurd (false≢true h)
act-home down rank owner i tried m (on_second []) h = refl
act-home down rank owner i tried m (on_second (e ∷ es)) h = absurd (false≢true h)

pub move_home : (rank : ℕ → ℕ) (down : ℕ → ℕ → Bool) (owner : ℕ → ℕ → ℕ) (m i : ℕ) (ps : List Position) →
    at_target (position_of m ps) ≡ true → move_in rank down owner m i ps ≡ moved (position_of m ps) 0 0
move_home rank down owner m i ps h =
    move_at rank down owner i ps m ∙ act-home (down i) rank (owner i) i (tried_in (down i) ps) m (position_of m ps) h

stays : (rank : ℕ → ℕ) (down : ℕ → ℕ → Bool) (owner : ℕ → ℕ → ℕ) (m i : ℕ) (ps : List Position) → at_target (position_of m ps) ≡ true →
    (n : ℕ) → position_of m (positions rank down owner i n ps) ≡ position_of m ps
unfolding positions
stays rank down owner m i ps h zero = refl
stays rank down owner m i ps h (suc n) =
    let qs = nexts (slot rank down owner i ps) in
    let e : position_of m qs ≡ position_of m ps =
    next-at (slot rank down owner i ps) m ∙ ap (λ (v : Moved). v.next) (move_home rank down owner m i ps h) in
    stays rank down owner m (i + 1) qs (ap at_target e ∙ h) n ∙ e

pub at_target_stays_lem : AtTargetStays
at_target_stays_lem rank down owner m i ps h =
    let e = move_home rank down owner m i ps h in
    record {
      there = stays rank down owner m i ps h;
      kind = ap (λ (v : Moved). v.event.kind) e;
      number = ap (λ (v : Moved). v.event.number) e;
    }

-- on a second path
abbrev Less : ℕ → List ℕ → Position → Type 0
Less n es p = (k : ℕ) × (k ≤ n) × (p ≡ on_second (drop k es))

second-step : (rank : ℕ → ℕ) (down : ℕ → Bool) (owner : ℕ → ℕ) (i : ℕ) (tried : List ℕ) (m : ℕ) (es : List ℕ) →
    Less 1 es (acts rank down owner i tried m (on_second es)).next
second-step rank down owner i tried m [] = (0, omega arith, refl)
second-step rank down owner i tried m (e ∷ es) =
    let stay : Less 1 (e ∷ es) (on_second (e ∷ es)) = (0, omega arith, refl) in
    act-second (λ (v : Moved). Less 1 (e ∷ es) v.next) rank down owner i tried m e es
    (λ c. stay) (λ c o. stay) (λ c o h. stay) (λ c o h. (1, omega arith, refl))

pub never_returns_lem : NeverReturns
unfolding positions
never_returns_lem rank down owner m i zero es ps h = (0, omega arith, h)
never_returns_lem rank down owner m i (suc n) es ps h =
    let one = second-step rank (down i) (owner i) i (tried_in (down i) ps) m es in
    let qs = nexts (slot rank down owner i ps) in
    let e : position_of m qs ≡ on_second (drop one.0 es) = step-at rank down owner m i ps (on_second es) h ∙ one.2 in
    let more = never_returns_lem rank down owner m (i + 1) n (drop one.0 es) qs e in
    (one.0 + more.0, omega (arith, one.1, more.1), more.2 ∙ ap on_second (drop-drop more.0 one.0 es))
