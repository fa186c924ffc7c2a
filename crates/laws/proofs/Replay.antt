-- The replay as a whole: slots follow one another, no message comes or goes, and only what is down in the slots played matters.
use Prim.Native.Nat.{ℕ, zero, suc, ◌+◌, ◌*◌}
use native.Mathlib.Omega.{arith}
use native.Mathlib.Nat.{suc-mul}
use mathlib.Core.Path.{◌≡◌, refl, sym, ◌∙◌, ap, ap₂, fun_ext}
use mathlib.Core.Bool.{Bool}
use mathlib.Core.List.{List, [], ◌∷◌, ◌++◌, map, append_assoc}
use lib.ListN.{length, length-map, length-append}
use Rattle.scope.specs.Slot.{Position, Moved, turn}
use Rattle.scope.specs.Cycle.{moves, slot, nexts, numbers, positions, events}
use Rattle.laws.specs.Replay.{PositionsFollow, EventsFollow, LengthsKept, DependsOnTheseSlots}
use Rattle.laws.proofs.One.{tried_in}

pub positions_follow_lem : PositionsFollow
unfolding positions
positions_follow_lem rank down owner i zero k ps =
    let a : 0 + k ≡ k = omega arith in
    let b : i ≡ i + 0 = omega arith in
    ap₂ (λ (j n : ℕ). positions rank down owner j n ps) b a
positions_follow_lem rank down owner i (suc n) k ps =
    let a : suc n + k ≡ suc (n + k) = omega arith in
    let b : i + 1 + n ≡ i + suc n = omega arith in
    let qs = nexts (slot rank down owner i ps) in
    ap (λ (j : ℕ). positions rank down owner i j ps) a ∙
    positions_follow_lem rank down owner (i + 1) n k qs ∙
    ap (λ (j : ℕ). positions rank down owner j k (positions rank down owner (i + 1) n qs)) b

pub events_follow_lem : EventsFollow
unfolding positions events
events_follow_lem rank down owner i zero k ps =
    let a : 0 + k ≡ k = omega arith in
    let b : i ≡ i + 0 = omega arith in
    ap₂ (λ (j n : ℕ). events rank down owner j n ps) b a
events_follow_lem rank down owner i (suc n) k ps =
    let a : suc n + k ≡ suc (n + k) = omega arith in
    let b : i + 1 + n ≡ i + suc n = omega arith in
    let ms = slot rank down owner i ps in
    ap (λ (j : ℕ). events rank down owner i j ps) a ∙
    ap (λ (es : List ℕ). numbers ms ++ es)
    (events_follow_lem rank down owner (i + 1) n k (nexts ms) ∙
    ap (λ (j : ℕ). events rank down owner (i + 1) n (nexts ms) ++ events rank down owner j k (positions rank down owner (i + 1) n (nexts ms)))
    b) ∙
    sym (append_assoc (numbers ms) (events rank down owner (i + 1) n (nexts ms)) _)

-- lengths
length-moves : (rank : ℕ → ℕ) (down : ℕ → Bool) (owner : ℕ → ℕ) (i : ℕ) (tried : List ℕ) (m : ℕ) (ps : List Position) →
    length (moves rank down owner i tried m ps) ≡ length ps
unfolding moves
length-moves rank down owner i tried m [] = refl
length-moves rank down owner i tried m (p ∷ ps) = ap suc (length-moves rank down owner i tried (m + 1) ps)

length-slot : (rank : ℕ → ℕ) (down : ℕ → ℕ → Bool) (owner : ℕ → ℕ → ℕ) (i : ℕ) (ps : List Position) →
    length (slot rank down owner i ps) ≡ length ps
unfolding slot
length-slot rank down owner i ps =
    length-moves rank (down i) (owner i) i (tried_in (down i) ps) 0 (map (turn (down i)) ps) ∙ length-map ps (turn (down i))

pub length-nexts : (rank : ℕ → ℕ) (down : ℕ → ℕ → Bool) (owner : ℕ → ℕ → ℕ) (i : ℕ) (ps : List Position) →
    length (nexts (slot rank down owner i ps)) ≡ length ps
length-nexts rank down owner i ps =
    length-map (slot rank down owner i ps) (λ (v : Moved). v.next) ∙ length-slot rank down owner i ps

length-positions : (rank : ℕ → ℕ) (down : ℕ → ℕ → Bool) (owner : ℕ → ℕ → ℕ) (i n : ℕ) (ps : List Position) →
    length (positions rank down owner i n ps) ≡ length ps
unfolding positions
length-positions rank down owner i zero ps = refl
length-positions rank down owner i (suc n) ps =
    length-positions rank down owner (i + 1) n (nexts (slot rank down owner i ps)) ∙ length-nexts rank down owner i ps

pub length-numbers : (ms : List Moved) → length (numbers ms) ≡ 2 * length ms
unfolding numbers
length-numbers [] = refl
length-numbers (v ∷ ms) = omega (arith, length-numbers ms)

length-events : (rank : ℕ → ℕ) (down : ℕ → ℕ → Bool) (owner : ℕ → ℕ → ℕ) (i n : ℕ) (ps : List Position) →
    length (events rank down owner i n ps) ≡ n * (2 * length ps)
unfolding events
length-events rank down owner i zero ps = omega arith
length-events rank down owner i (suc n) ps =
    let ms = slot rank down owner i ps in
    let here : length (numbers ms) ≡ 2 * length ps = length-numbers ms ∙ ap (λ (l : ℕ). 2 * l) (length-slot rank down owner i ps) in
    let more : length (events rank down owner (i + 1) n (nexts ms)) ≡ n * (2 * length ps) =
    length-events rank down owner (i + 1) n (nexts ms) ∙ ap (λ (l : ℕ). n * (2 * l)) (length-nexts rank down owner i ps) in
    omega (arith, here, more, length-append (numbers ms) (events rank down owner (i + 1) n (nexts ms)), suc-mul n (2 * length ps))

pub lengths_kept : LengthsKept
lengths_kept = record { of_slot = length-slot; of_positions = length-positions; of_events = length-events }

-- what is down in the slots played
pub slot_agrees : (rank : ℕ → ℕ) (down other : ℕ → ℕ → Bool) (owner : ℕ → ℕ → ℕ) (i : ℕ) (ps : List Position) →
    ((e : ℕ) → down i e ≡ other i e) → slot rank down owner i ps ≡ slot rank other owner i ps
unfolding slot
slot_agrees rank down other owner i ps same =
    ap (λ (d : ℕ → Bool). moves rank d (owner i) i (tried_in d ps) 0 (map (turn d) ps)) (fun_ext same)

pub depends_on_these_slots_lem : DependsOnTheseSlots
unfolding positions events
depends_on_these_slots_lem rank down other owner i zero ps same = record { positions_agree = refl; events_agree = refl }
depends_on_these_slots_lem rank down other owner i (suc n) ps same =
    let now = slot_agrees rank down other owner i ps (λ e. same i e (omega arith) (omega arith)) in
    let more = depends_on_these_slots_lem rank down other owner (i + 1) n (nexts (slot rank down owner i ps))
    (λ j e a b. same j e (omega arith) (omega arith)) in
    record {
      positions_agree = more.positions_agree ∙ ap (λ (ms : List Moved). positions rank other owner (i + 1) n (nexts ms)) now;
      events_agree =
          ap (λ (es : List ℕ). numbers (slot rank down owner i ps) ++ es) more.events_agree ∙
          ap (λ (ms : List Moved). numbers ms ++ events rank other owner (i + 1) n (nexts ms)) now;
    }
