-- A message whose first path is whole in time goes its way alone: what it does follows from its first path, and from nothing else.
use Prim.Native.Nat.{ℕ, zero, suc, ◌+◌}
use native.Mathlib.Omega.{arith}
use mathlib.Core.Path.{◌≡◌, refl, sym, ◌∙◌, ap}
use mathlib.Core.Bool.{Bool, true, false, cond}
use mathlib.Core.List.{List, [], ◌∷◌}
use lib.ListN.{length, length-map, get_or-map}
use lib.Dec.{eqb}
use borrow.Author.Tests.{eqb-false}
use Rattle.scope.specs.Plan.{Place, path_of}
use Rattle.scope.specs.Good.{slots_rise}
use Rattle.scope.specs.Slot.{Position, on_first, Moved, moved, at_target, turn}
use Rattle.scope.specs.Cycle.{slot, nexts, positions, arrived, start}
use Rattle.laws.specs.Message.{position_of, move_in}
use Rattle.laws.specs.Untouched.{nothing_down, WholeInTime, Untouched, UntouchedArrives, AllArrive}
use Rattle.laws.proofs.One.{acts, tried_in, move_at, next-at}
use Rattle.laws.proofs.Cases.{cond_cases}
use Rattle.laws.proofs.Replay.{lengths_kept}
use Rattle.laws.proofs.Rising.{rises, rising, earlier}

-- what a message does alone in slot i, and what it has left after n slots
abbrev alone : ℕ → List Place → Moved
alone i [] = moved (on_first []) 0 0
alone i (p ∷ ps) = cond (eqb p.slot i) (moved (on_first ps) 2 p.link) (moved (on_first (p ∷ ps)) 1 p.link)

abbrev left : ℕ → List Place → List Place
left i [] = []
left i (p ∷ ps) = cond (eqb p.slot i) ps (p ∷ ps)

left_after : ℕ → ℕ → List Place → List Place
left_after i zero path = path
left_after i (suc n) path = left_after (i + 1) n (left i path)

alone_next : (i : ℕ) (path : List Place) → (alone i path).next ≡ on_first (left i path)
alone_next i [] = refl
alone_next i (p ∷ ps) = by (eqb p.slot i)
  where
    by : (b : Bool) →
        (cond b (moved (on_first ps) 2 p.link) (moved (on_first (p ∷ ps)) 1 p.link)).next ≡ on_first (cond b ps (p ∷ ps))
    by true = refl
    by false = refl

left_rises : (t i : ℕ) (path : List Place) → slots_rise t i path ≡ true → slots_rise t (i + 1) (left i path) ≡ true
unfolding slots_rise
left_rises t i [] r = refl
left_rises t i (p ∷ ps) r =
    let s = rises t i p ps r in
    cond_cases (λ (q : List Place). slots_rise t (i + 1) q ≡ true) (eqb p.slot i) ps (p ∷ ps)
    (λ h. earlier t (i + 1) (p.slot + 1) ps (omega (arith, s.low)) s.rest)
    (λ h. rising t (i + 1) p ps (record { low = omega (arith, s.low, eqb-false p.slot i h); high = s.high; rest = s.rest }))

left-whole : (down : ℕ → ℕ → Bool) (i : ℕ) (path : List Place) → WholeInTime down path → WholeInTime down (left i path)
left-whole down i [] w = tt
left-whole down i (p ∷ ps) w = cond_cases (WholeInTime down) (eqb p.slot i) ps (p ∷ ps) (λ h. w.1) (λ h. w)

module _ (rank : ℕ → ℕ) (down : ℕ → ℕ → Bool) (owner : ℕ → ℕ → ℕ) (t m : ℕ) where
  act_alone : (i : ℕ) (tried : List ℕ) (path : List Place) → slots_rise t i path ≡ true → WholeInTime down path →
      acts rank (down i) (owner i) i tried m (turn (down i) (on_first path)) ≡ alone i path
  act_alone i tried [] r w = refl
  act_alone i tried (p ∷ ps) r w =
      let e : down i p.link ≡ false = w.0 i (rises t i p ps r).low in
      rw (e, e)

  move_alone : (i : ℕ) (path : List Place) (ps : List Position) → position_of m ps ≡ on_first path → slots_rise t i path ≡ true →
      WholeInTime down path → move_in rank down owner m i ps ≡ alone i path
  move_alone i path ps h r w =
      move_at rank down owner i ps m ∙
      ap (λ (q : Position). acts rank (down i) (owner i) i (tried_in (down i) ps) m (turn (down i) q)) h ∙
      act_alone i (tried_in (down i) ps) path r w

  -- where it stands and what it does after n slots
  stands_alone : (n i : ℕ) (path : List Place) (ps : List Position) → position_of m ps ≡ on_first path → slots_rise t i path ≡ true →
      WholeInTime down path →
      (position_of m (positions rank down owner i n ps) ≡ on_first (left_after i n path)) × (slots_rise t (i + n) (left_after i n path) ≡ true) ×
      (move_in rank down owner m (i + n) (positions rank down owner i n ps) ≡ alone (i + n) (left_after i n path))
  unfolding positions left_after
  stands_alone zero i path ps h r w =
      let e : i ≡ i + 0 = omega arith in
      let s : slots_rise t (i + 0) path ≡ true = ap (λ (j : ℕ). slots_rise t j path) (sym e) ∙ r in
      (h, s, move_alone (i + 0) path ps h s w)
  stands_alone (suc n) i path ps h r w =
      let e : i + 1 + n ≡ i + suc n = omega arith in
      let qs = nexts (slot rank down owner i ps) in
      let g : position_of m qs ≡ on_first (left i path) =
      next-at (slot rank down owner i ps) m ∙ ap (λ (v : Moved). v.next) (move_alone i path ps h r w) ∙ alone_next i path in
      rw e at (stands_alone n (i + 1) (left i path) qs g (left_rises t i path r) (left-whole down i path w))

none_left : (t : ℕ) (path : List Place) → slots_rise t t path ≡ true → path ≡ []
none_left t [] r = refl
none_left t (p ∷ ps) r = let s = rises t t p ps r in absurd (omega (arith, s.low, s.high))

nothing_down_lem : (path : List Place) → WholeInTime nothing_down path
nothing_down_lem [] = tt
nothing_down_lem (p ∷ ps) = (λ i h. refl, nothing_down_lem ps)

pub untouched : Untouched
untouched rank down owner t m path ps h r w i =
    let e : 0 + i ≡ i = omega arith in
    let a = (stands_alone rank down owner t m i 0 path ps h r w).2 in
    let b = (stands_alone rank nothing_down owner t m i 0 path ps h r (nothing_down_lem path)).2 in
    let c : move_in rank down owner m i (positions rank down owner 0 i ps) ≡ alone i (left_after 0 i path) = rw e at a in
    let d : move_in rank nothing_down owner m i (positions rank nothing_down owner 0 i ps) ≡ alone i (left_after 0 i path) = rw e at b in
    ap (λ (v : Moved). v.event) (c ∙ sym d)

pub untouched-arrives : UntouchedArrives
untouched-arrives rank down owner t m path ps h r w =
    let e : 0 + t ≡ t = omega arith in
    let a = stands_alone rank down owner t m t 0 path ps h r w in
    let s : slots_rise t t (left_after 0 t path) ≡ true = rw e at a.1 in
    ap at_target (a.0 ∙ ap on_first (none_left t (left_after 0 t path) s))

-- all of them
all-arrived : (qs : List Position) → ((m : ℕ) → at_target (position_of m qs) ≡ true) → arrived qs ≡ length qs
unfolding arrived
all-arrived [] h = refl
all-arrived (q ∷ qs) h = let e : at_target q ≡ true = h 0 in rw e (omega (arith, all-arrived qs (λ m. h (suc m))))

pub all_arrive_lem : AllArrive
all_arrive_lem rank owner plan r =
    let qs = positions rank nothing_down owner 0 plan.timeout (start plan) in
    all-arrived qs
    (λ m. untouched-arrives rank nothing_down owner plan.timeout m (path_of plan m) (start plan)
    (get_or-map on_first plan.messages m []) (r m) (nothing_down_lem (path_of plan m))) ∙
    lengths_kept.of_positions rank nothing_down owner 0 plan.timeout (start plan) ∙ length-map plan.messages on_first
