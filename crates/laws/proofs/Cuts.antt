-- The theorem on untouched messages for a list of cuts, and what a replay without cuts gives.
use Prim.Native.Nat.{ℕ, ◌≤◌, ◌<◌}
use native.Mathlib.Omega.{arith}
use mathlib.Core.Path.{◌≡◌, refl, sym, ◌∙◌, ap, subst₂}
use mathlib.Core.Bool.{Bool, true, false, ◌&&◌, and-eq-true_iff}
use mathlib.Core.List.{List, [], ◌∷◌}
use lib.ListN.{length, length-map, get_or-map}
use lib.Dec.{leb}
use borrow.Author.Tests.{ltb-true, leb-true, le-leb}
use Rattle.scope.specs.Lowest.{seek, lowest}
use Rattle.scope.specs.Plan.{Plan, Place, path_of}
use Rattle.scope.specs.Slot.{on_first, Event}
use Rattle.scope.specs.Cuts.{pairs, cut_slot, cut_link, cuts_link, is_cut}
use Rattle.scope.specs.Cycle.{order_of, table_of, start, events, positions, arrived, arrivals, event_row}
use Rattle.scope.proofs.Lowest.{seek_is}
use Rattle.scope.proofs.Some.{some_one}
use Rattle.laws.specs.Untouched.{nothing_down, WholeInTime, NotCutInTime, SameEvent, UntouchedRow, UntouchedByCuts, AllArriveWithoutCuts}
use Rattle.laws.specs.Named.{Grows}
use Rattle.laws.proofs.Rows.{events_in_row_lem}
use Rattle.laws.proofs.Good.{good_rises}
use Rattle.laws.proofs.Untouched.{untouched, all_arrive_lem}

-- a link that is cut has a pair that names it, at or before that slot
pub cut_pair : (plan : Plan) (cuts : List ℕ) (i e : ℕ) → is_cut plan cuts i e ≡ true →
    (j : ℕ) × (j < pairs cuts) × (cuts_link plan (cut_link cuts j) e ≡ true) × (cut_slot cuts j ≤ i)
unfolding is_cut
cut_pair plan cuts i e h =
    let test : ℕ → Bool = λ j. cuts_link plan (cut_link cuts j) e && leb (cut_slot cuts j) i in
    let j = lowest test (pairs cuts) in
    let l : j < pairs cuts = ltb-true j (pairs cuts) h in
    let two = (and-eq-true_iff (cuts_link plan (cut_link cuts j) e) (leb (cut_slot cuts j) i)).0 (seek_is test (pairs cuts) 0 (omega arith)) in
    (j, l, two.0, leb-true (cut_slot cuts j) i two.1)

-- and a link that a pair names, at or before this slot, is cut
pub is_cut_lem : (plan : Plan) (cuts : List ℕ) (i e j : ℕ) → j < pairs cuts → cuts_link plan (cut_link cuts j) e ≡ true →
    cut_slot cuts j ≤ i → is_cut plan cuts i e ≡ true
unfolding is_cut
is_cut_lem plan cuts i e j l same early =
    some_one (λ k. cuts_link plan (cut_link cuts k) e && leb (cut_slot cuts k) i) (pairs cuts) j l (rw (same, le-leb (cut_slot cuts j) i early))

-- so what is cut stays cut
pub cuts_grow : (plan : Plan) (cuts : List ℕ) → Grows (is_cut plan cuts)
cuts_grow plan cuts i j e l h =
    let c = cut_pair plan cuts i e h in
    is_cut_lem plan cuts j e c.0 c.1 c.2 (omega (arith, c.3))

pub not-cut : (plan : Plan) (cuts : List ℕ) (i e : ℕ) →
    ((j : ℕ) → j < pairs cuts → cuts_link plan (cut_link cuts j) e ≡ true → i < cut_slot cuts j) →
    is_cut plan cuts i e ≡ false
not-cut plan cuts i e none = by (is_cut plan cuts i e) refl
  where
    by : (b : Bool) → is_cut plan cuts i e ≡ b → b ≡ false
    by false h = refl
    by true h =
        let c = cut_pair plan cuts i e h in
        absurd (omega (arith, none c.0 c.1 c.2, c.3))

whole_in_time_lem : (plan : Plan) (cuts : List ℕ) (path : List Place) → NotCutInTime plan cuts path → WholeInTime (is_cut plan cuts) path
whole_in_time_lem plan cuts [] h = tt
whole_in_time_lem plan cuts (p ∷ ps) h =
    (λ i l. not-cut plan cuts i p.link (λ j a b. omega (arith, h.0 j a b)), whole_in_time_lem plan cuts ps h.1)

pub no_cuts : (plan : Plan) → is_cut plan [] ≡ nothing_down
unfolding is_cut seek
no_cuts plan = refl

pub untouched-row : UntouchedRow
untouched-row rank down owner t m path ps h r w there i n l =
    let same = untouched rank down owner t m path ps h r w i in
    let a = events_in_row_lem rank down owner n m i ps l there in
    let b = events_in_row_lem rank nothing_down owner n m i ps l there in
    record {
      kind = a.kind ∙ ap (λ (v : Event). v.kind) same ∙ sym b.kind;
      number = a.number ∙ ap (λ (v : Event). v.number) same ∙ sym b.number;
    }

pub untouched_by_cuts_lem : UntouchedByCuts
unfolding event_row
untouched_by_cuts_lem plan cuts m g there whole i h =
    let t = plan.timeout in
    let ps = start plan in
    let size : length ps ≡ length plan.messages = length-map plan.messages on_first in
    let bare : event_row plan [] ≡ events (order_of plan) nothing_down (table_of plan) 0 t ps =
    ap (λ (down : ℕ → ℕ → Bool). events (order_of plan) down (table_of plan) 0 t ps) (no_cuts plan) in
    subst₂ (λ (l : ℕ) (row : List ℕ). SameEvent l m i (event_row plan cuts) row) size (sym bare)
    (untouched-row (order_of plan) (is_cut plan cuts) (table_of plan) t m (path_of plan m) ps (get_or-map on_first plan.messages m [])
    (good_rises plan g m) (whole_in_time_lem plan cuts (path_of plan m) whole) (omega arith) i t h)

pub all_arrive_without_cuts_lem : AllArriveWithoutCuts
unfolding arrivals
all_arrive_without_cuts_lem plan g =
    ap (λ (down : ℕ → ℕ → Bool). arrived (positions (order_of plan) down (table_of plan) 0 plan.timeout (start plan))) (no_cuts plan) ∙
    all_arrive_lem (order_of plan) (table_of plan) plan (good_rises plan g)
