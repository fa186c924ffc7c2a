-- What slack 0 or more means: a message that leaves its first path at that place, and whose second path stays whole, has arrived at time t.
use Prim.Native.Nat.{ℕ, zero, suc, ◌+◌, ◌-◌, ◌≤◌, ◌<◌}
use native.Mathlib.Omega.{arith}
use mathlib.Core.Path.{◌≡◌, refl, sym, ◌∙◌, ap}
use mathlib.Core.Logic.{⊎_elim}
use mathlib.Core.Bool.{Bool, true, false, cond, true≢false, false≢true}
use mathlib.Core.List.{List, [], ◌∷◌}
use lib.ListN.{length, drop}
use lib.Seq.{drop-cons}
use lib.IntN.{pos, negsuc, sub_ℕ}
use lib.Dec.{ltb}
use borrow.Author.Tests.{ltb-false}
use Rattle.scope.specs.Plan.{Plan, Place, path_of, place_of}
use Rattle.scope.specs.Slot.{Position, on_first, on_second, Moved, at_target, turned, turn}
use Rattle.scope.specs.Cuts.{is_cut}
use Rattle.scope.specs.Cycle.{positions, start, table_of, order_of}
use Rattle.scope.specs.Spare.{delay, no_second}
use Rattle.laws.specs.Message.{has_turned}
use Rattle.laws.specs.Diverted.{standing, OnSecondPath, Leaves, ArrivesFromPlace, LeavesInTime, LeavesSomewhere, HasLeft}
use Rattle.laws.specs.Diverted.{SlackMeansArrival, ArrivesUnderCuts, SlackUnderCuts}
use Rattle.laws.proofs.One.{acts, tried_in}
use Rattle.laws.proofs.Turned.{step-at, at_target_stays_lem}
use Rattle.laws.proofs.Slots.{JustTurned, turned-from, one_slot}
use Rattle.laws.proofs.Good.{good_rises}
use Rattle.laws.proofs.Kept.{starts}
use Rattle.laws.proofs.Seconds.{no_link_twice_lem}
use Rattle.laws.proofs.Latest.{turns_in_time_lem, left-from}
use Rattle.laws.proofs.Diverted.{arrives_within_d_lem, standing-after}

-- what is left from a place on
at_place : (rank : ℕ → ℕ) (down : ℕ → ℕ → Bool) (plan : Plan) (m p s : ℕ) → Leaves rank down plan m p s →
    standing rank down plan m s ≡ on_first (place_of plan m p ∷ drop (suc p) (path_of plan m))
at_place rank down plan m p s l =
    l.stands ∙ ap on_first (drop-cons (path_of plan m) p (record { link = 0; slot = 0; second = [] }) l.place)

turn-there : (down : ℕ → Bool) (q : Place) (qs : List Place) → down q.link ≡ true → no_second q.second ≡ false →
    turn down (on_first (q ∷ qs)) ≡ on_second q.second
turn-there down q qs cut second = rw cut (by q.second second)
  where
    by : (es : List ℕ) → no_second es ≡ false → turned (q ∷ qs) es ≡ on_second es
    by [] h = absurd (true≢false h)
    by (e ∷ es) h = refl

leaves_to : (rank : ℕ → ℕ) (down : ℕ → ℕ → Bool) (plan : Plan) (m p s : ℕ) → Leaves rank down plan m p s →
    OnSecondPath rank down plan m s (place_of plan m p).second
leaves_to rank down plan m p s l =
    ap (turn (down s)) (at_place rank down plan m p s l) ∙
    turn-there (down s) (place_of plan m p) (drop (suc p) (path_of plan m)) l.cut l.second

pub arrives_from_place_lem : ArrivesFromPlace
arrives_from_place_lem rank down plan m p s g l whole =
    arrives_within_d_lem rank down plan m s (place_of plan m p).second (no_link_twice_lem plan g) (leaves_to rank down plan m p s l) whole

pub leaves_in_time_lem : LeavesInTime
leaves_in_time_lem rank down plan m p s g l =
    turns_in_time_lem rank down (table_of plan) plan.timeout m s (path_of plan m) (start plan) (starts plan m) (good_rises plan g m)
    (place_of plan m p) (drop (suc p) (path_of plan m)) (at_place rank down plan m p s l) l.second

-- a difference at or above zero
not-below : (a b n : ℕ) → sub_ℕ a b ≡ pos n → b ≤ a
not-below a b n h = by (ltb a b) refl h
  where
    by : (t : Bool) → ltb a b ≡ t → cond t (negsuc (b - suc a)) (pos (a - b)) ≡ pos n → b ≤ a
    by true e g = let z : ◌≡◌ {A = ℕ} 0 1 = cc in absurd (omega arith)
    by false e g = ltb-false a b e

pub slack_means_arrival_lem : SlackMeansArrival
slack_means_arrival_lem rank down plan m p s n g l whole slack =
    let t = plan.timeout in
    let d = delay rank plan.messages m (place_of plan m p).second in
    let room : (place_of plan m p).slot + d ≤ t = not-below t ((place_of plan m p).slot + d) n slack in
    let early : s ≤ (place_of plan m p).slot = leaves_in_time_lem rank down plan m p s g l in
    let home : at_target (standing rank down plan m (s + d)) ≡ true = arrives_from_place_lem rank down plan m p s g l whole (omega arith) in
    let owner = table_of plan in
    let rest = t - (s + d) in
    let at : s + d + rest ≡ t = omega arith in
    let later : standing rank down plan m (s + d + rest) ≡ standing rank down plan m (s + d) =
    standing-after rank down plan m (s + d) rest ∙
    (at_target_stays_lem rank down owner m (s + d) (positions rank down owner 0 (s + d) (start plan)) home).there rest in
    ap (λ (i : ℕ). at_target (standing rank down plan m i)) (sym at) ∙ ap at_target later ∙ home

pub leaves_somewhere_lem : LeavesSomewhere
leaves_somewhere_lem rank down plan m s path before turns =
    ⊎_elim
    (λ h. absurd (true≢false (sym (ap has_turned h) ∙ before)))
    (λ t. found t (left-from rank down (table_of plan) m s (path_of plan m) (start plan) (starts plan m) t.place t.rest t.before))
    (turned-from (down s) (standing rank down plan m s) path turns)
  where
    found : (t : JustTurned (down s) (standing rank down plan m s) path) →
        (k : ℕ) × (k < length (path_of plan m)) × (drop k (path_of plan m) ≡ t.place ∷ t.rest) →
        (p : ℕ) × Leaves rank down plan m p s × ((place_of plan m p).second ≡ path)
    found t (k, l, left) =
        let whole : place_of plan m k ∷ drop (suc k) (path_of plan m) ≡ t.place ∷ t.rest =
        sym (drop-cons (path_of plan m) k (record { link = 0; slot = 0; second = [] }) l) ∙ left in
        let same : place_of plan m k ≡ t.place = cc whole in
        let second : (place_of plan m k).second ≡ path = ap (λ (q : Place). q.second) same ∙ t.second in (
          k,
          record {
            place = l;
            stands = t.before ∙ ap on_first (sym left);
            cut = ap (λ (q : Place). down s q.link) same ∙ t.cut;
            second = ap no_second second ∙ t.some;
          },
          second,
        )

-- it has turned after a slot if it had turned in it
act-turned : (rank : ℕ → ℕ) (down : ℕ → Bool) (owner : ℕ → ℕ) (i : ℕ) (tried : List ℕ) (m : ℕ) (p : Position) →
    has_turned (acts rank down owner i tried m (turn down p)).next ≡ true → (path : List ℕ) × (turn down p ≡ on_second path)
act-turned rank down owner i tried m p =
    one_slot (λ (v : Moved). has_turned v.next ≡ true → (path : List ℕ) × (turn down p ≡ on_second path)) rank down owner i tried m p
    (record {
      kind0 = home p;
      kind1 = λ q qs h d n g. absurd (false≢true g);
      kind2 = λ q qs h d s g. absurd (false≢true g);
      kind3 = λ f fs h d o r g. (f ∷ fs, h);
      kind4 = λ f fs h d o g. (f ∷ fs, h);
      kind5 = λ f fs h d o r g. (f ∷ fs, h);
      kind6 = λ q qs h d n g. absurd (false≢true g);
      kind7 = λ f fs h d g. (f ∷ fs, h);
    })
  where
    home : (r : Position) → at_target r ≡ true → has_turned r ≡ true → (path : List ℕ) × (turn down r ≡ on_second path)
    home (on_first ps) h g = absurd (false≢true g)
    home (on_second es) h g = (es, refl)

pub has_left : HasLeft
unfolding positions
has_left rank down plan m zero h = absurd (true≢false (sym h ∙ ap has_turned (starts plan m)))
has_left rank down plan m (suc i) h = by (has_turned (standing rank down plan m i)) refl (has_left rank down plan m i)
  where
    owner : ℕ → ℕ → ℕ
    owner = table_of plan

    ps : List Position
    ps = positions rank down owner 0 i (start plan)

    next : standing rank down plan m (suc i) ≡
        (acts rank (down i) (owner i) i (tried_in (down i) ps) m (turn (down i) (standing rank down plan m i))).next
    next =
        let one : suc i ≡ i + 1 = omega arith in
        ap (standing rank down plan m) one ∙ standing-after rank down plan m i 1 ∙
        step-at rank down owner m i ps (standing rank down plan m i) refl

    by : (b : Bool) → has_turned (standing rank down plan m i) ≡ b →
        (has_turned (standing rank down plan m i) ≡ true → (p : ℕ) × (s : ℕ) × (s < i) × Leaves rank down plan m p s) →
        (p : ℕ) × (s : ℕ) × (s < suc i) × Leaves rank down plan m p s
    by true b before = let l = before b in (l.0, l.1, omega (arith, l.2), l.3)
    by false b before =
        let now = act-turned rank (down i) (owner i) i (tried_in (down i) ps) m (standing rank down plan m i) (sym (ap has_turned next) ∙ h) in
        let l = leaves_somewhere_lem rank down plan m i now.0 b now.1 in
        (l.0, i, omega arith, l.1)

pub arrives_under_cuts_lem : ArrivesUnderCuts
arrives_under_cuts_lem plan cuts = arrives_from_place_lem (order_of plan) (is_cut plan cuts) plan

pub slack_under_cuts_lem : SlackUnderCuts
slack_under_cuts_lem plan cuts = slack_means_arrival_lem (order_of plan) (is_cut plan cuts) plan
