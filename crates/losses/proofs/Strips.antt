-- A message that no pair strips is at its target at the end: on its first path it would have met a fragile place cut in time, and from a robust
-- one its second path, which no pair cuts, leads it there in time.
use Prim.Native.Nat.{ℕ, zero, suc, ◌+◌, ◌-◌, ◌≤◌, ◌<◌}
use native.Mathlib.Omega.{arith}
use mathlib.Core.Path.{◌≡◌, refl, sym, ◌∙◌, ap}
use mathlib.Core.Bool.{Bool, true, false, cond, not, ◌&&◌, ◌||◌, true≢false, false≢true}
use mathlib.Core.List.{List, [], ◌∷◌}
use lib.ListN.{length, get_or, drop}
use lib.Seq.{drop-cons}
use lib.IntN.{pos, sub_ℕ}
use lib.Dec.{leb, eqb}
use borrow.Author.Tests.{ltb-false, leb-true, le-ltb, eqb-true}
use Rattle.scope.specs.Outcome.{gives}
use Rattle.scope.specs.Plan.{Plan, Place, path_of, place_of}
use Rattle.scope.specs.Good.{has, slots_rise}
use Rattle.scope.specs.Rules.{rules}
use Rattle.scope.specs.Slot.{Position, on_first, on_second, at_target}
use Rattle.scope.specs.Cuts.{pairs, cut_slot, cut_link, cuts_link, is_cut}
use Rattle.scope.specs.Cycle.{order_of, table_of, start}
use Rattle.scope.specs.Spare.{delay, no_second}
use Rattle.scope.proofs.Bools.{or_left, or_right, and_right}
use Rattle.laws.specs.Message.{has_turned}
use Rattle.laws.specs.Untouched.{WholeInTime}
use Rattle.laws.specs.Diverted.{Leaves}
use Rattle.laws.proofs.Rising.{rises}
use Rattle.laws.proofs.Good.{good_rises, good-links}
use Rattle.laws.proofs.Kept.{starts}
use Rattle.laws.proofs.Cuts.{not-cut}
use Rattle.laws.proofs.Latest.{stranded, left-from}
use Rattle.laws.proofs.Slack.{leaves_in_time_lem, slack_under_cuts_lem, has_left}
use Rattle.sets.specs.Sums.{one_if}
use Rattle.losses.specs.Touch.{harm, over_cut}
use Rattle.losses.specs.Harmed.{hers, hers_on, is_touched, stands}
use Rattle.losses.specs.Strips.{is_robust, fragile_of, fragile_plan, cuts_one_of, through_robust, strips, is_stripped}
use Rattle.losses.specs.Strips.{StripsCount, LosesOnly, LosesNoMoreThanBoth}
use Rattle.sets.proofs.Sums.{sum_le, sum_plus, sum_term}
use Rattle.losses.proofs.Touch.{all-hers, unharmed, touches-count}
use Rattle.losses.proofs.Harmed.{loses_each, was_away}
use Rattle.losses.proofs.Fragile.{fragile_cut, fragile_rises, fragile_links, fragile_gives}

abbrev nowhere : Place
nowhere = record { link = 0; slot = 0; second = [] }

-- the slot of each place is below t
slot-below : (t least : ℕ) (path : List Place) → slots_rise t least path ≡ true → (k : ℕ) → k < length path → (get_or path k nowhere).slot < t
slot-below t least [] r k l = absurd (omega arith)
slot-below t least (p ∷ ps) r zero l = (rises t least p ps r).high
slot-below t least (p ∷ ps) r (suc k) l = slot-below t (p.slot + 1) ps (rises t least p ps r).rest k (omega arith)

-- a pair that cuts none of these links
cuts-none : (plan : Plan) (d e : ℕ) (es : List ℕ) → cuts_one_of plan d es ≡ false → has e es ≡ true → cuts_link plan d e ≡ false
unfolding cuts_one_of has
cuts-none plan d e [] none h = absurd (false≢true h)
cuts-none plan d e (f ∷ fs) none h = by (eqb e f) refl h (cuts-none plan d e fs (or_right (cuts_link plan d f) (cuts_one_of plan d fs) none))
  where
    by : (b : Bool) → eqb e f ≡ b → (b || has e fs) ≡ true → (has e fs ≡ true → cuts_link plan d e ≡ false) → cuts_link plan d e ≡ false
    by true same g more = ap (cuts_link plan d) (eqb-true e f same) ∙ or_left (cuts_link plan d f) (cuts_one_of plan d fs) none
    by false other g more = more g

module _ (plan : Plan) (m : ℕ) where
  -- a fragile place is one of the fragile places
  fragile_place : (down : ℕ → ℕ → Bool) (path : List Place) → WholeInTime down (fragile_of plan m path) → (k : ℕ) → k < length path →
      is_robust plan m (get_or path k nowhere) ≡ false → (i : ℕ) → i ≤ (get_or path k nowhere).slot → down i (get_or path k nowhere).link ≡ false
  unfolding fragile_of
  fragile_place down [] whole k l weak = absurd (omega arith)
  fragile_place down (p ∷ ps) whole zero l weak =
      let here : WholeInTime down (p ∷ fragile_of plan m ps) = rw weak at whole in here.0
  fragile_place down (p ∷ ps) whole (suc k) l weak = fragile_place down ps (by (is_robust plan m p) whole) k (omega arith) weak
    where
      by : (b : Bool) → WholeInTime down (cond b (fragile_of plan m ps) (p ∷ fragile_of plan m ps)) → WholeInTime down (fragile_of plan m ps)
      by true w = w
      by false w = w.1

  -- a pair that cuts no second path of a robust place
  robust_place : (d : ℕ) (path : List Place) → through_robust plan m d path ≡ false → (k : ℕ) → k < length path →
      is_robust plan m (get_or path k nowhere) ≡ true → cuts_one_of plan d (get_or path k nowhere).second ≡ false
  unfolding through_robust
  robust_place d [] none k l strong = absurd (omega arith)
  robust_place d (p ∷ ps) none zero l strong =
      let here : (true && cuts_one_of plan d p.second) ≡ false =
      rw strong at (or_left (is_robust plan m p && cuts_one_of plan d p.second) (through_robust plan m d ps) none) in here
  robust_place d (p ∷ ps) none (suc k) l strong =
      robust_place d ps (or_right (is_robust plan m p && cuts_one_of plan d p.second) (through_robust plan m d ps) none) k (omega arith) strong

  -- without a second path, fragile; robust, in time
  bare_weak : (p : Place) → p.second ≡ [] → is_robust plan m p ≡ false
  bare_weak p h = rw h

  in_time_lem : (p : Place) → is_robust plan m p ≡ true →
      sub_ℕ plan.timeout (p.slot + delay (order_of plan) plan.messages m p.second) ≡
      pos (plan.timeout - (p.slot + delay (order_of plan) plan.messages m p.second))
  in_time_lem p h =
      let d = p.slot + delay (order_of plan) plan.messages m p.second in
      let fits : d ≤ plan.timeout = leb-true d plan.timeout (and_right (not (no_second p.second)) (leb d plan.timeout) h) in
      rw (le-ltb plan.timeout d fits)

  module _ (cuts : List ℕ) (g : rules plan ≡ gives 0) (none : harm (strips plan m) cuts (pairs cuts) ≡ 0) where
    -- its fragile places are whole in time, and the second paths of the others at all times
    fragile_whole : WholeInTime (is_cut plan cuts) (fragile_of plan m (path_of plan m))
    fragile_whole =
        let less = sum_le (λ j. over_cut plan (cut_link cuts j) (hers_on (fragile_plan plan) m (cut_slot cuts j)))
        (λ j. strips plan m (cut_slot cuts j) (cut_link cuts j))
        (pairs cuts) (λ j l. omega (arith, fragile_cut plan (cut_link cuts j) (hers_on (fragile_plan plan) m (cut_slot cuts j)))) in
        unharmed plan (table_of (fragile_plan plan)) m 0 cuts (fragile_of plan m (path_of plan m))
        (fragile_links plan m (path_of plan m) (good-links plan g m))
        (fragile_rises plan m plan.timeout 0 (path_of plan m) (good_rises plan g m))
        (fragile_gives plan g m) (omega arith)

    not_through : (j : ℕ) → j < pairs cuts → through_robust plan m (cut_link cuts j) (path_of plan m) ≡ false
    not_through j l = by (through_robust plan m (cut_link cuts j) (path_of plan m)) refl
      where
        by : (b : Bool) → through_robust plan m (cut_link cuts j) (path_of plan m) ≡ b → b ≡ false
        by false h = refl
        by true h =
            let term = sum_term (λ k. strips plan m (cut_slot cuts k) (cut_link cuts k)) (pairs cuts) j l in
            absurd (omega (arith, term, ap one_if h))

    second-whole : (p : ℕ) → p < length (path_of plan m) → is_robust plan m (place_of plan m p) ≡ true → (i e : ℕ) →
        has e (place_of plan m p).second ≡ true → is_cut plan cuts i e ≡ false
    second-whole p l strong i e h =
        not-cut plan cuts i e
        (λ j a b. absurd (true≢false (sym b ∙ cuts-none plan (cut_link cuts j) e (place_of plan m p).second
        (robust_place (cut_link cuts j) (path_of plan m) (not_through j a) p l strong) h)))

    -- on its first path at the end: at its target
    from_first : (ps : List Place) → stands plan cuts plan.timeout m ≡ on_first ps → at_target (on_first ps) ≡ true
    from_first [] h = refl
    from_first (q ∷ qs) h =
        let place = left-from (order_of plan) (is_cut plan cuts) (table_of plan) m plan.timeout (path_of plan m)
        (start plan) (starts plan m) q qs h in
        let k = place.0 in
        let both : place_of plan m k ∷ drop (suc k) (path_of plan m) ≡ q ∷ qs = sym (drop-cons (path_of plan m) k nowhere place.1) ∙ place.2 in
        let same : place_of plan m k ≡ q = cc both in
        let low : (place_of plan m k).slot < plan.timeout = slot-below plan.timeout 0 (path_of plan m) (good_rises plan g m) k place.1 in
        let past : q.slot < plan.timeout = rw same at low in
        let cut = stranded (order_of plan) (is_cut plan cuts) (table_of plan) plan.timeout m plan.timeout (path_of plan m) (start plan)
        (starts plan m) (good_rises plan g m) q qs h past in
        let whole : is_cut plan cuts q.slot q.link ≡ false =
        rw same at (fragile_place (is_cut plan cuts) (path_of plan m) fragile_whole k place.1
        (ap (is_robust plan m) same ∙ bare_weak q cut.0) (place_of plan m k).slot (omega arith)) in
        absurd (true≢false (sym cut.1 ∙ whole))

    -- who left its first path did so at a robust place
    left_robust : (p s : ℕ) → Leaves (order_of plan) (is_cut plan cuts) plan m p s → is_robust plan m (place_of plan m p) ≡ true
    left_robust p s left = by (is_robust plan m (place_of plan m p)) refl
      where
        by : (b : Bool) → is_robust plan m (place_of plan m p) ≡ b → b ≡ true
        by true h = refl
        by false h =
            absurd (true≢false (sym left.cut ∙ fragile_place (is_cut plan cuts) (path_of plan m) fragile_whole p left.place h s
            (leaves_in_time_lem (order_of plan) (is_cut plan cuts) plan m p s g left)))

    from_second : has_turned (stands plan cuts plan.timeout m) ≡ true → at_target (stands plan cuts plan.timeout m) ≡ true
    from_second h =
        let l = has_left (order_of plan) (is_cut plan cuts) plan m plan.timeout h in
        let p = l.0 in
        let strong = left_robust p l.1 l.3 in
        slack_under_cuts_lem plan cuts m p l.1
        (plan.timeout - ((place_of plan m p).slot + delay (order_of plan) plan.messages m (place_of plan m p).second))
        g l.3 (λ i a b away e on. second-whole p l.3.place strong i e on) (in_time_lem (place_of plan m p) strong)

    unstripped_arrives : at_target (stands plan cuts plan.timeout m) ≡ true
    unstripped_arrives = by (stands plan cuts plan.timeout m) refl
      where
        by : (q : Position) → stands plan cuts plan.timeout m ≡ q → at_target (stands plan cuts plan.timeout m) ≡ true
        by (on_first ps) h = ap at_target h ∙ from_first ps h
        by (on_second es) h = from_second (ap has_turned h)

strips-none : (plan : Plan) → rules plan ≡ gives 0 → (cuts : List ℕ) (m : ℕ) → is_stripped plan cuts m ≡ false →
    at_target (stands plan cuts plan.timeout m) ≡ true
strips-none plan g cuts m none = unstripped_arrives plan m cuts g (omega (arith, ltb-false 0 (harm (strips plan m) cuts (pairs cuts)) none))

pub strips-count : StripsCount
strips-count plan g =
    record {
      all = λ s e.
          let n = length plan.messages in
          let weak : ℕ → ℕ = λ m. hers (fragile_plan plan) m s e in
          let strong : ℕ → ℕ = λ m. one_if (through_robust plan m e (path_of plan m)) in
          omega (arith, sum_plus weak strong n, all-hers (fragile_plan plan) n s e);
      none = strips-none plan g;
    }

pub loses_only_lem : LosesOnly
loses_only_lem plan cuts m g gone =
    (hit (is_touched plan cuts m) ((touches-count plan g).none cuts m), hit (is_stripped plan cuts m) (strips-none plan g cuts m))
  where
    hit : (b : Bool) → (b ≡ false → at_target (stands plan cuts plan.timeout m) ≡ true) → b ≡ true
    hit true h = refl
    hit false h = absurd (true≢false (sym (h refl) ∙ gone))

pub loses_no_more_than_both_lem : LosesNoMoreThanBoth
loses_no_more_than_both_lem plan cuts s g early =
    loses_each plan cuts (λ m. one_if (is_touched plan cuts m && is_stripped plan cuts m && not (at_target (stands plan cuts s m))))
    (λ m gone. let both = loses_only_lem plan cuts m g gone in rw (both.0, both.1, was_away plan s m cuts early gone) (omega arith))
