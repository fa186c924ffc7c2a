-- One slot against the table: what is told of it are the events of the replay, under every list that cuts what is down.
use Prim.Native.Nat.{ℕ, ◌+◌, ◌-◌, ◌*◌, ◌<◌}
use native.Mathlib.Omega.{arith}
use mathlib.Core.Path.{◌≡◌, sym, ◌∙◌, ap, subst, fun_ext}
use mathlib.Core.Bool.{Bool, true, not}
use mathlib.Core.List.{List}
use lib.ListN.{length, get_or, take, drop, length-drop}
use lib.Seq.{length-take-le, get_or-take, get_or-drop}
use lib.Dec.{eqb}
use borrow.Author.Tests.{not-true, not-false, eqb-true, eqb-false, lt-leb}
use Rattle.scope.specs.Limits.{most_slots, most_messages, crossed_size}
use Rattle.scope.specs.Lowest.{lowest}
use Rattle.scope.specs.Plan.{plan_of}
use Rattle.scope.specs.Slot.{Event, Moved}
use Rattle.scope.specs.Cuts.{is_cut}
use Rattle.scope.specs.Cycle.{order_of, table_of, start, slot, positions}
use Rattle.scope.proofs.Lowest.{seek-most, seek_is, seek-low}
use Rattle.table.specs.Table.{entry_at}
use Rattle.cuts.specs.Down.{is_down}
use Rattle.step.specs.declared.Slot.{Slot}
use Rattle.step.specs.declared.Time.{Time}
use Rattle.step.specs.declared.Standing.{Standing}
use Rattle.step.specs.declared.Differing.{Differing}
use Rattle.step.specs.Events.{event_of, crossing_of}
use Rattle.step.specs.Stand.{positions_of}
use Rattle.step.specs.Slot.{down_now, all_in, MayGo}
use Rattle.step.specs.Seen.{as_seen, event_at, Differs, StandsAsSeen}
use Rattle.cycle.proofs.Agree.{slot_same}
use Rattle.capture.specs.Kept.{crossed_at}
use Rattle.picks.specs.declared.Sizes.{Sizes}
use Rattle.picks.specs.Picks.{StandAt}
use Rattle.picks.proofs.Playing.{advanced}
use Rattle.clues.specs.declared.Clue.{Clue}
use Rattle.clues.specs.declared.Clue.TheVariants.{Nothing, Link, Dead}
use Rattle.clues.specs.Clues.{event_in, MatchesIn, Foremost, Says, clue_of, MayLook, Shows, Looked}
use Rattle.clues.proofs.Crossings.{says-differs}

-- what the table has of a slot
abbrev pub seen_in : List ℕ → ℕ → List ℕ
seen_in crossed i = take most_messages (drop (i * most_messages) crossed)

pub part-is : (crossed : List ℕ) (k i : ℕ) → k ≡ i →
    take (k * most_messages + most_messages - k * most_messages) (drop (k * most_messages) crossed) ≡ seen_in crossed i
part-is crossed k i is =
    let all : k * most_messages + most_messages - k * most_messages ≡ most_messages = omega arith in
    ap (λ (n : ℕ). take n (drop (k * most_messages) crossed)) all ∙ ap (seen_in crossed) is

-- an event is as seen exactly if it has the crossing of the table
is_seen : (crossed : List ℕ) (i m : ℕ) (v : Event) → length crossed ≡ crossed_size → i < most_slots → m < most_messages →
    as_seen (seen_in crossed i) m v ≡ eqb (crossing_of v) (crossed_at crossed i m)
is_seen crossed i m v size there l =
    let rest = drop (i * most_messages) crossed in
    let long : length (take most_messages rest) ≡ most_messages =
    length-take-le most_messages rest (omega (arith, length-drop (i * most_messages) crossed)) in
    let at : get_or (take most_messages rest) m 0 ≡ crossed_at crossed i m =
    get_or-take most_messages rest m 0 l ∙ get_or-drop (i * most_messages) crossed m 0 in
    rw (lt-leb (length (take most_messages rest)) m (omega arith)) (ap (eqb (crossing_of v)) at)

module _ (row table crossed : List ℕ) (z : Sizes) (ps : Standing) (may : MayLook row table crossed z ps) where
  -- what the messages do in the slot, under a list
  module _ (down cuts : List ℕ) (stand : StandAt row z.messages cuts ps.time.0 ps)
      (are : (e : ℕ) → is_down down e ≡ is_cut (plan_of row) cuts ps.time.0 e) where
    does : all_in row table down ps.time.0 z.messages ps.positions ≡
        slot (order_of (plan_of row)) (is_cut (plan_of row) cuts) (table_of (plan_of row)) ps.time.0
        (positions (order_of (plan_of row)) (is_cut (plan_of row) cuts) (table_of (plan_of row)) 0 ps.time.0 (start (plan_of row)))
    does =
        let plan = plan_of row in
        let s = ps.time.0 in
        slot_same (order_of plan) (down_now down) (is_cut plan cuts) (entry_at table) (table_of plan) s
        (positions_of row z.messages ps.positions) (fun_ext are)
        (may.play.owner s (omega (arith, may.early, may.play.short))) ∙
        ap (slot (order_of plan) (is_cut plan cuts) (table_of plan) s) stand.next.is

    event-is : (m : ℕ) → event_at (all_in row table down ps.time.0 z.messages ps.positions) m ≡ event_in (plan_of row) cuts ps.time.0 m
    event-is m = ap (λ (ms : List Moved). event_at ms m) does

  -- by the slot that begins at the time
  module _ (t : Time) (i : Slot) (now : t ≡ ps.time) (begins : i.0 ≡ t.0) where
    at : i.0 ≡ ps.time.0
    at = begins ∙ ap (λ (x : Time). x.0) now

    pub may-go : MayGo row z.messages ps i.0
    may-go = record { stand = may.stand; at = sym at; early = omega (arith, at, may.early, may.play.short) }

    pub slot_small : i.0 < most_slots
    slot_small = omega (arith, at, may.early, may.play.short)

    module _ (down seen : List ℕ) (part : seen ≡ seen_in crossed i.0) where
      -- in the slot that begins at the time
      abbrev does_in : List Moved
      does_in = all_in row table down ps.time.0 z.messages ps.positions

      is_other : ℕ → Bool
      is_other m = not (as_seen (seen_in crossed ps.time.0) m (event_at does_in m))

      seen_of : (m : ℕ) → m < z.messages →
          as_seen (seen_in crossed ps.time.0) m (event_at does_in m) ≡ eqb (crossing_of (event_at does_in m)) (crossed_at crossed ps.time.0 m)
      seen_of m l =
          is_seen crossed ps.time.0 m (event_at does_in m) may.size (omega (arith, may.early, may.play.short))
          (omega (arith, may.stand.few))

      module _ (cuts : List ℕ) (stand : StandAt row z.messages cuts ps.time.0 ps)
          (are : (e : ℕ) → is_down down e ≡ is_cut (plan_of row) cuts ps.time.0 e) where
        alike : (m : ℕ) → m < lowest is_other z.messages →
            crossing_of (event_in (plan_of row) cuts ps.time.0 m) ≡ crossed_at crossed ps.time.0 m
        unfolding is_other
        alike m l =
            ap crossing_of (sym (event-is down cuts stand are m)) ∙
            eqb-true _ _ (sym (seen_of m (omega (arith, seek-most is_other z.messages 0))) ∙ not-false _ (seek-low is_other z.messages 0 m (omega arith) l))

        foremost : lowest is_other z.messages < z.messages →
            Foremost (event_in (plan_of row) cuts ps.time.0) (crossed_at crossed ps.time.0) z.messages (lowest is_other z.messages)
        unfolding is_other
        foremost l =
            let m = lowest is_other z.messages in
            let low : lowest is_other z.messages < 0 + z.messages = omega arith in
            let other : is_other m ≡ true = seek_is is_other z.messages 0 low in
            record {
              there = l;
              alike = alike;
              differs = λ q.
                  eqb-false _ _ (sym (seen_of m l) ∙ not-true _ other) (ap crossing_of (event-is down cuts stand are m) ∙ q);
            }

      abbrev SaysUnder : List ℕ → ℕ → Clue → Type 0
      SaysUnder cuts n = Says (event_in (plan_of row) cuts ps.time.0) (crossed_at crossed ps.time.0) n

      -- a message differs
      pub looked-other : (v : Differing) → Differs seen z.messages (all_in row table down i.0 z.messages ps.positions) v → (r : Clue) →
          r ≡ clue_of (event_of v.event) → Looked row crossed z down ps r
      unfolding is_other
      looked-other v other r is cuts stand are =
          let h : Differs (seen_in crossed ps.time.0) z.messages does_in v =
          subst (λ (j : ℕ). Differs (seen_in crossed j) z.messages (all_in row table down j z.messages ps.positions) v) at
          (subst (λ (l : List ℕ). Differs l z.messages (all_in row table down i.0 z.messages ps.positions) v) part other) in
          let m = lowest is_other z.messages in
          let f = foremost cuts stand are h.there in
          let same : event_of v.event ≡ event_in (plan_of row) cuts ps.time.0 m = h.event ∙ event-is down cuts stand are m in
          let says : SaysUnder cuts z.messages r =
          subst (SaysUnder cuts z.messages) (sym (is ∙ ap clue_of same)) (says-differs _ _ z.messages m f) in
          record {
            says = subst (λ (n : ℕ). SaysUnder cuts n r) may.play.messages says;
            stand = λ next none. absurd (f.differs (subst (SaysUnder cuts z.messages) none says m h.there));
          }

      -- none does
      pub looked-same : (next : Standing) → StandsAsSeen row table down seen z.messages i.0 ps next → Looked row crossed z down ps (Nothing next)
      unfolding is_other
      looked-same next all cuts stand are =
          let h : StandsAsSeen row table down (seen_in crossed ps.time.0) z.messages ps.time.0 ps next =
          subst (λ (j : ℕ). StandsAsSeen row table down (seen_in crossed j) z.messages j ps next) at
          (subst (λ (l : List ℕ). StandsAsSeen row table down l z.messages i.0 ps next) part all) in
          let says : SaysUnder cuts z.messages (Nothing next) = λ m l. alike cuts stand are m (omega (arith, h.alike)) in
          record {
            says = subst (λ (n : ℕ). SaysUnder cuts n (Nothing next)) may.play.messages says;
            stand = λ q e.
                let same : next ≡ q = cc in
                subst (StandAt row z.messages cuts (ps.time.0 + 1)) same
                (advanced row table z may.play cuts down ps.time.0 ps next may.early are stand h.goes);
          }

-- what a clue says of a list
module _ (row crossed : List ℕ) (n : ℕ) (cuts : List ℕ) (s : ℕ) (r : Clue) (shows : Shows row crossed n cuts s r) where
  abbrev SaysOf : Clue → Type 0
  SaysOf = Says (event_in (plan_of row) cuts s) (crossed_at crossed s) (length (plan_of row).messages)

  pub shown_nothing : (next : Standing) → r ≡ Nothing next → MatchesIn (plan_of row) crossed cuts s
  shown_nothing next is = subst SaysOf is shows.says

  pub shown-link : (x : ℕ) → r ≡ Link x → MatchesIn (plan_of row) crossed cuts s → ⊥
  shown-link x is all = let h : SaysOf (Link x) = subst SaysOf is shows.says in h.1.differs (all h.0 h.1.there)

  pub shown_dead : r ≡ Dead → MatchesIn (plan_of row) crossed cuts s → ⊥
  shown_dead is all = let h : SaysOf Dead = subst SaysOf is shows.says in h.1.differs (all h.0 h.1.there)
