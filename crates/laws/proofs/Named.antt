-- The foremost message whose crossing differs, in the first slot that has one, names a link.
use Prim.Native.Nat.{ℕ, zero, suc, ◌+◌, ◌*◌, ◌≤◌, ◌<◌}
use native.Mathlib.Omega.{arith}
use mathlib.Core.Path.{◌≡◌, refl, sym, ◌∙◌, ap, ap₂, subst, subst₂}
use mathlib.Core.Logic.{⊎_elim, inl, inr}
use mathlib.Core.Bool.{Bool, true, false}
use mathlib.Core.List.{List, [], ◌∷◌}
use lib.ListN.{length, length-map, get_or, get_or-eq_default}
use lib.Dec.{ltb}
use borrow.Author.Tests.{ltb-true, ltb-false, eq-eqb}
use Rattle.scope.specs.Outcome.{gives}
use Rattle.scope.specs.Plan.{Plan}
use Rattle.scope.specs.Rules.{rules}
use Rattle.scope.specs.Slot.{Position, on_first, on_second, Moved, at_target}
use Rattle.scope.specs.Cuts.{is_cut}
use Rattle.scope.specs.Cycle.{foremost, slot, positions, start, table_of, order_of, event_row}
use Rattle.scope.specs.Capture.{is_crossing, has_crossing}
use Rattle.laws.specs.Message.{position_of, move_in, stands_at, event_of, crosses}
use Rattle.laws.specs.Links.{TableGivesLeft}
use Rattle.laws.specs.Named.{Grows, Within, Alike, Named, NamedUnderCuts, CrossingInReplay}
use Rattle.laws.proofs.One.{tried_in, move_at, next-at}
use Rattle.laws.proofs.Replay.{positions_follow_lem}
use Rattle.laws.proofs.Rows.{events_in_row_lem}
use Rattle.laws.proofs.Turned.{at_target_stays_lem}
use Rattle.laws.proofs.Cuts.{cuts_grow}
use Rattle.laws.proofs.Foremost.{foremost-is}
use Rattle.laws.proofs.Links.{tries-number, lowest-crosses, crossed_in, given, first_lower}
use Rattle.laws.proofs.Held.{lowest-tries}
use Rattle.laws.proofs.Kept.{starts}
use Rattle.laws.proofs.InReplay.{table_at}
use Rattle.laws.proofs.Sound.{SoundLeft, sound_at}
use Rattle.laws.proofs.Near.{Near, TurnsElsewhere, Meets, meets}

-- who goes before message m on a free link in one replay crosses it, in the other as well, and goes before m there
module _ (rank : ℕ → ℕ) (down other : ℕ → ℕ → Bool) (owner : ℕ → ℕ → ℕ) (m i e : ℕ) (ps qs : List Position) where
  held_too : owner i e ≡ 0 → ((f : ℕ) → TableGivesLeft owner f (position_of f qs)) →
      ((f : ℕ) → rank f < rank m → crosses e (move_in rank down owner f i ps).event ≡ crosses e (move_in rank other owner f i qs).event) →
      rank (foremost rank e m 0 (tried_in (down i) ps)) < rank m → rank (foremost rank e m 0 (tried_in (other i) qs)) < rank m
  held_too free table alike low =
      ⊎_elim
      (λ h. let l : rank m < rank m = subst (λ (x : ℕ). rank x < rank m) h low in absurd (omega arith))
      (λ h. let is : foremost rank e m 0 (tried_in (down i) ps) ≡ h.0 = omega (arith, h.1) in
      by h.0 is (subst (λ (x : ℕ). rank x < rank m) is low) h.2)
      (foremost-is rank e (tried_in (down i) ps) m 0)
    where
      by : (f : ℕ) → foremost rank e m 0 (tried_in (down i) ps) ≡ f → rank f < rank m → get_or (tried_in (down i) ps) f 0 ≡ e + 1 →
          rank (foremost rank e m 0 (tried_in (other i) qs)) < rank m
      by f is l number =
          let c = lowest-crosses rank down owner f i e ps (tries-number (down i) e f ps number) free
          (lowest-tries rank down owner m i e ps f is) in
          let v = (move_in rank down owner f i ps).event in
          let here : crosses e v ≡ true = rw (c.kind, c.number) (eq-eqb e e refl) in
          ⊎_elim
          (λ x. absurd (omega (arith, given owner i e f (position_of f qs) (table f) x)))
          (λ x. omega (arith, first_lower rank (other i) (owner i) e m f qs x))
          (crossed_in rank other owner i e qs f (sym (alike f l) ∙ here))

same_test : (a b n : ℕ) → (a < n → b < n) → (b < n → a < n) → ltb a n ≡ ltb b n
same_test a b n f g = by (ltb a n) refl (ltb b n) refl
  where
    by : (x : Bool) → ltb a n ≡ x → (y : Bool) → ltb b n ≡ y → x ≡ y
    by true s true t = refl
    by false s false t = refl
    by true s false t = absurd (omega (arith, f (ltb-true a n s), ltb-false b n t))
    by false s true t = absurd (omega (arith, g (ltb-true b n t), ltb-false a n s))

-- a message that is not there crosses nothing
not_there : (rank : ℕ → ℕ) (down : ℕ → ℕ → Bool) (plan : Plan) (m i e : ℕ) → length plan.messages ≤ m →
    crosses e (event_of rank down (table_of plan) m i (start plan)) ≡ false
not_there rank down plan m i e h =
    let owner = table_of plan in
    let ps = positions rank down owner 0 i (start plan) in
    let home : at_target (position_of m (start plan)) ≡ true =
    ap at_target (starts plan m ∙ ap on_first (get_or-eq_default plan.messages [] h)) in
    let still : position_of m ps ≡ position_of m (start plan) = (at_target_stays_lem rank down owner m 0 (start plan) home).there i in
    let event = at_target_stays_lem rank down owner m i ps (ap at_target still ∙ home) in
    rw event.kind

module _ (rank : ℕ → ℕ) (down other : ℕ → ℕ → Bool) (plan : Plan) (good : rules plan ≡ gives 0) where
  alike_all : (i j : ℕ) → (j < length plan.messages → Alike rank plan down other j i) → Alike rank plan down other j i
  alike_all i j h = by (ltb j (length plan.messages)) refl
    where
      by : (b : Bool) → ltb j (length plan.messages) ≡ b → Alike rank plan down other j i
      by true l = h (ltb-true j (length plan.messages) l)
      by false l =
          let far = ltb-false j (length plan.messages) l in
          λ e. not_there rank down plan j i e far ∙ sym (not_there rank other plan j i e far)

  turns_elsewhere : (p : Position) → SoundLeft plan p → TurnsElsewhere p
  turns_elsewhere (on_first []) s = tt
  turns_elsewhere (on_first (q ∷ qs)) s = s.0.elsewhere
  turns_elsewhere (on_second es) s = tt

  -- message m in slot i of both
  abbrev NearAt : ℕ → ℕ → Type 0
  NearAt i m = Near (other i) (stands_at rank down (table_of plan) m i (start plan)) (stands_at rank other (table_of plan) m i (start plan))

  abbrev tried : (ℕ → ℕ → Bool) → ℕ → List ℕ
  tried d i = tried_in (d i) (positions rank d (table_of plan) 0 i (start plan))

  abbrev does : (ℕ → ℕ → Bool) → ℕ → ℕ → Moved
  does d i m = move_in rank d (table_of plan) m i (positions rank d (table_of plan) 0 i (start plan))

  module _ (within : Within down other) where
    meets_at : (i m : ℕ) → NearAt i m →
        Meets rank (down i) (other i) (table_of plan i) i (tried down i) (tried other i) m (within i) (does down i m) (does other i m)
    meets_at i m near =
        let owner = table_of plan in
        let ps = positions rank down owner 0 i (start plan) in
        let qs = positions rank other owner 0 i (start plan) in
        subst₂ (Meets rank (down i) (other i) (owner i) i (tried down i) (tried other i) m (within i))
        (sym (move_at rank down owner i ps m)) (sym (move_at rank other owner i qs m))
        (meets rank (down i) (other i) (owner i) i (tried down i) (tried other i) m (within i) (position_of m ps) (position_of m qs)
        (turns_elsewhere (position_of m ps) (sound_at rank down plan good m i)) near)

    stands-next : (d : ℕ → ℕ → Bool) (i m : ℕ) → stands_at rank d (table_of plan) m (i + 1) (start plan) ≡ (does d i m).next
    unfolding positions
    stands-next d i m =
        let owner = table_of plan in
        let z : 0 + i ≡ i = omega arith in
        let ps = positions rank d owner 0 i (start plan) in
        ap (position_of m) (positions_follow_lem rank d owner 0 i 1 (start plan) ∙ ap (λ (j : ℕ). positions rank d owner j 1 ps) z) ∙
        next-at (slot rank d owner i ps) m

    near-later : Grows other → (i m : ℕ) (p l : Position) → Near (other i) p l → Near (other (i + 1)) p l
    near-later grows i m p l =
        ⊎_elim inl
        (λ a. inr (record {
          place = a.place;
          rest = a.rest;
          waits = a.waits;
          link = a.link;
          after = a.after;
          second = a.second;
          turned = a.turned;
          cut = grows i (i + 1) a.place.link (omega arith) a.cut;
        }))

    near-at : Grows other → (d : ℕ) → ((i j : ℕ) → i < d → Alike rank plan down other j i) → (m : ℕ) → NearAt d m
    unfolding positions
    near-at grows zero alike m = inl refl
    near-at grows (suc d) alike m =
        let e : d + 1 ≡ suc d = omega arith in
        let now = meets_at d m (near-at grows d (λ i j l. alike i j (omega arith)) m) in
        let next : Near (other d) (does down d m).next (does other d m).next = now.near (alike d m (omega arith)) in
        let later : NearAt (d + 1) m =
        subst₂ (Near (other (d + 1))) (sym (stands-next down d m)) (sym (stands-next other d m))
        (near-later grows d m (does down d m).next (does other d m).next next) in
        rw e at later

pub named : Named
named rank down other plan d m good grows within before lower differs =
    let owner = table_of plan in
    let ps = positions rank down owner 0 d (start plan) in
    let qs = positions rank other owner 0 d (start plan) in
    let near = near-at rank down other plan good within grows d (λ i j l. alike_all rank down other plan good i j (before i j l)) m in
    let ahead : (j : ℕ) → rank j < rank m → Alike rank plan down other j d =
    λ j l. alike_all rank down other plan good d j (λ h. lower j h l) in
    ⊎_elim (λ same. absurd (differs same))
    (λ more. ⊎_elim (λ names. names)
    (λ c. absurd (differs (c.alike (same_test _ _ (rank m)
    (held_too rank down other owner m d c.link ps qs c.free (λ f. table_at rank other plan good f d) (λ f l. ahead f l c.link))
    (held_too rank other down owner m d c.link qs ps c.free (λ f. table_at rank down plan good f d)
    (λ f l. sym (ahead f l c.link))))))) more)
    (meets_at rank down other plan good within d m near).why

pub named_under_cuts_lem : NamedUnderCuts
named_under_cuts_lem plan cuts others d m good =
    named (order_of plan) (is_cut plan cuts) (is_cut plan others) plan d m good (cuts_grow plan others)

pub crossing_in_replay_lem : CrossingInReplay
unfolding has_crossing event_row
crossing_in_replay_lem plan cuts i e m h l =
    let size : length (start plan) ≡ length plan.messages = length-map plan.messages on_first in
    let row = events_in_row_lem (order_of plan) (is_cut plan cuts) (table_of plan) plan.timeout m i (start plan) h (omega arith) in
    let events = event_row plan cuts in
    ap (λ (n : ℕ). is_crossing (get_or events (2 * (i * n + m)) 0) (get_or events (2 * (i * n + m) + 1) 0) e) (sym size) ∙
    ap₂ (λ (k n : ℕ). is_crossing k n e) row.kind row.number
