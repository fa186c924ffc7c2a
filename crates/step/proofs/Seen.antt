-- The pass held against what was seen of the messages: those below m do what was seen of them.
use Prim.Native.Nat.{ℕ, ◌+◌, ◌-◌, ◌*◌, ◌≤◌, ◌<◌}
use mathlib.Core.Path.{◌≡◌, refl, sym, ◌∙◌, ap, subst}
use mathlib.Core.Bool.{Bool, true, false, not, true≢false}
use mathlib.Core.List.{List, []}
use native.Mathlib.Omega.{arith}
use lib.ListN.{length, get_or, set}
use lib.Dec.{ltb}
use borrow.Author.Tests.{not-true, ltb-true, ltb-false, le-leb}
use Rattle.scope.specs.Limits.{most_messages}
use Rattle.scope.specs.Lowest.{seek, lowest}
use Rattle.scope.specs.Plan.{plan_of}
use Rattle.scope.specs.Slot as S
use Rattle.scope.specs.Cycle.{order_of, slot}
use Rattle.scope.proofs.Lowest.{seek_found, seek-next, seek-done, seek-most, seek_is}
use Rattle.step.specs.declared.Position.{Position}
use Rattle.step.specs.declared.Moved.{Moved}
use Rattle.step.specs.declared.Tries.{Tries}
use Rattle.step.specs.Events.{event_of}
use Rattle.step.specs.Stand.{home, positions_of, MayTellAll}
use Rattle.step.specs.Pass.{ActsIn}
use Rattle.step.specs.Seen.{as_seen, event_at, first_other, Differs, AllAsSeen}
use Rattle.step.proofs.Passing.{passes}
use Rattle.step.proofs.Moving.{moving_slot}
use Rattle.step.proofs.Telling.{Telling, telling_none, telling_event, telling_more, telling_done}

-- of a message past the end nothing was seen
seen-past : (seen : List ℕ) (m : ℕ) (v : S.Event) → length seen ≤ m → true ≡ as_seen seen m v
seen-past seen m v h = rw (le-leb (length seen) m h)

-- where nothing was seen nobody does anything else
pub none_other : (n : ℕ) (ms : List S.Moved) → first_other [] n ms ≡ n
none_other n ms = by (ltb r n) refl
  where
    test : ℕ → Bool
    test m = not (as_seen [] m (event_at ms m))

    r : ℕ
    r = lowest test n

    by : (t : Bool) → ltb r n ≡ t → r ≡ n
    by true e =
        let low : r < 0 + n = omega (arith, ltb-true r n e) in
        let here : as_seen [] r (event_at ms r) ≡ false = not-true _ (seek_is test n 0 low) in
        absurd (true≢false (seen-past [] r (event_at ms r) (omega arith) ∙ here))
    by false e = omega (arith, ltb-false r n e, seek-most test n 0)

module _ (row : List ℕ) (down : ℕ → ℕ → Bool) (owner : ℕ → ℕ → ℕ) (i n : ℕ) (old : List Position) (tried₀ : Tries) (buffer seen : List ℕ) where
  -- message m does something else
  abbrev pub is_other : ℕ → Bool
  is_other m = not (as_seen seen m (event_at (passes row (down i) (owner i) i n old tried₀) m))

  pub record Watching (m : ℕ) (new : List Position) (tried : Tries) (out : List ℕ) : Type 0 where
    pub telling : Telling row down owner i n old tried₀ buffer m new tried out
    pub first : seek is_other (n - m) m ≡ lowest is_other n

  pub watching_none : MayTellAll row old n i (length buffer) → length old ≡ most_messages →
      (tried₀.count ≡ 0) × (most_messages ≤ length tried₀.list) → Watching 0 old tried₀ buffer
  watching_none a l t =
      let all : n - 0 ≡ n = omega arith in
      record { telling = telling_none row down owner i n old tried₀ buffer a l t; first = ap (λ (k : ℕ). seek is_other k 0) all }

module _ {row : List ℕ} {down : ℕ → ℕ → Bool} {owner : ℕ → ℕ → ℕ} {i n : ℕ} {old : List Position} {tried₀ : Tries} {buffer seen : List ℕ}
    {m : ℕ} {new : List Position} {tried : Tries} {out : List ℕ} (g : Watching row down owner i n old tried₀ buffer seen m new tried out) where
  abbrev all : List S.Moved
  all = passes row (down i) (owner i) i n old tried₀

  abbrev other : ℕ → Bool
  other = is_other row down owner i n old tried₀ buffer seen

  module _ (l : m < n) (moved : Moved) (tried' : Tries) (a : ActsIn row (down i) (owner i) i (get_or new m home) m tried tried' moved) where
    is-event : event_of moved.event ≡ event_at all m
    is-event = telling_event g.telling moved tried' l a

    pub watching_more : (out' : List ℕ) → as_seen seen m (event_of moved.event) ≡ true →
        out' ≡ set (set out (2 * m) (event_of moved.event).kind) (2 * m + 1) (event_of moved.event).number →
        Watching row down owner i n old tried₀ buffer seen (m + 1) (set new m moved.next) tried' out'
    watching_more out' t e =
        let same : other m ≡ false = ap (λ (v : S.Event). not (as_seen seen m v)) (sym is-event) ∙ ap not t in
        record {
          telling = telling_more g.telling moved tried' out' l a e;
          first = sym (seek-next other n m l same) ∙ g.first;
        }

    -- message m does something else
    pub watching_other : as_seen seen m (event_of moved.event) ≡ false →
        Differs seen n (slot (order_of (plan_of row)) down owner i (positions_of row n old)) (record { message = m; event = moved.event })
    watching_other f =
        let differs : other m ≡ true = ap (λ (v : S.Event). not (as_seen seen m v)) (sym is-event) ∙ ap not f in
        let first : first_other seen n all ≡ m = sym g.first ∙ seek_found other n m l differs in
        subst (λ (ms : List S.Moved). Differs seen n ms (record { message = m; event = moved.event })) (moving_slot g.telling.moving)
        (record { there = omega arith; message = sym first; event = is-event ∙ ap (event_at all) (sym first) })

  -- all do what was seen of them
  pub watching_done : length old ≡ most_messages → n ≤ m →
      AllAsSeen row n (slot (order_of (plan_of row)) down owner i (positions_of row n old)) seen old new buffer out
  watching_done z h =
      let first : first_other seen n all ≡ m = sym g.first ∙ seek-done other n m h in
      let is : m ≡ n = omega (arith, g.telling.moving.passing.few) in
      record {
        alike = subst (λ (ms : List S.Moved). first_other seen n ms ≡ n) (moving_slot g.telling.moving) (first ∙ is);
        long = g.telling.moving.going.walk.long ∙ z;
        done = telling_done g.telling h;
      }
