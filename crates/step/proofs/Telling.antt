-- The loop that moves the messages of a slot and tells its events: those of the first m messages stand at the front of a buffer.
use Prim.Native.Nat.{ℕ, zero, suc, ◌+◌, ◌-◌, ◌*◌, ◌≤◌, ◌<◌}
use mathlib.Core.Path.{◌≡◌, refl, sym, ◌∙◌, ap}
use mathlib.Core.Bool.{Bool}
use mathlib.Core.List.{List, [], ◌∷◌, ◌++◌}
use native.Mathlib.Numerals.{add-one}
use native.Mathlib.Omega.{arith}
use lib.ListN.{length, get_or, take, drop, set, length-append, length-drop}
use lib.Seq.{length-take-le, take-suc, take_all, drop-cons, append_snoc, set_at}
use Rattle.scope.specs.Plan.{plan_of}
use Rattle.scope.specs.Slot as S
use Rattle.scope.specs.Cycle.{order_of, slot, numbers}
use Rattle.step.specs.declared.Position.{Position}
use Rattle.step.specs.declared.Moved.{Moved}
use Rattle.step.specs.Events.{event_of}
use Rattle.scope.specs.Limits.{most_messages}
use Rattle.step.specs.declared.Tries.{Tries}
use Rattle.step.specs.Stand.{home, positions_of, MayTellAll, MovesAndTells}
use Rattle.step.specs.Pass.{MayMoveAll, ActsIn}
use Rattle.step.proofs.Moves.{numbers-length}
use Rattle.step.proofs.Acting.{moves_by}
use Rattle.step.proofs.Passing.{passes, all-length}
use Rattle.step.proofs.Moving.{Moving, moving_none, moving_at, moving_more, moving_slot, moving_done}

-- one more number at the front of a buffer
put_one : (w out : List ℕ) (k v : ℕ) → k < length w → k < length out → v ≡ get_or w k 0 →
    set (take k w ++ drop k out) k v ≡ take (k + 1) w ++ drop (k + 1) out
put_one w out k v g h e =
    let a : set (take k w ++ drop k out) k v ≡ take k w ++ v ∷ drop (suc k) out =
    ap (λ r. set (take k w ++ r) k v) (drop-cons out k 0 h)
    ∙ set_at (take k w) (get_or out k 0) (drop (suc k) out) v k (length-take-le k w (omega arith)) in
    let b : take (suc k) w ≡ take k w ++ (v ∷ []) = take-suc w k 0 g ∙ ap (λ u. take k w ++ (u ∷ [])) (sym e) in
    a ∙ sym (append_snoc (take k w) v (drop (suc k) out)) ∙ ap (λ r. r ++ drop (suc k) out) (sym b)
    ∙ ap (λ u. take u w ++ drop u out) (sym (add-one k))

put_two : (w out : List ℕ) (m a b : ℕ) → 2 * m + 1 < length w → 2 * m + 1 < length out → a ≡ get_or w (2 * m) 0 → b ≡ get_or w (2 * m + 1) 0 →
    set (set (take (2 * m) w ++ drop (2 * m) out) (2 * m) a) (2 * m + 1) b ≡ take (2 * (m + 1)) w ++ drop (2 * (m + 1)) out
put_two w out m a b g h e f =
    let k : 2 * m + 1 + 1 ≡ 2 * (m + 1) = omega arith in
    ap (λ l. set l (2 * m + 1) b) (put_one w out (2 * m) a (omega arith) (omega arith) e) ∙ put_one w out (2 * m + 1) b g h f
    ∙ ap (λ u. take u w ++ drop u out) k

-- the numbers of message m
kind_at : (ms : List S.Moved) (m : ℕ) (d : S.Moved) → m < length ms → get_or (numbers ms) (2 * m) 0 ≡ (get_or ms m d).event.kind
unfolding numbers
kind_at [] m d h = absurd (omega arith)
kind_at (x ∷ ms) zero d h = refl
kind_at (x ∷ ms) (suc m) d h =
    let e : 2 * suc m ≡ suc (suc (2 * m)) = omega arith in
    rw e (kind_at ms m d (omega arith))

number_at : (ms : List S.Moved) (m : ℕ) (d : S.Moved) → m < length ms → get_or (numbers ms) (2 * m + 1) 0 ≡ (get_or ms m d).event.number
unfolding numbers
number_at [] m d h = absurd (omega arith)
number_at (x ∷ ms) zero d h = refl
number_at (x ∷ ms) (suc m) d h =
    let e : 2 * suc m + 1 ≡ suc (suc (2 * m + 1)) = omega arith in
    rw e (number_at ms m d (omega arith))

module _ (row : List ℕ) (down : ℕ → ℕ → Bool) (owner : ℕ → ℕ → ℕ) (i n : ℕ) (old : List Position) (tried₀ : Tries) (buffer : List ℕ) where
  pub record Telling (m : ℕ) (new : List Position) (tried : Tries) (out : List ℕ) : Type 0 where
    pub moving : Moving row down owner i n old tried₀ m new tried
    pub room : 2 * n ≤ length buffer
    pub written : out ≡ take (2 * m) (numbers (passes row (down i) (owner i) i n old tried₀)) ++ drop (2 * m) buffer

  pub telling_none : MayTellAll row old n i (length buffer) → length old ≡ most_messages →
      (tried₀.count ≡ 0) × (most_messages ≤ length tried₀.list) → Telling 0 old tried₀ buffer
  telling_none a l t =
      let may : MayMoveAll row old n i tried₀ =
      record { stand = a.stand; long = omega (arith, l, a.stand.few); early = a.early; room = t.1; none = t.0 } in
      record { moving = moving_none row down owner i n old tried₀ may; room = a.enough; written = refl }

module _ {row : List ℕ} {down : ℕ → ℕ → Bool} {owner : ℕ → ℕ → ℕ} {i n : ℕ} {old : List Position} {tried₀ : Tries} {buffer : List ℕ}
    {m : ℕ} {new : List Position} {tried : Tries} {out : List ℕ} (g : Telling row down owner i n old tried₀ buffer m new tried out) where
  abbrev all : List S.Moved
  all = passes row (down i) (owner i) i n old tried₀

  told-length : length (numbers all) ≡ 2 * n
  told-length = numbers-length all ∙ ap (λ k. 2 * k) (all-length g.moving.passing)

  pub telling_length : length out ≡ length buffer
  telling_length =
      let few = g.moving.passing.few in
      let e : length out ≡ 2 * m + (length buffer - 2 * m) =
      ap length g.written
      ∙ length-append (take (2 * m) (numbers all)) (drop (2 * m) buffer)
      ∙ ap (λ k. k + length (drop (2 * m) buffer)) (length-take-le (2 * m) (numbers all) (omega (arith, told-length, few)))
      ∙ ap (λ k. 2 * m + k) (length-drop (2 * m) buffer) in
      omega (arith, g.room, few)

  -- message m's event, as the pass has it
  pub telling_event : (moved : Moved) (tried' : Tries) → m < n → ActsIn row (down i) (owner i) i (get_or new m home) m tried tried' moved →
      event_of moved.event ≡ (get_or (passes row (down i) (owner i) i n old tried₀) m (S.moved (S.on_first []) 0 0)).event
  telling_event moved tried' h a =
      let d : S.Moved = S.moved (S.on_first []) 0 0 in
      ap (λ (x : S.Moved). x.event) (a.acts.is ∙ sym (moving_at g.moving d h))

  pub telling_more : (moved : Moved) (tried' : Tries) (out' : List ℕ) → m < n →
      ActsIn row (down i) (owner i) i (get_or new m home) m tried tried' moved →
      out' ≡ set (set out (2 * m) (event_of moved.event).kind) (2 * m + 1) (event_of moved.event).number →
      Telling row down owner i n old tried₀ buffer (m + 1) (set new m moved.next) tried' out'
  telling_more moved tried' out' h a e =
      let d : S.Moved = S.moved (S.on_first []) 0 0 in
      let v = event_of moved.event in
      let l : m < length all = omega (arith, all-length g.moving.passing) in
      let is = telling_event moved tried' h a in
      let k : v.kind ≡ get_or (numbers all) (2 * m) 0 = ap (λ (x : S.Event). x.kind) is ∙ sym (kind_at all m d l) in
      let x : v.number ≡ get_or (numbers all) (2 * m + 1) 0 = ap (λ (x : S.Event). x.number) is ∙ sym (number_at all m d l) in
      record {
        moving = moving_more g.moving moved.next tried' h (moves_by a);
        room = g.room;
        written =
            e ∙ ap (λ l. set (set l (2 * m) v.kind) (2 * m + 1) v.number) g.written
            ∙ put_two (numbers all) buffer m _ _ (omega (arith, told-length)) (omega (arith, g.room)) k x;
      }

  pub telling_done : n ≤ m → MovesAndTells row n (slot (order_of (plan_of row)) down owner i (positions_of row n old)) old new buffer out
  telling_done h =
      let moves = moving_done g.moving h in
      let e : m ≡ n = omega (arith, g.moving.passing.few) in
      record {
        moves = record { next = moves.next; rest = moves.rest };
        events =
            g.written ∙ ap (λ k. take (2 * k) (numbers all) ++ drop (2 * k) buffer) e
            ∙ ap (λ l. l ++ drop (2 * n) buffer) (take_all (2 * n) (numbers all) (omega (arith, told-length)))
            ∙ ap (λ ms. numbers ms ++ drop (2 * n) buffer) (moving_slot g.moving);
      }
