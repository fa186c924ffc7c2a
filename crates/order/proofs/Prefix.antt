-- A list with pairs more: what it cuts, where the messages stand when the slot of the first of them begins, and what they did before it.
use Prim.Native.Nat.{ℕ, ◌+◌, ◌-◌, ◌*◌, ◌<◌}
use native.Mathlib.Omega.{arith}
use mathlib.Core.Path.{◌≡◌, refl, sym, ◌∙◌, ap, ap₂}
use mathlib.Core.Bool.{Bool, true, false, ◌&&◌, ◌||◌, true≢false, and-false, or-false}
use mathlib.Core.List.{List, [], ◌∷◌, ◌++◌}
use lib.ListN.{length, length-append}
use lib.Dec.{ltb, leb}
use borrow.Author.Tests.{ltb-true, ltb-false, lt-leb}
use Rattle.scope.specs.Lowest.{some}
use Rattle.scope.specs.Plan.{Plan}
use Rattle.scope.specs.Slot.{Moved}
use Rattle.scope.specs.Cuts.{pairs, cut_slot, cut_link, is_cut, cuts_link}
use Rattle.scope.specs.Cycle.{order_of, table_of, start, slot, positions}
use Rattle.laws.specs.Message.{moved_of, event_of}
use Rattle.laws.proofs.Cuts.{cut_pair, is_cut_lem, not-cut}
use Rattle.laws.proofs.Replay.{positions_follow_lem, slot_agrees, depends_on_these_slots_lem}
use Rattle.scope.proofs.Some.{some_same, some_more}
use Rattle.order.specs.Search.{NotBefore}
use Rattle.order.proofs.Parts.{slot-left, link_left, slot_right, link_right, pairs-both}

-- before slot s a list cuts what its first part does
pub cut-before : (plan : Plan) (pre x : List ℕ) (d n s : ℕ) → length pre ≡ 2 * d → length x ≡ 2 * n → NotBefore s x n → (i e : ℕ) → i < s →
    is_cut plan (pre ++ x) i e ≡ is_cut plan pre i e
cut-before plan pre x d n s long rest later i e h = by (is_cut plan pre i e) refl
  where
    by : (b : Bool) → is_cut plan pre i e ≡ b → is_cut plan (pre ++ x) i e ≡ b
    by true t =
        let c = cut_pair plan pre i e t in
        let l : c.0 < d = omega (arith, c.1) in
        is_cut_lem plan (pre ++ x) i e c.0 (omega (arith, l, length-append pre x))
        (ap (λ (k : ℕ). cuts_link plan k e) (link_left pre x d long c.0 l) ∙ c.2)
        (omega (arith, slot-left pre x d long c.0 l, c.3))
    by false t = not-cut plan (pre ++ x) i e (λ j l same. each j l same (ltb j d) refl (ltb i (cut_slot pre j)) refl)
      where
        each : (j : ℕ) → j < pairs (pre ++ x) → cuts_link plan (cut_link (pre ++ x) j) e ≡ true →
            (b : Bool) → ltb j d ≡ b → (a : Bool) → ltb i (cut_slot pre j) ≡ a →
            i < cut_slot (pre ++ x) j
        each j l same true u true v = omega (arith, ltb-true i (cut_slot pre j) v, slot-left pre x d long j (ltb-true j d u))
        each j l same true u false v =
            let low : j < d = ltb-true j d u in
            let front : cuts_link plan (cut_link pre j) e ≡ true =
            ap (λ (k : ℕ). cuts_link plan k e) (sym (link_left pre x d long j low)) ∙ same in
            absurd (true≢false (sym (is_cut_lem plan pre i e j (omega arith) front (ltb-false i (cut_slot pre j) v)) ∙ t))
        each j l same false u a v =
            let at : d + (j - d) ≡ j = omega (arith, ltb-false j d u) in
            let right : cut_slot (pre ++ x) j ≡ cut_slot x (j - d) = rw at at (slot_right pre x d long (j - d)) in
            omega (arith, right, later (j - d) (omega (arith, ltb-false j d u, length-append pre x)))

-- so every message does the same before that slot
pub event-before : (plan : Plan) (pre x : List ℕ) (d n s : ℕ) → length pre ≡ 2 * d → length x ≡ 2 * n → NotBefore s x n → (i m : ℕ) → i < s →
    event_of (order_of plan) (is_cut plan (pre ++ x)) (table_of plan) m i (start plan) ≡
    event_of (order_of plan) (is_cut plan pre) (table_of plan) m i (start plan)
event-before plan pre x d n s long rest later i m h =
    let rank = order_of plan in
    let down = is_cut plan (pre ++ x) in
    let other = is_cut plan pre in
    let owner = table_of plan in
    let same : (j e : ℕ) → j < i + 1 → down j e ≡ other j e = λ j e l. cut-before plan pre x d n s long rest later j e (omega arith) in
    let stand = (depends_on_these_slots_lem rank down other owner 0 i (start plan) (λ j e a b. same j e (omega arith))).positions_agree in
    ap (λ (ms : List Moved). (moved_of m ms).event)
    (slot_agrees rank down other owner i (positions rank down owner 0 i (start plan)) (λ e. same i e (omega arith)) ∙
    ap (slot rank other owner i) stand)

-- what a list with one pair more cuts
pub cut-more : (plan : Plan) (pre : List ℕ) (d s e : ℕ) → length pre ≡ 2 * d → (i x : ℕ) →
    is_cut plan (pre ++ s ∷ e ∷ []) i x ≡ (is_cut plan pre i x || (cuts_link plan e x && leb s i))
unfolding is_cut
cut-more plan pre d s e long i x =
    let y : List ℕ = s ∷ e ∷ [] in
    let test : ℕ → Bool = λ j. cuts_link plan (cut_link (pre ++ y) j) x && leb (cut_slot (pre ++ y) j) i in
    let old : ℕ → Bool = λ j. cuts_link plan (cut_link pre j) x && leb (cut_slot pre j) i in
    let z : d + 0 ≡ d = omega arith in
    let k : pairs pre ≡ d = omega arith in
    let last : test d ≡ (cuts_link plan e x && leb s i) =
    ap₂ (λ (u v : ℕ). cuts_link plan u x && leb v i) (rw z at (link_right pre y d long 0)) (rw z at (slot_right pre y d long 0)) in
    let front : some test d ≡ some old d =
    some_same test old d (λ j h. ap₂ (λ (u v : ℕ). cuts_link plan u x && leb v i) (link_left pre y d long j h) (slot-left pre y d long j h)) in
    ap (some test) (pairs-both pre y d long 1 refl) ∙ some_more test d ∙ ap₂ ◌||◌ (front ∙ ap (some old) (sym k)) last

-- before that pair's slot nothing differs
pub same-before : (plan : Plan) (pre : List ℕ) (d s e : ℕ) → length pre ≡ 2 * d →
    positions (order_of plan) (is_cut plan (pre ++ s ∷ e ∷ [])) (table_of plan) 0 s (start plan) ≡
    positions (order_of plan) (is_cut plan pre) (table_of plan) 0 s (start plan)
same-before plan pre d s e long =
    (depends_on_these_slots_lem (order_of plan) (is_cut plan (pre ++ s ∷ e ∷ [])) (is_cut plan pre) (table_of plan) 0 s (start plan)
    (λ j x a b. cut-more plan pre d s e long j x ∙
    ap (λ (t : Bool). is_cut plan pre j x || (cuts_link plan e x && t)) (lt-leb s j (omega arith)) ∙
    ap (λ (t : Bool). is_cut plan pre j x || t) (and-false (cuts_link plan e x)) ∙ or-false (is_cut plan pre j x))
    ).positions_agree

-- one slot more
pub one_slot : (plan : Plan) (cuts : List ℕ) (s : ℕ) →
    positions (order_of plan) (is_cut plan cuts) (table_of plan) 0 (s + 1) (start plan) ≡
    positions (order_of plan) (is_cut plan cuts) (table_of plan) s 1 (positions (order_of plan) (is_cut plan cuts) (table_of plan) 0 s (start plan))
one_slot plan cuts s =
    let z : 0 + s ≡ s = omega arith in
    positions_follow_lem (order_of plan) (is_cut plan cuts) (table_of plan) 0 s 1 (start plan) ∙
    ap (λ (i : ℕ). positions (order_of plan) (is_cut plan cuts) (table_of plan) i 1
    (positions (order_of plan) (is_cut plan cuts) (table_of plan) 0 s (start plan))) z
