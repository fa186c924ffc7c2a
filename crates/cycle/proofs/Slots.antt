-- Laws of one slot and of all slots.
use Prim.Native.Nat.{ℕ, zero, suc, ◌+◌, ◌-◌, ◌*◌, ◌≤◌, ◌<◌}
use mathlib.Core.Path.{◌≡◌, sym, ◌∙◌, ap}
use mathlib.Core.Bool.{Bool}
use mathlib.Core.List.{List, [], ◌++◌, map, append_assoc, append-nil}
use native.Mathlib.Nat.{zero-mul, suc-mul}
use native.Mathlib.Omega.{arith}
use lib.ListN.{length, take, drop, length-append, length-drop, length-map, take-append-drop, drop_of_length-le}
use lib.Seq.{length-take-le, take_all, take_at, drop_at, drop-drop}
use Rattle.scope.specs.Limits.{most_messages}
use Rattle.scope.specs.Slot as S
use Rattle.scope.specs.Cycle.{slot, nexts, numbers, positions, events}
use Rattle.step.specs.declared.Position.{Position}
use Rattle.step.specs.Where.{position_of}
use Rattle.step.specs.declared.Standing.{Standing}
use Rattle.step.specs.Stand.{positions_of, Stand}
use Rattle.step.proofs.Moves.{moves-length, numbers-length}
use Rattle.cycle.specs.Play.{Done, Ran}

module _ (rank : ℕ → ℕ) (down : ℕ → ℕ → Bool) (owner : ℕ → ℕ → ℕ) where
  pub slot-length : (i : ℕ) (ps : List S.Position) → length (slot rank down owner i ps) ≡ length ps
  unfolding slot
  slot-length i ps =
      let ts = map (S.turn (down i)) ps in
      moves-length rank (down i) (owner i) i (map (S.tries (down i)) ts) 0 ts ∙ length-map ps (S.turn (down i))

  -- a loop at slot i of t: it goes on, it is done
  pub events-more : (t i : ℕ) (ps : List S.Position) → i < t →
      events rank down owner i (t - i) ps ≡
      numbers (slot rank down owner i ps) ++ events rank down owner (i + 1) (t - (i + 1)) (nexts (slot rank down owner i ps))
  unfolding events
  events-more t i ps h =
      let e : t - i ≡ suc (t - (i + 1)) = omega arith in
      rw e

  pub positions-more : (t i : ℕ) (ps : List S.Position) → i < t →
      positions rank down owner i (t - i) ps ≡ positions rank down owner (i + 1) (t - (i + 1)) (nexts (slot rank down owner i ps))
  unfolding positions
  positions-more t i ps h =
      let e : t - i ≡ suc (t - (i + 1)) = omega arith in
      rw e

  pub events-none : (t i : ℕ) (ps : List S.Position) → t ≤ i → events rank down owner i (t - i) ps ≡ []
  unfolding events
  events-none t i ps h =
      let e : t - i ≡ zero = omega arith in
      rw e

  pub positions-none : (t i : ℕ) (ps : List S.Position) → t ≤ i → positions rank down owner i (t - i) ps ≡ ps
  unfolding positions
  positions-none t i ps h =
      let e : t - i ≡ zero = omega arith in
      rw e

  -- "2 × t × M numbers"
  pub events-length : (n i : ℕ) (ps : List S.Position) → length (events rank down owner i n ps) ≡ n * (2 * length ps)
  unfolding events
  events-length zero i ps = sym (zero-mul (2 * length ps))
  events-length (suc n) i ps =
      let ms = slot rank down owner i ps in
      let l : length (nexts ms) ≡ length ps = length-map ms (λ m. m.next) ∙ slot-length i ps in
      let r : length (events rank down owner (i + 1) n (nexts ms)) ≡ n * (2 * length ps) =
      events-length n (i + 1) (nexts ms) ∙ ap (λ k. n * (2 * k)) l in
      let h : length (numbers ms) ≡ 2 * length ps = numbers-length ms ∙ ap (λ k. 2 * k) (slot-length i ps) in
      let z : suc n * (2 * length ps) ≡ n * (2 * length ps) + 2 * length ps = suc-mul n (2 * length ps) in
      length-append (numbers ms) (events rank down owner (i + 1) n (nexts ms)) ∙ omega arith

module _ (row : List ℕ) (n : ℕ) (rank : ℕ → ℕ) (down : ℕ → ℕ → Bool) (owner : ℕ → ℕ → ℕ) (t : ℕ) where
  -- the loop over the slots has come to slot i: what it has told, with what is still to tell, is all
  pub record Running (i at : ℕ) (old new : List Position) (buffer out : List ℕ) : Type 0 where
    pub early : i ≤ t
    pub short : t ≤ 65536
    pub stand : Stand row n new
    pub long : length new ≡ most_messages
    pub same : length out ≡ length buffer
    pub enough : at + length (events rank down owner i (t - i) (positions_of row n new)) ≤ length out
    pub written : take at out ++ events rank down owner i (t - i) (positions_of row n new) ≡ events rank down owner 0 t (positions_of row n old)
    pub rest : drop at out ≡ drop at buffer
    pub ends : positions rank down owner i (t - i) (positions_of row n new) ≡ positions rank down owner 0 t (positions_of row n old)

  module _ (i at : ℕ) (old new : List Position) (buffer out : List ℕ) (g : Running i at old new buffer out) where
    told : length (numbers (slot rank down owner i (positions_of row n new))) ≡ 2 * n
    told =
        numbers-length (slot rank down owner i (positions_of row n new))
        ∙ ap (λ k. 2 * k)
        (slot-length rank down owner i (positions_of row n new)
        ∙ length-map (take n new) (position_of row)
        ∙ length-take-le n new (omega (arith, g.long, g.stand.few)))

    -- what is still to tell: this slot, and the slots after it
    more : i < t → length (events rank down owner i (t - i) (positions_of row n new)) ≡
        2 * n + length (events rank down owner (i + 1) (t - (i + 1)) (nexts (slot rank down owner i (positions_of row n new))))
    more h =
        let ms = slot rank down owner i (positions_of row n new) in
        let es = events rank down owner (i + 1) (t - (i + 1)) (nexts ms) in
        ap length (events-more rank down owner t i (positions_of row n new) h) ∙ length-append (numbers ms) es ∙ ap (λ k. k + length es) told

    pub running_room : i < t → at + 2 * n ≤ length out
    running_room h = omega (arith, more h, g.enough)

    pub running_more : (s : Standing) (part out' : List ℕ) → i < t →
        Done row n i (slot rank down owner i (positions_of row n new)) (take (length out - at) (drop at out)) part s →
        out' ≡ take at out ++ (part ++ drop (length out - at) (drop at out)) →
        Running s.time.0 (at + 2 * n) old s.positions buffer out'
    running_more s part out' h d e = rw d.time next
      where
        whole : out' ≡ (take at out ++ numbers (slot rank down owner i (positions_of row n new))) ++ drop (at + 2 * n) out
        whole =
            let ns = numbers (slot rank down owner i (positions_of row n new)) in
            let f : length (drop at out) ≤ length out - at = omega (arith, length-drop at out) in
            let mid : take (length out - at) (drop at out) ≡ drop at out = take_all (length out - at) (drop at out) f in
            let nil : drop (length out - at) (drop at out) ≡ [] = drop_of_length-le (drop at out) f in
            let p : part ≡ ns ++ drop (at + 2 * n) out = d.events ∙ ap (λ u. ns ++ drop (2 * n) u) mid ∙
            ap (λ u. ns ++ u) (drop-drop (2 * n) at out) in
            e ∙ ap (λ u. take at out ++ (part ++ u)) nil ∙ ap (λ u. take at out ++ u) (append-nil part) ∙ ap (λ u. take at out ++ u) p
            ∙ sym (append_assoc (take at out) ns (drop (at + 2 * n) out))

        front : length (take at out ++ numbers (slot rank down owner i (positions_of row n new))) ≡ at + 2 * n
        front =
            length-append (take at out) (numbers (slot rank down owner i (positions_of row n new)))
            ∙ ap (λ k. k + length (numbers (slot rank down owner i (positions_of row n new))))
            (length-take-le at out (omega (arith, running_room h)))
            ∙ ap (λ k. at + k) told

        len : length out' ≡ length out
        len =
            ap length whole
            ∙ length-append (take at out ++ numbers (slot rank down owner i (positions_of row n new))) (drop (at + 2 * n) out)
            ∙ ap (λ k. k + length (drop (at + 2 * n) out)) front
            ∙ ap (λ k. at + 2 * n + k) (length-drop (at + 2 * n) out)
            ∙ omega (arith, running_room h)

        tell : numbers (slot rank down owner i (positions_of row n new)) ++ events rank down owner (i + 1) (t - (i + 1))
            (positions_of row n s.positions) ≡
            events rank down owner i (t - i) (positions_of row n new)
        tell =
            ap (λ u. numbers (slot rank down owner i (positions_of row n new)) ++ events rank down owner (i + 1) (t - (i + 1)) u) d.next.is
            ∙ sym (events-more rank down owner t i (positions_of row n new) h)

        next : Running (i + 1) (at + 2 * n) old s.positions buffer out'
        next =
            let ns = numbers (slot rank down owner i (positions_of row n new)) in
            let es = events rank down owner (i + 1) (t - (i + 1)) (positions_of row n s.positions) in
            let w : take (at + 2 * n) out' ≡ take at out ++ ns =
            ap (take (at + 2 * n)) whole ∙ take_at (take at out ++ ns) (drop (at + 2 * n) out) (at + 2 * n) front in
            let r : drop (at + 2 * n) out' ≡ drop (at + 2 * n) out =
            ap (drop (at + 2 * n)) whole ∙ drop_at (take at out ++ ns) (drop (at + 2 * n) out) (at + 2 * n) front in
            let k : length es ≡ length (events rank down owner (i + 1) (t - (i + 1)) (nexts (slot rank down owner i (positions_of row n new)))) =
            ap (λ u. length (events rank down owner (i + 1) (t - (i + 1)) u)) d.next.is in
            record {
              early = omega arith;
              short = g.short;
              stand = d.next.stand;
              long = d.long;
              same = len ∙ g.same;
              enough = omega (arith, len, k, more h, g.enough);
              written = ap (λ u. u ++ es) w ∙ append_assoc (take at out) ns es ∙ ap (λ u. take at out ++ u) tell ∙ g.written;
              rest =
                  r ∙ sym (drop-drop (2 * n) at out) ∙ ap (drop (2 * n)) g.rest ∙ drop-drop (2 * n) at buffer;
              ends =
                  ap (positions rank down owner (i + 1) (t - (i + 1))) d.next.is
                  ∙ sym (positions-more rank down owner t i (positions_of row n new) h) ∙ g.ends;
            }

    pub running_done : (s : Standing) → s.positions ≡ new → t ≤ i →
        Ran row n (positions rank down owner 0 t (positions_of row n old)) (events rank down owner 0 t (positions_of row n old)) buffer out s
    running_done s same h =
        let w : take at out ≡ events rank down owner 0 t (positions_of row n old) =
        sym (append-nil (take at out)) ∙ ap (λ u. take at out ++ u)
        (sym (events-none rank down owner t i (positions_of row n new) h)) ∙ g.written in
        let l : at ≡ length (events rank down owner 0 t (positions_of row n old)) =
        sym (length-take-le at out (omega (arith, g.enough))) ∙ ap length w in
        record {
          next = rw same (record { is = sym (positions-none rank down owner t i (positions_of row n new) h) ∙ g.ends; stand = g.stand });
          events =
              sym (take-append-drop at out) ∙ ap (λ u. u ++ drop at out) w
              ∙ ap (λ u. events rank down owner 0 t (positions_of row n old) ++ u) (g.rest ∙ ap (λ k. drop k buffer) l);
        }
