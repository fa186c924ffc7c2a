-- The loop that puts each message at the beginning of its first path, and the one that counts those at their targets.
use Prim.Native.Nat.{ℕ, zero, suc, ◌+◌, ◌-◌, ◌≤◌, ◌<◌}
use mathlib.Core.Path.{◌≡◌, refl, sym, ◌∙◌, ap}
use mathlib.Core.Bool.{Bool, true, false, cond}
use mathlib.Core.List.{List, [], ◌∷◌, ◌++◌, map}
use native.Mathlib.Numerals.{add-one}
use native.Mathlib.Omega.{arith}
use lib.ListN.{length, get_or, take, set, length-set}
use lib.Seq.{take-suc-set, append_snoc, get_or-set_same, get_or-set_other}
use lib.Dec.{eqb}
use borrow.Author.Tests.{eqb-true, eqb-false}
use Rattle.scope.specs.Plan.{places_at, place_count, message_at, after_message, messages_at, after_messages, first_message}
use Rattle.scope.specs.Slot as S
use Rattle.scope.specs.Cycle.{arrived}
use Rattle.step.specs.declared.Position.{Position}
use Rattle.step.specs.Where.{position_of, end_of}
use Rattle.step.proofs.Left.{after-least}
use Rattle.step.proofs.Steps.{home-is}
use Rattle.rows.proofs.Index.{messages-next}
use Rattle.step.specs.Stand.{home, positions_of, Become}
use Rattle.step.proofs.Tried.{map_snoc}
use Rattle.std.specs.Prelude.{count_by}
use Rattle.std.proofs.lemmas.List.Recursion.{is_count_by}
use Rattle.cycle.specs.Play.{MayStart}

-- at the beginning of a first path
abbrev pub begins : ℕ → ℕ → Position
begins at left = record { at = at + 1; left = left; turned = false }

module _ (row : List ℕ) (n : ℕ) where
  messages-more : (at m : ℕ) → m < n → messages_at row at (n - m) ≡ message_at row at ∷ messages_at row (after_message row at) (n - (m + 1))
  unfolding messages_at
  messages-more at m h =
      let e : n - m ≡ suc (n - (m + 1)) = omega arith in
      rw e

  messages-least : (i k : ℕ) → i ≤ after_messages row i k
  unfolding after_messages
  messages-least i zero = omega arith
  messages-least i (suc k) = omega (arith, messages-least (after_message row i) k, after-least row (i + 1) (place_count row i))

  -- the first m messages are at their places, and message m stands at index `at`
  pub record Starting (m at : ℕ) (ps : List Position) : Type 0 where
    pub may : MayStart row n
    pub few : m ≤ n
    pub long : length ps ≡ 32
    pub ends : after_messages row at (n - m) ≡ after_messages row (first_message row) n
    pub is : positions_of row m ps ++ map S.on_first (messages_at row at (n - m)) ≡ map S.on_first (messages_at row (first_message row) n)
    pub fit : (k : ℕ) → k < m → end_of row (get_or ps k home) < 65536

  pub starting_none : (at : ℕ) (ps : List Position) → MayStart row n → length ps ≡ 32 → at ≡ first_message row → Starting 0 at ps
  starting_none at ps s l e =
      let z : n - 0 ≡ n = omega arith in
      record {
        may = s;
        few = omega arith;
        long = l;
        ends = rw (e, z);
        is = rw (e, z);
        fit = λ k h. absurd (omega arith);
      }

  module _ (m at : ℕ) (ps : List Position) (s : Starting m at ps) (h : m < n) where
    -- the message ends within the row's end, and its position with it
    pub starting_ends : after_message row at < 65536
    starting_ends =
        let e : after_messages row (after_message row at) (n - (m + 1)) ≡ after_messages row at (n - m) =
        messages-next row at n m (after_message row at) h refl in
        omega (arith, messages-least (after_message row at) (n - (m + 1)), s.ends, s.may.fit)

    pub starting_fits : at + 1 + place_count row at < 65536
    starting_fits = omega (arith, starting_ends, after-least row (at + 1) (place_count row at))

    pub starting_more : (left next : ℕ) → left ≡ place_count row at → next ≡ after_message row at →
        Starting (m + 1) next (set ps m (begins at left))
    starting_more left next e f =
        let l : m < length ps = omega (arith, s.long, s.may.few) in
        record {
          may = s.may;
          few = omega arith;
          long = length-set ps m (begins at left) ∙ s.long;
          ends = messages-next row at n m next h f ∙ s.ends;
          is = one l ∙ s.is;
          fit = λ k g. by l k g (eqb k m) refl;
        }
      where
        one : m < length ps →
            positions_of row (m + 1) (set ps m (begins at left)) ++ map S.on_first (messages_at row next (n - (m + 1))) ≡
            positions_of row m ps ++ map S.on_first (messages_at row at (n - m))
        one l =
            let a : positions_of row (m + 1) (set ps m (begins at left)) ≡ positions_of row m ps ++ (S.on_first (message_at row at) ∷ []) =
            ap (λ k. positions_of row k (set ps m (begins at left))) (add-one m)
            ∙ ap (map (position_of row)) (take-suc-set ps m (begins at left) l)
            ∙ map_snoc (position_of row) (take m ps) (begins at left)
            ∙ ap (λ k. positions_of row m ps ++ (S.on_first (places_at row (at + 1) k) ∷ [])) e in
            ap (λ u. u ++ map S.on_first (messages_at row next (n - (m + 1)))) a
            ∙ append_snoc (positions_of row m ps) (S.on_first (message_at row at)) (map S.on_first (messages_at row next (n - (m + 1))))
            ∙ ap (λ u. positions_of row m ps ++ S.on_first (message_at row at) ∷ map S.on_first (messages_at row u (n - (m + 1)))) f
            ∙ ap (λ u. positions_of row m ps ++ map S.on_first u) (sym (messages-more at m h))

        here : m < length ps → end_of row (get_or (set ps m (begins at left)) m home) < 65536
        here l = rw (get_or-set_same ps m (begins at left) home l, e) starting_ends

        by : m < length ps → (k : ℕ) → k < m + 1 → (b : Bool) → eqb k m ≡ b → end_of row (get_or (set ps m (begins at left)) k home) < 65536
        by l k g true b = rw (eqb-true k m b) (here l)
        by l k g false b =
            let z : k ≡ m → ⊥ = eqb-false k m b in
            rw (get_or-set_other ps m k (begins at left) home z) (s.fit k (omega (arith, z)))

  pub starting_done : (m at : ℕ) (ps : List Position) → Starting m at ps → n ≤ m →
      Become row n (map S.on_first (messages_at row (first_message row) n)) ps
  unfolding messages_at
  starting_done m at ps s h = by (omega (arith, s.few))
    where
      nil : (xs : List S.Position) → xs ++ [] ≡ xs
      nil [] = refl
      nil (x ∷ xs) = ap (λ r. x ∷ r) (nil xs)

      none : messages_at row at (n - n) ≡ []
      none = let e : n - n ≡ zero = omega arith in rw e

      by : m ≡ n → Become row n (map S.on_first (messages_at row (first_message row) n)) ps
      by e =
          let i : positions_of row n ps ++ map S.on_first (messages_at row at (n - n)) ≡ map S.on_first
          (messages_at row (first_message row) n) = rw e at s.is in
          record {
            is = sym (ap (λ u. positions_of row n ps ++ map S.on_first u) none ∙ nil (positions_of row n ps)) ∙ i;
            stand = record { few = s.may.few; fit = λ k g. s.fit k (omega arith) };
          }

one_more : (b : Bool) (n : ℕ) → cond b 1 0 + n ≡ cond b (1 + n) n
one_more true n = refl
one_more false n = omega arith

-- as many have arrived as there are records at their targets
pub arrived_count : (row : List ℕ) (ps : List Position) → arrived (map (position_of row) ps) ≡ count_by (λ (p : Position). eqb p.left 0) ps
unfolding arrived
arrived_count row =
    is_count_by (λ (ps : List Position). arrived (map (position_of row) ps)) (λ (p : Position). eqb p.left 0) refl
    (λ p ps. rw (← home-is row p.at p.left p.turned) (one_more (eqb p.left 0) (arrived (map (position_of row) ps))))
