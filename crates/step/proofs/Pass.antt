-- The pass is the slot: who is noted as the first to try a link is the lowest message that tries it.
use Prim.Native.Nat.{ℕ, ◌+◌, ◌≤◌, ◌<◌}
use mathlib.Core.Path.{◌≡◌, refl, sym, ◌∙◌, ap, fun_ext}
use mathlib.Core.Bool.{Bool, true, false, not, cond}
use mathlib.Core.List.{List, [], ◌∷◌, map}
use native.Mathlib.Omega.{arith}
use lib.ListN.{length, get_or, drop, length-map}
use lib.Seq.{get_or-drop, drop-drop}
use lib.Dec.{ltb, eqb}
use borrow.Author.Tests.{lt-ltb, le-ltb, ltb-true, ltb-false, eq-eqb, ne_eqb, eqb-true, eqb-false}
use Rattle.scope.specs.Lowest.{seek, lowest}
use Rattle.scope.proofs.Lowest.{seek-most, seek-same}
use Rattle.scope.specs.Slot as S
use Rattle.scope.specs.Limits.{most_messages}
use Rattle.scope.specs.Plan.{Plan}
use Rattle.scope.specs.Cycle.{by_number, order_of, foremost, moves, slot}
use Rattle.step.specs.declared.Tries.{Tries}
use Rattle.step.specs.Pass.{tried_link, tried_by, found_at, first_trier, noted, Noting, tried_after, does, pass}
use Rattle.step.proofs.Tried.{fore_lowest, lowest_keep, lowest-here, lowest-next, trier_found, trier_none, noted-count, link_old}
use Rattle.step.proofs.Tried.{by_old, link_new, by_new, fits-noted}

-- `ts` has the links that all messages try, plus one
module _ (ts : List ℕ) where
  abbrev trying : ℕ → ℕ → Bool
  trying e k = eqb (get_or ts k 0) (e + 1)

  -- the list tells who below m tries which link first
  pub record Knows (tried : Tries) (m : ℕ) : Type 0 where
    pub room : most_messages ≤ length tried.list
    pub few : tried.count ≤ m
    pub below : (j : ℕ) → j < tried.count → tried_by tried j < m
    pub is : (e : ℕ) → first_trier tried e m ≡ lowest (λ k. eqb (get_or ts k 0) (e + 1)) m

  pub knows_none : (tried : Tries) → tried.count ≡ 0 → most_messages ≤ length tried.list → Knows tried 0
  unfolding seek
  knows_none tried z r =
      record { room = r; few = omega arith; below = λ j h. absurd (omega arith); is = λ e. trier_none tried e 0 (omega arith) }

  pub noting : (tried : Tries) (m : ℕ) → m < most_messages → Knows tried m → Noting tried m
  noting tried m h k = record { low = h; room = k.room; few = k.few; below = k.below }

  module _ (tried : Tries) (m : ℕ) (k : Knows tried m) where
    -- whoever was found is still the lowest
    kept : (e : ℕ) → found_at tried e < tried.count → tried_by tried (found_at tried e) ≡ lowest (trying e) (m + 1)
    kept e h =
        let w : tried_by tried (found_at tried e) ≡ lowest (trying e) m = sym (trier_found tried e m h) ∙ k.is e in
        w ∙ sym (lowest_keep (trying e) m (omega (arith, k.below (found_at tried e) h)))

    -- where nobody was found, nobody below m tries the link
    nobody : (e : ℕ) → tried.count ≤ found_at tried e → lowest (trying e) m ≡ m
    nobody e h = sym (k.is e) ∙ trier_none tried e m h

    -- message m tries nothing
    pub knows_not : get_or ts m 0 ≡ 0 → Knows tried (m + 1)
    knows_not z =
        record {
          room = k.room;
          few = omega (arith, k.few);
          below = λ j h. omega (arith, k.below j h);
          is = λ e. by e (ltb (found_at tried e) tried.count) refl;
        }
      where
        by : (e : ℕ) (b : Bool) → ltb (found_at tried e) tried.count ≡ b → first_trier tried e (m + 1) ≡ lowest (trying e) (m + 1)
        by e true b = trier_found tried e (m + 1) (ltb-true _ _ b) ∙ kept e (ltb-true _ _ b)
        by e false b =
            let t : eqb (get_or ts m 0) (e + 1) ≡ false = ne_eqb (get_or ts m 0) (e + 1) (λ y. omega arith) in
            trier_none tried e (m + 1) (ltb-false _ _ b) ∙ sym (lowest-next (trying e) m (nobody e (ltb-false _ _ b)) t)

    -- message m tries link e₀
    pub knows_try : (e₀ : ℕ) → m < most_messages → get_or ts m 0 ≡ e₀ + 1 → Knows (noted tried e₀ m) (m + 1)
    knows_try e₀ l z =
        let f = fits-noted tried m n e₀ in
        record {
          room = omega (arith, f.same, k.room);
          few = f.few;
          below = f.below;
          is = λ e. by e (ltb (found_at tried e) tried.count) refl;
        }
      where
        n : Noting tried m
        n = noting tried m l k

        count : (noted tried e₀ m).count ≡ tried.count + 1
        count = noted-count tried m n e₀

        -- the entries that were there are looked at as before
        same : (e : ℕ) → lowest (λ j. eqb (tried_link (noted tried e₀ m) j) e) tried.count ≡ found_at tried e
        same e = seek-same _ _ tried.count 0 (λ j g h. ap (λ x. eqb x e) (link_old tried m n e₀ j (omega arith)))

        found : (e : ℕ) → found_at tried e < tried.count → found_at (noted tried e₀ m) e ≡ found_at tried e
        found e h =
            ap (lowest (λ j. eqb (tried_link (noted tried e₀ m) j) e)) count
            ∙ lowest_keep (λ j. eqb (tried_link (noted tried e₀ m) j) e) tried.count (omega (arith, same e)) ∙ same e

        full : (e : ℕ) → tried.count ≤ found_at tried e → lowest (λ j. eqb (tried_link (noted tried e₀ m) j) e) tried.count ≡ tried.count
        full e h = same e ∙ omega (arith, seek-most (λ j. eqb (tried_link tried j) e) tried.count 0)

        new : (e : ℕ) → tried.count ≤ found_at tried e → e₀ ≡ e → found_at (noted tried e₀ m) e ≡ tried.count
        new e h q =
            ap (lowest (λ j. eqb (tried_link (noted tried e₀ m) j) e)) count
            ∙ lowest-here (λ j. eqb (tried_link (noted tried e₀ m) j) e) tried.count (full e h) (eq-eqb _ _ (link_new tried m n e₀ ∙ q))

        none : (e : ℕ) → tried.count ≤ found_at tried e → (e₀ ≡ e → ⊥) → found_at (noted tried e₀ m) e ≡ (noted tried e₀ m).count
        none e h q =
            ap (lowest (λ j. eqb (tried_link (noted tried e₀ m) j) e)) count
            ∙ lowest-next (λ j. eqb (tried_link (noted tried e₀ m) j) e) tried.count (full e h)
            (ne_eqb _ _ (λ y. q (sym (link_new tried m n e₀) ∙ y)))
            ∙ sym count

        other : (e : ℕ) → tried.count ≤ found_at tried e → (b : Bool) → eqb e₀ e ≡ b →
            first_trier (noted tried e₀ m) e (m + 1) ≡ lowest (trying e) (m + 1)
        other e h true b =
            let q : e₀ ≡ e = eqb-true _ _ b in
            let t : eqb (get_or ts m 0) (e + 1) ≡ true = eq-eqb _ _ (z ∙ ap (λ x. x + 1) q) in
            trier_found (noted tried e₀ m) e (m + 1) (omega (arith, new e h q, count))
            ∙ ap (tried_by (noted tried e₀ m)) (new e h q) ∙ by_new tried m n e₀ ∙ sym (lowest-here (trying e) m (nobody e h) t)
        other e h false b =
            let q : e₀ ≡ e → ⊥ = eqb-false _ _ b in
            let t : eqb (get_or ts m 0) (e + 1) ≡ false = ne_eqb (get_or ts m 0) (e + 1) (λ y. q (omega arith)) in
            trier_none (noted tried e₀ m) e (m + 1) (omega (arith, none e h q)) ∙ sym (lowest-next (trying e) m (nobody e h) t)

        by : (e : ℕ) (b : Bool) → ltb (found_at tried e) tried.count ≡ b → first_trier (noted tried e₀ m) e (m + 1) ≡ lowest (trying e) (m + 1)
        by e true b =
            let h : found_at tried e < tried.count = ltb-true _ _ b in
            trier_found (noted tried e₀ m) e (m + 1) (omega (arith, found e h, count))
            ∙ ap (tried_by (noted tried e₀ m)) (found e h) ∙ by_old tried m n e₀ (found_at tried e) h ∙ kept e h
        by e false b = other e (ltb-false _ _ b) (eqb e₀ e) refl

-- whoever goes first is not m itself, or is before it
before : (first m : ℕ) → first ≤ m → not (eqb first m) ≡ ltb first m
before first m h = by (eqb first m) refl
  where
    by : (b : Bool) → eqb first m ≡ b → not b ≡ ltb first m
    by true e = let z : first ≡ m = eqb-true first m e in sym (le-ltb first m (omega arith))
    by false e = let n : first ≡ m → ⊥ = eqb-false first m e in sym (lt-ltb first m (omega (arith, n)))

-- whoever tries a link tries the next one of its second path
pub tries-next : (down : ℕ → Bool) (q : S.Position) → (S.tries down q ≡ 0 → ⊥) → S.tries down q ≡ S.next_second q + 1
tries-next down (S.on_first ps) h = absurd (h refl)
tries-next down (S.on_second []) h = absurd (h refl)
tries-next down (S.on_second (e ∷ es)) h = by (down e) h
  where
    by : (b : Bool) → (cond b 0 (e + 1) ≡ 0 → ⊥) → cond b 0 (e + 1) ≡ e + 1
    by true h = absurd (h refl)
    by false h = refl

module _ (down : ℕ → Bool) (owner : ℕ → ℕ) (i : ℕ) (ts : List ℕ) where
  knows_after : (tried : Tries) (m : ℕ) (p : S.Position) → Knows ts tried m → m < most_messages → get_or ts m 0 ≡ S.tries down (S.turn down p) →
      Knows ts (tried_after down tried m p) (m + 1)
  unfolding tried_after
  knows_after tried m p k l t = by (eqb (S.tries down (S.turn down p)) 0) refl
    where
      by : (b : Bool) → eqb (S.tries down (S.turn down p)) 0 ≡ b →
          Knows ts (cond b tried (noted tried (S.next_second (S.turn down p)) m)) (m + 1)
      by true b = knows_not ts tried m k (t ∙ eqb-true _ _ b)
      by false b = knows_try ts tried m k (S.next_second (S.turn down p)) l (t ∙ tries-next down (S.turn down p) (eqb-false _ _ b))

  pass-moves : (tried : Tries) (m : ℕ) (ps : List S.Position) → Knows ts tried m → m + length ps ≡ length ts → length ts ≤ most_messages →
      drop m ts ≡ map (S.tries down) (map (S.turn down) ps) →
      pass down owner i tried m ps ≡ moves by_number down owner i ts m (map (S.turn down) ps)
  unfolding pass moves does
  pass-moves tried m [] k l s d = refl
  pass-moves tried m (p ∷ ps) k l s d =
      let q = S.turn down p in
      let z : m + 0 ≡ m = omega arith in
      let t : get_or ts m 0 ≡ S.tries down q = sym (ap (λ x. get_or ts x 0) z) ∙ sym (get_or-drop m ts 0 0) ∙ ap (λ l. get_or l 0 0) d in
      let f : first_trier tried (S.next_second q) m ≡ foremost by_number (S.next_second q) m 0 ts =
      k.is (S.next_second q) ∙ sym (fore_lowest (S.next_second q) m ts (omega arith)) in
      let rest : drop (m + 1) ts ≡ map (S.tries down) (map (S.turn down) ps) = sym (drop-drop 1 m ts) ∙ ap (drop 1) d in
      let more = pass-moves (tried_after down tried m p) (m + 1) ps (knows_after tried m p k (omega arith) t) (omega arith) s rest in
      let held : not (eqb (foremost by_number (S.next_second q) m 0 ts) m) ≡ ltb (foremost by_number (S.next_second q) m 0 ts) m =
      before _ m
      (omega (arith, fore_lowest (S.next_second q) m ts (omega arith), seek-most (λ k. eqb (get_or ts k 0) (S.next_second q + 1)) m 0)) in
      rw (f, held, more)

-- all that the pass knows of a plan's order: messages go by their numbers
order_is : (plan : Plan) (m : ℕ) → order_of plan m ≡ m
order_is plan m = refl

pub pass-slot : (plan : Plan) (down : ℕ → ℕ → Bool) (owner : ℕ → ℕ → ℕ) (i : ℕ) (tried : Tries) (ps : List S.Position) → tried.count ≡ 0 →
    most_messages ≤ length tried.list → length ps ≤ most_messages →
    pass (down i) (owner i) i tried 0 ps ≡ slot (order_of plan) down owner i ps
unfolding slot
pass-slot plan down owner i tried ps z r l =
    let ts = map (S.tries (down i)) (map (S.turn (down i)) ps) in
    let n : length ts ≡ length ps = length-map (map (S.turn (down i)) ps) (S.tries (down i)) ∙ length-map ps (S.turn (down i)) in
    let order : by_number ≡ order_of plan = fun_ext (λ m. sym (order_is plan m)) in
    pass-moves (down i) (owner i) i ts tried 0 ps (knows_none ts tried z r) (omega arith) (omega arith) refl
    ∙ ap (λ rank. moves rank (down i) (owner i) i ts 0 (map (S.turn (down i)) ps)) order
