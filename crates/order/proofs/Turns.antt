-- The game turn by turn: from every state of it, its value is the least number of arrivals over the lists that go on from there. The
-- breaker's turn picks the pairs of a slot one after another, as a list has them, and in the network's turn no pair comes.
use Prim.Native.Nat.{ℕ, zero, suc, ◌+◌, ◌-◌, ◌*◌, ◌≤◌, ◌<◌, min}
use native.Mathlib.Omega.{arith}
use mathlib.Core.Path.{◌≡◌, refl, sym, ◌∙◌, ap, ap₂, subst}
use mathlib.Core.Bool.{Bool, true, false, not, ◌&&◌, cond, true≢false}
use mathlib.Core.List.{List, [], ◌∷◌, ◌++◌, append_assoc, append-nil}
use lib.ListN.{length, length-append}
use lib.Dec.{ltb, eqb}
use borrow.Author.Tests.{ltb-true, ltb-false, eqb-false}
use Rattle.scope.specs.Limits.{most_links}
use Rattle.scope.specs.Lowest.{some}
use Rattle.scope.specs.Plan.{Plan}
use Rattle.scope.specs.Slot.{Position}
use Rattle.scope.specs.Cables.{is_higher}
use Rattle.scope.specs.Cuts.{pairs, cut_slot, cut_link, falls, bad_pair, is_cut, is_cut_list}
use Rattle.scope.specs.Cycle.{order_of, table_of, start, positions, arrived, arrivals}
use Rattle.scope.specs.Game.{may_cut, breaker, move_on, least_from}
use Rattle.scope.proofs.Bools.{none_of_six, not-true}
use Rattle.scope.proofs.Cuts.{not-bad, even}
use Rattle.scope.proofs.Some.{none_below}
use Rattle.order.specs.Search.{code, code_at, Chosen}
use Rattle.order.proofs.Parts.{link_right, link_left}
use Rattle.order.proofs.Pairs.{Next, next_pair, one_more}
use Rattle.order.proofs.Prefix.{same-before, one_slot}
use Rattle.order.proofs.Steps.{same_pair, split, picked}

-- where the messages stand at time i
abbrev pub standing : Plan → List ℕ → ℕ → List Position
standing plan cuts i = positions (order_of plan) (is_cut plan cuts) (table_of plan) 0 i (start plan)

-- x goes on from `pre` with at most k pairs, of which the first has code `lo` or a higher one
pub record Goes (plan : Plan) (pre : List ℕ) (lo k : ℕ) (x : List ℕ) : Type 0 where
  pub good : is_cut_list plan (pre ++ x) ≡ true
  pub few : pairs x ≤ k
  pub late : 0 < length x → lo ≤ code_at x 0

-- v is the least number of arrivals over the lists that go on so
pub record Value (plan : Plan) (pre : List ℕ) (lo k v : ℕ) : Type 0 where
  pub bound : (x : List ℕ) → Goes plan pre lo k x → v ≤ arrivals plan (pre ++ x)
  pub list : List ℕ
  pub goes : Goes plan pre lo k list
  pub reached : arrivals plan (pre ++ list) ≡ v

module _ (plan : Plan) (small : length plan.links ≤ most_links) (pre : List ℕ) (d lo : ℕ) (c : Chosen plan pre d lo) where
  -- a list does not go on with half a pair
  no_half : (from k a : ℕ) → Goes plan pre from k (a ∷ []) → ⊥
  no_half from k a g = omega (arith, c.long, even plan (pre ++ a ∷ []) g.good, length-append pre (a ∷ []))

  -- lists that go on from one code go on from a higher one, where none of their first pairs lies between
  later : (from to k : ℕ) → ((a b : ℕ) (y : List ℕ) → Next plan pre d a b → Goes plan pre from k (a ∷ b ∷ y) → to ≤ code a b) →
      (x : List ℕ) → Goes plan pre from k x → Goes plan pre to k x
  later from to k pair [] g = record { good = g.good; few = g.few; late = λ h. absurd (omega arith) }
  later from to k pair (a ∷ []) g = absurd (no_half from k a g)
  later from to k pair (a ∷ b ∷ y) g =
      record { good = g.good; few = g.few; late = λ h. pair a b y (next_pair plan small pre d c.long a b y g.good) g }

  -- then the value is the same
  same_lists : (from to k v : ℕ) → from ≤ to → ((x : List ℕ) → Goes plan pre from k x → Goes plan pre to k x) → Value plan pre to k v →
      Value plan pre from k v
  same_lists from to k v h all w =
      record {
        bound = λ x g. w.bound x (all x g);
        list = w.list;
        goes = record { good = w.goes.good; few = w.goes.few; late = λ l. omega (arith, w.goes.late l) };
        reached = w.reached;
      }

  -- behind the last link of a slot the next slot begins
  next-slot : (i k v : ℕ) → Value plan pre (code (i + 1) 0) k v → Value plan pre (code i (length plan.links)) k v
  next-slot i k v =
      let here = code i (length plan.links) in
      same_lists here (code (i + 1) 0) k v (omega arith)
      (later here (code (i + 1) 0) k (λ a b y n g. omega (arith, n.link, g.late (omega arith))))

  -- what goes on from a link on cuts it first, or goes on from the link after it
  apart : {P : Type 0} (i e k : ℕ) → e < most_links → (x : List ℕ) → Goes plan pre (code i e) k x →
      ((y : List ℕ) → x ≡ i ∷ e ∷ y → P) → (Goes plan pre (code i (e + 1)) k x → P) → P
  apart i e k he [] g cut whole = whole (record { good = g.good; few = g.few; late = λ h. absurd (omega arith) })
  apart i e k he (a ∷ []) g cut whole = absurd (no_half (code i e) k a g)
  apart i e k he (a ∷ b ∷ y) g cut whole =
      split (code i e) (code a b) (λ more. whole (record { good = g.good; few = g.few; late = λ h. omega arith }))
      (λ no_more.
      let n = next_pair plan small pre d c.long a b y g.good in
      let two = same_pair a b i e (omega (arith, n.link)) he (omega (arith, g.late (omega arith))) in
      cut y (ap₂ (λ (s l : ℕ). s ∷ l ∷ y) two.0 two.1))

  -- a link that no list cuts
  left-whole : (i e k v : ℕ) → e < most_links → ((y : List ℕ) → Goes plan pre (code i e) k (i ∷ e ∷ y) → ⊥) →
      Value plan pre (code i (e + 1)) k v → Value plan pre (code i e) k v
  left-whole i e k v he none =
      same_lists (code i e) (code i (e + 1)) k v (omega arith)
      (λ x g. apart i e k he x g (λ y same. absurd (none y (subst (Goes plan pre (code i e) k) same g))) (λ h. h))

  -- at the timeout no pair can come
  over : (i k : ℕ) → plan.timeout ≤ i → Value plan pre (code i 0) k (arrivals plan pre)
  over i k h =
      record {
        bound = only;
        list = [];
        goes = record { good = rw (append-nil pre) c.good; few = omega arith; late = λ l. absurd (omega arith) };
        reached = ap (arrivals plan) (append-nil pre);
      }
    where
      only : (x : List ℕ) → Goes plan pre (code i 0) k x → arrivals plan pre ≤ arrivals plan (pre ++ x)
      only [] g = rw (append-nil pre) (omega arith)
      only (a ∷ []) g = absurd (no_half (code i 0) k a g)
      only (a ∷ b ∷ y) g =
          let n = next_pair plan small pre d c.long a b y g.good in
          absurd (omega (arith, n.slot, n.link, g.late (omega arith)))

  -- a link that may be cut, and one that may not
  may : (i e : ℕ) → i < plan.timeout → e < length plan.links → lo ≤ code i e → may_cut plan pre i e ≡ true →
      Chosen plan (pre ++ i ∷ e ∷ []) (d + 1) (code i (e + 1))
  may i e hi he low m =
      let y : List ℕ = i ∷ e ∷ [] in
      let cuts = pre ++ y in
      let at : pairs pre ≡ d + 0 = omega (arith, c.long) in
      let last : cut_link cuts (pairs pre) ≡ e = rw at (link_right pre y d c.long 0) in
      let parts = none_of_six (eqb (length cuts) (2 * pairs pre + 1)) (not (ltb (cut_slot cuts (pairs pre)) plan.timeout))
      (not (ltb (cut_link cuts (pairs pre)) (length plan.links))) (falls cuts (pairs pre))
      (some (λ k. eqb (cut_link cuts k) (cut_link cuts (pairs pre))) (pairs pre)) (is_higher plan (cut_link cuts (pairs pre)))
      (not-true (bad_pair plan cuts (pairs pre)) m) in
      picked plan small pre d lo i e c low hi he
      (λ j h same.
      let other = none_below (λ k. eqb (cut_link cuts k) (cut_link cuts (pairs pre))) (pairs pre) parts.4 j (omega arith) in
      eqb-false (cut_link cuts j) (cut_link cuts (pairs pre)) other (link_left pre y d c.long j h ∙ same ∙ sym last))
      (rw last at parts.5)

  may-not : (i e : ℕ) (y : List ℕ) → may_cut plan pre i e ≡ false → is_cut_list plan (pre ++ i ∷ e ∷ y) ≡ true → ⊥
  may-not i e y m good =
      let z : List ℕ = i ∷ e ∷ [] in
      let more = one_more plan small pre d c.long i e c.good (next_pair plan small pre d c.long i e y good) in
      let fine = not-bad plan (pre ++ z) more (pairs pre) (omega (arith, c.long, length-append pre z)) in
      true≢false (sym (ap not fine) ∙ m)

-- a link that may be cut or left whole
module _ (plan : Plan) (small : length plan.links ≤ most_links) (pre : List ℕ) (d lo : ℕ) (c : Chosen plan pre d lo) (i e k u v : ℕ)
    (he : e < most_links)
    (some_left : 0 < k)
    (more : Chosen plan (pre ++ i ∷ e ∷ []) (d + 1) (code i (e + 1)))
    (cut : Value plan (pre ++ i ∷ e ∷ []) (code i (e + 1)) (k - 1) u)
    (whole : Value plan pre (code i (e + 1)) k v) where
  together : (y : List ℕ) → (pre ++ i ∷ e ∷ []) ++ y ≡ pre ++ i ∷ e ∷ y
  together y = append_assoc pre (i ∷ e ∷ []) y

  -- what goes on with it
  rest : (y : List ℕ) → Goes plan pre (code i e) k (i ∷ e ∷ y) → Goes plan (pre ++ i ∷ e ∷ []) (code i (e + 1)) (k - 1) y
  rest y g =
      later plan small (pre ++ i ∷ e ∷ []) (d + 1) (code i (e + 1)) more 0 (code i (e + 1)) (k - 1)
      (λ a b z n h. omega (arith, more.next d refl, n.rises d refl)) y
      (record { good = rw (together y) g.good; few = omega (arith, g.few); late = λ h. omega arith })

  bound : (x : List ℕ) → Goes plan pre (code i e) k x → min u v ≤ arrivals plan (pre ++ x)
  bound x g =
      apart plan small pre d lo c i e k he x g
      (λ y same.
      let at : (pre ++ i ∷ e ∷ []) ++ y ≡ pre ++ x = together y ∙ ap (λ (z : List ℕ). pre ++ z) (sym same) in
      omega (arith, ap (arrivals plan) at, cut.bound y (rest y (subst (Goes plan pre (code i e) k) same g))))
      (λ h. omega (arith, whole.bound x h))

  either : Value plan pre (code i e) k (min u v)
  either = split u v
      (λ less. record {
        bound = bound;
        list = i ∷ e ∷ cut.list;
        goes = record {
          good = rw (together cut.list) at cut.goes.good;
          few = omega (arith, cut.goes.few);
          late = λ h. omega arith;
        };
        reached = omega (arith, ap (arrivals plan) (together cut.list), cut.reached);
      })
      (λ no_less. record {
        bound = bound;
        list = whole.list;
        goes = record { good = whole.goes.good; few = whole.goes.few; late = λ h. omega (arith, whole.goes.late h) };
        reached = omega (arith, whole.reached);
      })

module _ (plan : Plan) (small : length plan.links ≤ most_links) where
  -- one link of the breaker's turn
  one_link : (pre : List ℕ) (d lo i e k : ℕ) → Chosen plan pre d lo → lo ≤ code i e → i < plan.timeout → e < length plan.links →
      {u v : ℕ} →
      (Chosen plan (pre ++ i ∷ e ∷ []) (d + 1) (code i (e + 1)) → Value plan (pre ++ i ∷ e ∷ []) (code i (e + 1)) (k - 1) u) →
      Value plan pre (code i (e + 1)) k v → Value plan pre (code i e) k (cond (ltb 0 k && may_cut plan pre i e) (min u v) v)
  one_link pre d lo i e k c low hi he {u} {v} cut whole = by (ltb 0 k) refl (may_cut plan pre i e) refl
    where
      by : (s : Bool) → ltb 0 k ≡ s → (m : Bool) → may_cut plan pre i e ≡ m → Value plan pre (code i e) k (cond (s && m) (min u v) v)
      by false none m f =
          left-whole plan small pre d lo c i e k v (omega arith) (λ y g. omega (arith, g.few, ltb-false 0 k none)) whole
      by true left false f =
          left-whole plan small pre d lo c i e k v (omega arith) (λ y g. may-not plan small pre d lo c i e y f g.good) whole
      by true left true f =
          let more = may plan small pre d lo c i e hi he low f in
          either plan small pre d lo c i e k u v (omega arith) (ltb-true 0 k left) more (cut more) whole

  -- the breaker's turn, if the value is right where it is the network's
  breaks : (i : ℕ) (network : ℕ → List ℕ → ℕ) (ps : List Position) → i < plan.timeout →
      ((pre : List ℕ) (d lo k : ℕ) → Chosen plan pre d lo → lo ≤ code i (length plan.links) → ps ≡ standing plan pre i →
      Value plan pre (code i (length plan.links)) k (network k pre)) →
      (unchosen e : ℕ) → e + unchosen ≡ length plan.links → (pre : List ℕ) (d lo k : ℕ) → Chosen plan pre d lo → lo ≤ code i e →
      ps ≡ standing plan pre i → Value plan pre (code i e) k (breaker plan i network unchosen e k pre)
  unfolding breaker
  breaks i network ps hi net zero e all pre d lo k c low stand =
      let at : length plan.links ≡ e = omega arith in
      subst (λ (b : ℕ). Value plan pre (code i b) k (network k pre)) at (net pre d lo k c (omega arith) stand)
  breaks i network ps hi net (suc unchosen) e all pre d lo k c low stand =
      one_link pre d lo i e k c low hi (omega arith)
      (λ more. breaks i network ps hi net unchosen (e + 1) (omega arith) (pre ++ i ∷ e ∷ []) (d + 1) (code i (e + 1)) (k - 1) more (omega arith)
      (stand ∙ sym (same-before plan pre d i e c.long)))
      (breaks i network ps hi net unchosen (e + 1) (omega arith) pre d lo k c (omega arith) stand)

  -- the network's turn
  moved_on : (pre : List ℕ) (i : ℕ) (ps : List Position) → ps ≡ standing plan pre i → move_on plan pre i ps ≡ standing plan pre (i + 1)
  unfolding positions
  moved_on pre i ps stand = ap (move_on plan pre i) stand ∙ sym (one_slot plan pre i)

  -- the value of the game from slot i on
  pub from-slot : (slots i : ℕ) → i + slots ≡ plan.timeout → (pre : List ℕ) (d lo k : ℕ) (ps : List Position) → Chosen plan pre d lo →
      lo ≤ code i 0 → ps ≡ standing plan pre i → Value plan pre (code i 0) k (least_from plan slots i k pre ps)
  unfolding least_from arrivals
  from-slot zero i all pre d lo k ps c low stand =
      let at : i ≡ plan.timeout = omega arith in
      subst (Value plan pre (code i 0) k) (ap arrived (sym (stand ∙ ap (standing plan pre) at))) (over plan small pre d lo c i k (omega arith))
  from-slot (suc slots) i all pre d lo k ps c low stand =
      breaks i (λ left picks. least_from plan slots (i + 1) left picks (move_on plan picks i ps)) ps (omega arith)
      (λ picks n from left chosen before at. next-slot plan small picks n from chosen i left
      (least_from plan slots (i + 1) left picks (move_on plan picks i ps))
      (from-slot slots (i + 1) (omega arith) picks n from left (move_on plan picks i ps) chosen (omega arith) (moved_on picks i ps at)))
      (length plan.links) 0 (omega arith) pre d lo k c low stand
