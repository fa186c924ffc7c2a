-- The loop that moves the messages of a slot in the records that are lent: the first m stand where the slot puts them, and the rest as they
-- did.
use Prim.Native.Nat.{ℕ, ◌+◌, ◌≤◌, ◌<◌}
use mathlib.Core.Path.{◌≡◌, sym, ◌∙◌, ap}
use mathlib.Core.Bool.{Bool}
use mathlib.Core.List.{List, [], ◌∷◌}
use native.Mathlib.Numerals.{add-one}
use native.Mathlib.Omega.{arith}
use lib.ListN.{length, get_or, drop, set, length-drop, drop_of_length-le}
use lib.Seq.{set-get_or, get_or-drop, drop-cons, ext_get_or}
use Rattle.scope.specs.Plan.{plan_of}
use Rattle.scope.specs.Slot as S
use Rattle.scope.specs.Cycle.{order_of, slot, nexts}
use Rattle.step.specs.declared.Position.{Position}
use Rattle.step.specs.Where.{position_of}
use Rattle.step.specs.Stand.{home, positions_of}
use Rattle.step.specs.declared.Tries.{Tries}
use Rattle.step.specs.Pass.{does, MovesIn, MayMoveAll, MovesAll}
use Rattle.step.proofs.Going.{next_from, Going, going-none, going_more, going_done}
use Rattle.step.proofs.Acting.{home-does, home_tried}
use Rattle.step.proofs.Pass.{pass-slot}
use Rattle.step.proofs.Passing.{passes, Passing, passing_none, passing_at, passing_more, passing_done, stands-length}
use Rattle.step.proofs.Passing.{all-length}

-- the next positions, one by one
nexts-from : (all : List S.Moved) (d : S.Moved) (m : ℕ) (ps : List S.Position) → m + length ps ≡ length all →
    next_from (λ k p. (get_or all k d).next) m ps ≡ nexts (drop m all)
unfolding next_from
nexts-from all d m [] h =
    let f : length all ≤ m = omega arith in
    sym (ap nexts (drop_of_length-le all f))
nexts-from all d m (p ∷ ps) h =
    let e : drop m all ≡ get_or all m d ∷ drop (m + 1) all =
    drop-cons all m d (omega arith) ∙ ap (λ k. get_or all m d ∷ drop k all) (sym (add-one m)) in
    ap (λ r. (get_or all m d).next ∷ r) (nexts-from all d (m + 1) ps (omega arith)) ∙ ap nexts (sym e)

abbrev nobody : S.Moved
nobody = S.moved (S.on_first []) 0 0

module _ (row : List ℕ) (down : ℕ → ℕ → Bool) (owner : ℕ → ℕ → ℕ) (i n : ℕ) (old : List Position) (tried₀ : Tries) where
  -- where each message is put
  abbrev next_of : ℕ → S.Position → S.Position
  next_of k p = (get_or (passes row (down i) (owner i) i n old tried₀) k (S.moved (S.on_first []) 0 0)).next

  pub record Moving (m : ℕ) (new : List Position) (tried : Tries) : Type 0 where
    pub passing : Passing row (down i) (owner i) i n old tried₀ m tried
    pub going : Going row next_of n m old new
    pub none : tried₀.count ≡ 0
    pub early : i < 65536

  pub moving_none : MayMoveAll row old n i tried₀ → Moving 0 old tried₀
  moving_none a =
      record {
        passing = passing_none row (down i) (owner i) i n old tried₀ a.stand.few a.long a.room a.none;
        going = going-none row _ n old a.stand a.long;
        none = a.none;
        early = a.early;
      }

module _ {row : List ℕ} {down : ℕ → ℕ → Bool} {owner : ℕ → ℕ → ℕ} {i n : ℕ} {old : List Position} {tried₀ : Tries}
    {m : ℕ} {new : List Position} {tried : Tries} (g : Moving row down owner i n old tried₀ m new tried) where
  -- message m stands where it did
  here : m < n → get_or new m home ≡ get_or old m home
  here h = g.going.walk.rest m (omega arith)

  -- and it does what the pass says
  pub moving_at : (d : S.Moved) → m < n → get_or (passes row (down i) (owner i) i n old tried₀) m d ≡
      does (down i) (owner i) i tried m (position_of row (get_or new m home))
  moving_at d h = passing_at g.passing d h ∙ ap (λ p. does (down i) (owner i) i tried m (position_of row p)) (sym (here h))

  pub moving_more : (q : Position) (tried' : Tries) → m < n → MovesIn row (down i) (owner i) i (get_or new m home) m tried tried' q →
      Moving row down owner i n old tried₀ (m + 1) (set new m q) tried'
  moving_more q tried' h s =
      let f : position_of row (get_or new m home) ≡ position_of row (get_or old m home) = ap (position_of row) (here h) in
      record {
        passing = passing_more g.passing tried' h (rw f at s.noted);
        going =
            going_more g.going q h (record { is = s.next.is ∙ ap (λ x. x.next) (sym (moving_at nobody h)); within = s.next.within });
        none = g.none;
        early = g.early;
      }

  pub moving_home : m < n → (get_or new m home).left ≡ 0 → Moving row down owner i n old tried₀ (m + 1) new tried
  moving_home h z =
      let p = get_or new m home in
      let e = home-does (down i) (owner i) i tried m row p.turned p.at p.left z in
      let s = moving_more p tried h
      (record {
        next = record { is = ap (λ x. x.next) e; within = omega arith };
        noted = home_tried (down i) (owner i) i tried m row p.turned p.at p.left z;
      }) in
      rw (set-get_or new m home) at s

  -- the pass is the slot
  pub moving_slot : passes row (down i) (owner i) i n old tried₀ ≡ slot (order_of (plan_of row)) down owner i (positions_of row n old)
  moving_slot =
      pass-slot (plan_of row) down owner i tried₀ (positions_of row n old) g.none g.passing.room
      (omega (arith, g.passing.most, stands-length g.passing))

  pub moving_done : n ≤ m → MovesAll row n down owner i old new tried₀ tried
  moving_done h =
      let all = passes row (down i) (owner i) i n old tried₀ in
      let b = going_done g.going h in
      let l : length (positions_of row n old) ≡ n = stands-length g.passing in
      let k : length all ≡ n = all-length g.passing in
      record {
        next = record { is = b.is ∙ nexts-from all nobody 0 (positions_of row n old) (omega arith) ∙ ap nexts moving_slot; stand = b.stand };
        rest =
            ext_get_or home (drop n new) (drop n old) (length-drop n new ∙ (omega (arith, g.going.walk.long, length-drop n old)))
            (λ j a. get_or-drop n new j home ∙ g.going.walk.rest (n + j) (omega (arith, g.passing.few)) ∙ sym (get_or-drop n old j home));
        noted = passing_done g.passing h;
      }
