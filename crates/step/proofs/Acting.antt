-- What one message does in a pass over the messages, and what has been tried after it.
use Prim.Native.Nat.{ℕ, ◌+◌, ◌<◌}
use mathlib.Core.Path.{◌≡◌, refl, sym, ◌∙◌, ap}
use mathlib.Core.Bool.{Bool, true, false, not, ◌&&◌, cond, and-eq-true_iff}
use mathlib.Core.List.{List, [], ◌∷◌}
use native.Mathlib.Omega.{arith}
use lib.Dec.{eqb}
use borrow.Author.Tests.{ne_eqb, not-true}
use Rattle.scope.specs.Plan.{at, slot_at}
use Rattle.scope.specs.Slot as S
use Rattle.step.specs.declared.Position.{Position}
use Rattle.step.specs.declared.Met.{Met}
use Rattle.step.specs.declared.Event.TheVariants.{Waits}
use Rattle.step.specs.declared.Moved.{Moved}
use Rattle.step.specs.declared.Tries.{Tries}
use Rattle.step.specs.Where.{left_at, position_of, waits_in, Acts, Meets}
use Rattle.step.specs.Pass.{first_trier, noted, tried_after, does, ActsIn, MovesIn}
use Rattle.step.proofs.Left.{numbers-next, places_next}
use Rattle.step.proofs.Steps.{home-tries, home-acts}
use Rattle.step.proofs.Pass.{tries-next}

-- who tries nothing is held by nobody
act_idle : (down : ℕ → Bool) (i entry entry' : ℕ) (held held' : Bool) (first first' : ℕ) (q : S.Position) → 0 ≡ S.tries down q →
    S.act down i entry held first q ≡ S.act down i entry' held' first' q
act_idle down i entry entry' held held' first first' (S.on_first []) h = refl
act_idle down i entry entry' held held' first first' (S.on_first (p ∷ ps)) h = refl
act_idle down i entry entry' held held' first first' (S.on_second []) h = refl
act_idle down i entry entry' held held' first first' (S.on_second (e ∷ es)) h = by (down e) h
  where
    by : (b : Bool) → 0 ≡ cond b 0 (e + 1) → S.on_second_path b entry held first e es ≡ S.on_second_path b entry' held' first' e es
    by true z = refl
    by false z = absurd (omega arith)

module _ (row : List ℕ) (down : ℕ → Bool) (p : Position) (t : Met) (h : Meets row down p t) where
  abbrev q : Position
  q = t.position

  -- with a link before it, it tries that link exactly if it has turned and the link is whole
  first-tries : q.turned ≡ false → 0 ≡ S.tries down (position_of row q)
  first-tries f = rw f

  cut-tries : t.down ≡ true → 0 ≡ S.tries down (position_of row q)
  cut-tries d = by q.turned
    where
      by : (b : Bool) → 0 ≡ S.tries down (left_at row b q.at q.left)
      by true = rw (numbers-next row q.at q.left h.left, ← h.link, ← h.cut, d)
      by false = refl

  whole-tries : q.turned ≡ true → t.down ≡ false → t.link + 1 ≡ S.tries down (position_of row q)
  whole-tries f d = rw (f, numbers-next row q.at q.left h.left, ← h.link, ← h.cut, d)

module _ (down : ℕ → Bool) (owner : ℕ → ℕ) (i : ℕ) (tried : Tries) (m : ℕ) where
  module _ (row : List ℕ) (p : Position) (t : Met) (h : Meets row down p t) where
    -- where it stands after its turn; what it does there
    abbrev after : S.Position
    after = S.turn down (position_of row p)

    abbrev Does : ℕ → Bool → ℕ → Moved → Type 0
    Does entry held first r = Acts row t.position (S.act down i entry held first (position_of row t.position)) r

    turned-acts : (entry : ℕ) (held : Bool) (first : ℕ) (r : Moved) → Does entry held first r →
        Acts row p (S.act down i entry held first after) r
    turned-acts entry held first r a =
        record { is = a.is ∙ ap (S.act down i entry held first) h.turned.is; within = omega (arith, a.within, h.turned.within) }

    -- it tries nothing
    idle : (entry : ℕ) (held : Bool) (first : ℕ) (r : Moved) → 0 ≡ S.tries down (position_of row t.position) → Does entry held first r →
        ActsIn row down owner i p m tried tried r
    unfolding does tried_after
    idle entry held first r z a₀ =
        let a : Acts row p (S.act down i entry held first after) r = turned-acts entry held first r a₀ in
        let idle : 0 ≡ S.tries down after = z ∙ ap (S.tries down) h.turned.is in
        record {
          acts = record { is = a.is ∙ act_idle down i _ _ _ _ _ _ after idle; within = a.within };
          noted = ap (λ x. cond (eqb x 0) tried (noted tried (S.next_second after) m)) idle;
        }

    -- it is on its first path, or its link is cut
    pub acts-first : (entry : ℕ) (held : Bool) (first : ℕ) (r : Moved) → t.position.turned ≡ false → Does entry held first r →
        ActsIn row down owner i p m tried tried r
    acts-first entry held first r f = idle entry held first r (first-tries row down p t h f)

    pub acts-cut : (entry : ℕ) (held : Bool) (first : ℕ) (r : Moved) → t.down ≡ true → Does entry held first r →
        ActsIn row down owner i p m tried tried r
    acts-cut entry held first r d = idle entry held first r (cut-tries row down p t h d)

    -- so it tries nothing unless it has turned and its link is whole
    pub acts-idle : (entry : ℕ) (held : Bool) (first : ℕ) (r : Moved) → (t.position.turned && not t.down) ≡ false → Does entry held first r →
        ActsIn row down owner i p m tried tried r
    acts-idle entry held first r h a = by t.position.turned refl t.down refl h
      where
        by : (x : Bool) → t.position.turned ≡ x → (y : Bool) → t.down ≡ y → (x && not y) ≡ false → ActsIn row down owner i p m tried tried r
        by false f y d h = acts-first entry held first r f a
        by true f true d h = acts-cut entry held first r d a
        by true f false d h = absurd cc

    -- it tries the link before it
    pub acts-tries : (entry first : ℕ) (tried' : Tries) (r : Moved) → t.position.turned ≡ true → t.down ≡ false →
        entry ≡ owner t.link → first ≡ first_trier tried t.link m → tried' ≡ noted tried t.link m →
        Does entry (not (eqb first m)) first r →
        ActsIn row down owner i p m tried tried' r
    unfolding does tried_after
    acts-tries entry first tried' r g d o f w a₀ =
        let a : Acts row p (S.act down i entry (not (eqb first m)) first after) r = turned-acts entry _ first r a₀ in
        let y : t.link + 1 ≡ S.tries down after = whole-tries row down p t h g d ∙ ap (S.tries down) h.turned.is in
        let some : S.tries down after ≡ 0 → ⊥ = λ x. omega (arith, y, x) in
        let next : t.link ≡ S.next_second after = omega (arith, y, tries-next down after some) in
        let busy : eqb (S.tries down after) 0 ≡ false = ne_eqb _ 0 some in
        record {
          acts =
              record {
                is =
                    a.is
                    ∙ ap (λ x. S.act down i x (not (eqb first m)) first after) o
                    ∙ ap (λ x. S.act down i (owner t.link) (not (eqb x m)) x after) f
                    ∙ ap (λ x. S.act down i (owner x) (not (eqb (first_trier tried x m) m)) (first_trier tried x m) after) next;
                within = a.within;
              };
          noted =
              w ∙ ap (λ x. noted tried x m) next ∙ ap (λ b. cond b tried (noted tried (S.next_second after) m)) (sym busy);
        }

  -- it waits on its first path: it stays where it is, and tries nothing
  pub waits_acts : (row : List ℕ) (p : Position) (e : ℕ) → 0 < p.left → waits_in row down i p ≡ true → e ≡ at row p.at →
      ActsIn row down owner i p m tried tried (record { next = p; event = Waits e })
  unfolding does tried_after
  waits_acts row p e some w is =
      let two = (and-eq-true_iff (not (eqb (slot_at row p.at) i) && not p.turned) (not (down (at row p.at)))).0 w in
      let one = (and-eq-true_iff (not (eqb (slot_at row p.at) i)) (not p.turned)).0 two.0 in
      let other = not-true (eqb (slot_at row p.at) i) one.0 in
      let first = not-true p.turned one.1 in
      let whole = not-true (down (at row p.at)) two.1 in
      let next = places_next row p.at p.left some in
      record {
        acts = record { is = rw (is, first, next, whole, whole, other) refl; within = omega arith };
        noted = rw (first, next, whole) refl;
      }

  -- at its target
  pub home-does : (row : List ℕ) (b : Bool) (k n : ℕ) → n ≡ 0 → S.moved (left_at row b k n) 0 0 ≡ does down owner i tried m (left_at row b k n)
  unfolding does
  home-does row b k n h = home-acts row k n b h down i _ _ _

  pub home_tried : (row : List ℕ) (b : Bool) (k n : ℕ) → n ≡ 0 → tried ≡ tried_after down tried m (left_at row b k n)
  unfolding tried_after
  home_tried row b k n h =
      ap (λ x. cond (eqb x 0) tried (noted tried (S.next_second (S.turn down (left_at row b k n))) m)) (home-tries row k n b h down)

-- what has acted has moved
pub moves_by : {down : ℕ → Bool} {owner : ℕ → ℕ} {i : ℕ} {tried : Tries} {m : ℕ} {row : List ℕ} {p : Position} {tried' : Tries} {r : Moved} →
    ActsIn row down owner i p m tried tried' r → MovesIn row down owner i p m tried tried' r.next
moves_by a = record { next = record { is = ap (λ x. x.next) a.acts.is; within = a.acts.within }; noted = a.noted }
