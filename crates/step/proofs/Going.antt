-- A loop over the messages that puts each at its next position: `next` says which, by the message's number and its position.
use Prim.Native.Nat.{ℕ, zero, suc, ◌+◌, ◌≤◌, ◌<◌}
use mathlib.Core.Path.{◌≡◌, refl, ◌∙◌, ap}
use mathlib.Core.List.{List, [], ◌∷◌}
use native.Mathlib.Omega.{arith}
use lib.ListN.{length, get_or, set}
use Rattle.scope.specs.Slot as S
use Rattle.step.specs.declared.Position.{Position}
use Rattle.step.specs.Where.{position_of, end_of, Leads}
use Rattle.step.specs.Stand.{home, positions_of, Stand, Become}
use Rattle.step.proofs.Walk.{Walk, walk_none, walk_more}

-- the next positions of message m and those after it
unfoldable pub next_from : (ℕ → S.Position → S.Position) → ℕ → List S.Position → List S.Position
next_from next m [] = []
next_from next m (p ∷ ps) = next m p ∷ next_from next (m + 1) ps

module _ (row : List ℕ) (next : ℕ → S.Position → S.Position) where
  -- the first j of n messages are at their next positions
  pub record Going (n j : ℕ) (old new : List Position) : Type 0 where
    pub few : j ≤ n
    pub stand : Stand row n old
    pub long : n ≤ length old
    pub walk : Walk home (λ k p q. Leads row p (next k (position_of row p)) q) j old new

  pub going-none : (n : ℕ) (ps : List Position) → Stand row n ps → n ≤ length ps → Going n 0 ps ps
  going-none n ps s l = record { few = omega arith; stand = s; long = l; walk = walk_none home _ ps }

  next-same : (n m : ℕ) (old new : List Position) → n ≤ length old → n ≤ length new →
      ((k : ℕ) → k < n → position_of row (get_or new k home) ≡ next (m + k) (position_of row (get_or old k home))) →
      positions_of row n new ≡ next_from next m (positions_of row n old)
  unfolding next_from
  next-same zero m old new l k s = refl
  next-same (suc n) m [] new l k s = absurd (omega arith)
  next-same (suc n) m (x ∷ old) [] l k s = absurd (omega arith)
  next-same (suc n) m (x ∷ old) (y ∷ new) l k s =
      let z : m + 0 ≡ m = omega arith in
      let here : position_of row y ≡ next m (position_of row x) = rw z at (s 0 (omega arith)) in
      let more : positions_of row n new ≡ next_from next (m + 1) (positions_of row n old) =
      next-same n (m + 1) old new (omega arith) (omega arith)
      (λ i h. s (suc i) (omega arith) ∙ ap (λ u. next u (position_of row (get_or old i home))) (omega arith)) in
      rw (here, more)

module _ {row : List ℕ} {next : ℕ → S.Position → S.Position} {n j : ℕ} {old new : List Position} (g : Going row next n j old new) where
  pub going-fits : j < n → end_of row (get_or new j home) < 65536
  going-fits h = rw (g.walk.rest j (omega arith)) (g.stand.fit j h)

  pub going_more : (q : Position) → j < n → Leads row (get_or new j home) (next j (position_of row (get_or new j home))) q →
      Going row next n (j + 1) old (set new j q)
  going_more q h p =
      record {
        few = omega arith;
        stand = g.stand;
        long = g.long;
        walk = walk_more home _ j old new q g.walk (omega (arith, g.long, g.stand.few)) p;
      }

  pub going_done : n ≤ j → Become row n (next_from next 0 (positions_of row n old)) new
  going_done h =
      record {
        is =
            next-same row next n 0 old new (omega (arith, g.long, g.stand.few)) (omega (arith, g.long, g.stand.few, g.walk.long))
            (λ k i. (g.walk.done k (omega arith)).is ∙ ap (λ u. next u (position_of row (get_or old k home))) (omega arith));
        stand =
            record {
              few = g.stand.few;
              fit = λ k i. omega (arith, (g.walk.done k (omega arith)).within, g.stand.fit k i);
            };
      }
