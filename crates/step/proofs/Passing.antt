-- A loop over the messages of a slot has come to message m: what is still to do, with what has been tried, is what is left of the whole.
use Prim.Native.Nat.{ℕ, suc, ◌+◌, ◌≤◌, ◌<◌}
use mathlib.Core.Path.{◌≡◌, refl, sym, ◌∙◌, ap}
use mathlib.Core.Bool.{Bool, true, false, cond}
use mathlib.Core.List.{List, [], ◌∷◌}
use native.Mathlib.Omega.{arith}
use native.Mathlib.Numerals.{add-one}
use lib.ListN.{length, get_or, take, drop, length-map, get_or-map, drop_of_length-le}
use lib.Seq.{length-take-le, get_or-take, get_or-drop, drop-drop, drop-cons}
use lib.Dec.{eqb}
use Rattle.scope.specs.Limits.{most_messages}
use Rattle.scope.specs.Slot as S
use Rattle.step.specs.declared.Position.{Position}
use Rattle.step.specs.Where.{position_of}
use Rattle.step.specs.Stand.{home, positions_of}
use Rattle.step.specs.declared.Tries.{Tries}
use Rattle.step.specs.Pass.{tried_by, noted, Noting, tried_after, all_tried, does, pass}
use Rattle.step.proofs.Tried.{Fits, fits-noted}

-- message m has been noted, or has tried nothing: the list has room for the next
module _ (down : ℕ → Bool) (tried : Tries) (m : ℕ) (n : Noting tried m) (p : S.Position) where
  pub fits_after : Fits tried m (tried_after down tried m p)
  unfolding tried_after
  fits_after = by (eqb (S.tries down (S.turn down p)) 0)
    where
      by : (b : Bool) → Fits tried m (cond b tried (noted tried (S.next_second (S.turn down p)) m))
      by true = record { same = refl; few = omega (arith, n.few); below = λ j h. omega (arith, n.below j h) }
      by false = fits-noted tried m n (S.next_second (S.turn down p))

module _ (row : List ℕ) (down : ℕ → Bool) (owner : ℕ → ℕ) (i n : ℕ) (old : List Position) (tried₀ : Tries) where
  -- what all do
  abbrev pub passes : List S.Moved
  passes = pass down owner i tried₀ 0 (positions_of row n old)

  pub record Passing (m : ℕ) (tried : Tries) : Type 0 where
    pub few : m ≤ n
    pub most : n ≤ most_messages
    pub long : n ≤ length old
    pub same : length tried.list ≡ length tried₀.list
    pub room : most_messages ≤ length tried₀.list
    pub counted : tried.count ≤ m
    pub below : (j : ℕ) → j < tried.count → tried_by tried j < m
    pub noted : all_tried down tried₀ 0 (positions_of row n old) ≡ all_tried down tried m (drop m (positions_of row n old))
    pub left : drop m (pass down owner i tried₀ 0 (positions_of row n old)) ≡ pass down owner i tried m (drop m (positions_of row n old))

  pub passing_none : n ≤ most_messages → n ≤ length old → most_messages ≤ length tried₀.list → tried₀.count ≡ 0 → Passing 0 tried₀
  passing_none a b c d =
      record {
        few = omega arith;
        most = a;
        long = b;
        same = refl;
        room = c;
        counted = omega arith;
        below = λ j h. absurd (omega arith);
        left = refl;
        noted = refl;
      }

pass-length : (down : ℕ → Bool) (owner : ℕ → ℕ) (i : ℕ) (tried : Tries) (m : ℕ) (ps : List S.Position) →
    length (pass down owner i tried m ps) ≡ length ps
unfolding pass
pass-length down owner i tried m [] = refl
pass-length down owner i tried m (p ∷ ps) = ap suc (pass-length down owner i (tried_after down tried m p) (m + 1) ps)

module _ {row : List ℕ} {down : ℕ → Bool} {owner : ℕ → ℕ} {i n : ℕ} {old : List Position} {tried₀ : Tries} {m : ℕ} {tried : Tries}
    (g : Passing row down owner i n old tried₀ m tried) where
  -- where the messages stand, what they do, and where message m stands
  abbrev stands : List S.Position
  stands = positions_of row n old

  abbrev all : List S.Moved
  all = passes row down owner i n old tried₀

  abbrev here : S.Position
  here = position_of row (get_or old m home)

  pub stands-length : length (positions_of row n old) ≡ n
  stands-length = length-map (take n old) (position_of row) ∙ length-take-le n old g.long

  pub all-length : length (passes row down owner i n old tried₀) ≡ n
  all-length = pass-length down owner i tried₀ 0 stands ∙ stands-length

  pub passing_notes : m < n → Noting tried m
  passing_notes h =
      record { low = omega (arith, g.most); room = omega (arith, g.room, g.same); few = g.counted; below = g.below }

  -- message m is the first that is still to go
  next : m < n → drop m stands ≡ here ∷ drop (m + 1) stands
  next h =
      let at : get_or stands m (position_of row home) ≡ here =
      get_or-map (position_of row) (take n old) m home ∙ ap (position_of row) (get_or-take n old m home h) in
      drop-cons stands m (position_of row home) (omega (arith, stands-length))
      ∙ ap (λ p. p ∷ drop (suc m) stands) at ∙ ap (λ k. here ∷ drop k stands) (sym (add-one m))

  now : m < n → drop m all ≡ does down owner i tried m here ∷ pass down owner i (tried_after down tried m here) (m + 1) (drop (m + 1) stands)
  unfolding pass
  now h = g.left ∙ ap (pass down owner i tried m) (next h)

  pub passing_at : (d : S.Moved) → m < n →
      get_or (passes row down owner i n old tried₀) m d ≡ does down owner i tried m (position_of row (get_or old m home))
  passing_at d h =
      let z : m + 0 ≡ m = omega arith in
      sym (ap (λ k. get_or all k d) z) ∙ sym (get_or-drop m all 0 d) ∙ ap (λ l. get_or l 0 d) (now h)

  pub passing_more : (tried' : Tries) → m < n → tried' ≡ tried_after down tried m (position_of row (get_or old m home)) →
      Passing row down owner i n old tried₀ (m + 1) tried'
  unfolding all_tried
  passing_more tried' h e = rw e more
    where
      more : Passing row down owner i n old tried₀ (m + 1) (tried_after down tried m here)
      more =
          let f = fits_after down tried m (passing_notes h) here in
          record {
            few = omega arith;
            most = g.most;
            long = g.long;
            same = f.same ∙ g.same;
            room = g.room;
            counted = f.few;
            below = f.below;
            noted = g.noted ∙ ap (all_tried down tried m) (next h);
            left = sym (drop-drop 1 m all) ∙ ap (drop 1) (now h);
          }

  pub passing_done : n ≤ m → tried ≡ all_tried down tried₀ 0 (positions_of row n old)
  unfolding all_tried
  passing_done h =
      let f : length stands ≤ m = omega (arith, stands-length) in
      sym (g.noted ∙ ap (all_tried down tried m) (drop_of_length-le stands f))
