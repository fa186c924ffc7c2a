-- Laws of what is tried: the lowest message that tries a link, and the list that notes who tries what.
use Prim.Native.Nat.{ℕ, zero, suc, ◌+◌, ◌-◌, ◌≤◌, ◌<◌}
use mathlib.Core.Path.{◌≡◌, refl, sym, ◌∙◌, ap}
use mathlib.Core.Bool.{Bool, true, false, cond, ◌&&◌, and-false}
use mathlib.Core.List.{List, [], ◌∷◌, ◌++◌, map}
use native.Mathlib.Numerals.{add-one}
use native.Mathlib.Omega.{arith}
use lib.ListN.{length, get_or, take, drop, length-set}
use lib.Seq.{take-suc, drop-cons, length-take-le, get_or-take, get_or-set_same, get_or-set_other}
use lib.Dec.{ltb, eqb}
use borrow.Author.Tests.{lt-ltb, le-ltb, ltb-true, ltb-false, eq-eqb, ne_eqb, eqb-true, eqb-false}
use Rattle.scope.specs.Lowest.{seek, lowest}
use Rattle.scope.proofs.Lowest.{seek_found, seek-next, seek-done}
use Rattle.scope.specs.Cycle.{by_number, foremost}
use Rattle.table.proofs.Laws.{lowest-more}
use Rattle.step.specs.declared.Position.{Position}
use Rattle.step.specs.Where.{position_of}
use Rattle.step.specs.Stand.{home, positions_of}
use Rattle.step.specs.declared.Try.{Try}
use Rattle.step.specs.declared.Tries.{Tries}
use Rattle.step.specs.Pass.{no_try, tried_link, tried_by, found_at, first_trier, noted, Noting}

-- one more element through a function
pub map_snoc : {A B : Type 0} (f : A → B) (xs : List A) (x : A) → map f (xs ++ (x ∷ [])) ≡ map f xs ++ (f x ∷ [])
map_snoc f [] x = refl
map_snoc f (y ∷ xs) x = ap (λ r. f y ∷ r) (map_snoc f xs x)

pub positions-more : (row : List ℕ) (j : ℕ) (ps : List Position) → j < length ps →
    positions_of row (j + 1) ps ≡ positions_of row j ps ++ (position_of row (get_or ps j home) ∷ [])
positions-more row j ps h =
    ap (λ k. positions_of row k ps) (add-one j) ∙ ap (map (position_of row)) (take-suc ps j home h) ∙
    map_snoc (position_of row) (take j ps) (get_or ps j home)

-- the lowest message that tries link e: past message m nobody goes first
module _ (e : ℕ) where
  past : (m j : ℕ) (ts : List ℕ) → m ≤ j → foremost by_number e m j ts ≡ m
  unfolding foremost
  past m j [] h = refl
  past m j (t ∷ ts) h =
      let f : ltb j m ≡ false = le-ltb j m h in
      rw (f, and-false (eqb t (e + 1))) (past m (j + 1) ts (omega arith))

  module _ (m j : ℕ) (ts : List ℕ) where
    at : j < length ts → (b : Bool) → (eqb (get_or ts j 0) (e + 1) && ltb j m) ≡ b →
        foremost by_number e m j (drop j ts) ≡ foremost by_number e (cond b j m) (j + 1) (drop (suc j) ts)
    unfolding foremost
    at h b t = ap (foremost by_number e m j) (drop-cons ts j 0 h) ∙ ap (λ u. foremost by_number e (cond u j m) (j + 1) (drop (suc j) ts)) t

    -- a loop at message j: it tries the link, it does not, or all below m are passed
    pub tries_it : j < m → m ≤ length ts → get_or ts j 0 ≡ e + 1 → foremost by_number e m j (drop j ts) ≡ j
    tries_it h g t =
        let b : (eqb (get_or ts j 0) (e + 1) && ltb j m) ≡ true = rw (eq-eqb (get_or ts j 0) (e + 1) t, lt-ltb j m h) in
        at (omega arith) true b ∙ past j (j + 1) (drop (suc j) ts) (omega arith)

    pub tries-not : j < m → m ≤ length ts → (get_or ts j 0 ≡ e + 1 → ⊥) →
        foremost by_number e m j (drop j ts) ≡ foremost by_number e m (j + 1) (drop (j + 1) ts)
    tries-not h g t =
        let b : (eqb (get_or ts j 0) (e + 1) && ltb j m) ≡ false = rw (ne_eqb (get_or ts j 0) (e + 1) t) in
        at (omega arith) false b ∙ ap (λ k. foremost by_number e m (j + 1) (drop k ts)) (sym (add-one j))

    pub tries-done : m ≤ j → foremost by_number e m j (drop j ts) ≡ m
    tries-done h = past m j (drop j ts) h

  -- so it is the lowest message below m that tries the link
  fore_seek : (m : ℕ) (ts : List ℕ) (k j : ℕ) → j + k ≡ m → m ≤ length ts →
      foremost by_number e m j (drop j ts) ≡ seek (λ x. eqb (get_or ts x 0) (e + 1)) k j
  unfolding seek
  fore_seek m ts zero j h l = tries-done m j ts (omega arith) ∙ omega arith
  fore_seek m ts (suc k) j h l = by (eqb (get_or ts j 0) (e + 1)) refl (fore_seek m ts k (j + 1) (omega arith) l)
    where
      by : (b : Bool) → eqb (get_or ts j 0) (e + 1) ≡ b →
          foremost by_number e m (j + 1) (drop (j + 1) ts) ≡ seek (λ x. eqb (get_or ts x 0) (e + 1)) k (j + 1) →
          foremost by_number e m j (drop j ts) ≡ cond b j (seek (λ x. eqb (get_or ts x 0) (e + 1)) k (j + 1))
      by true b r = tries_it m j ts (omega arith) l (eqb-true (get_or ts j 0) (e + 1) b)
      by false b r = tries-not m j ts (omega arith) l (eqb-false (get_or ts j 0) (e + 1) b) ∙ r

  pub fore_lowest : (m : ℕ) (ts : List ℕ) → m ≤ length ts → foremost by_number e m 0 ts ≡ lowest (λ k. eqb (get_or ts k 0) (e + 1)) m
  fore_lowest m ts l = fore_seek m ts m 0 (omega arith) l

-- the lowest below one more number: it was found before, it is that number, or it is not
module _ (test : ℕ → Bool) where
  pub lowest_keep : (n : ℕ) → lowest test n < n → lowest test (n + 1) ≡ lowest test n
  lowest_keep n h = lowest-more test n ∙ rw (lt-ltb (lowest test n) n h)

  pub lowest-here : (n : ℕ) → lowest test n ≡ n → test n ≡ true → lowest test (n + 1) ≡ n
  lowest-here n h t = lowest-more test n ∙ rw (le-ltb (lowest test n) n (omega arith), t)

  pub lowest-next : (n : ℕ) → lowest test n ≡ n → test n ≡ false → lowest test (n + 1) ≡ n + 1
  lowest-next n h t = lowest-more test n ∙ rw (le-ltb (lowest test n) n (omega arith), t)

-- whoever is found in the list, and where nobody is
module _ (tried : Tries) (e : ℕ) where
  pub trier_found : (m : ℕ) → found_at tried e < tried.count → first_trier tried e m ≡ tried_by tried (found_at tried e)
  unfolding first_trier
  trier_found m h = rw (lt-ltb (found_at tried e) tried.count h)

  pub trier_none : (m : ℕ) → tried.count ≤ found_at tried e → first_trier tried e m ≡ m
  unfolding first_trier
  trier_none m h = rw (le-ltb (found_at tried e) tried.count h)

  -- a loop at entry j: it is the link's, or all are passed
  pub trier_at : (m j : ℕ) → j < tried.count → j ≡ found_at tried e → tried_by tried j ≡ first_trier tried e m
  trier_at m j h g = ap (tried_by tried) g ∙ sym (trier_found m (omega arith))

  pub trier_past : (m j : ℕ) → tried.count ≤ j → j ≡ found_at tried e → m ≡ first_trier tried e m
  trier_past m j h g = sym (trier_none m (omega arith))

  -- the entries from j on are still to be looked at: entry j is the link's, it is not, or all are passed
  abbrev pub Left : ℕ → Type 0
  Left j = seek (λ k. eqb (tried_link tried k) e) (tried.count - j) j ≡ found_at tried e

  pub left_found : (m j : ℕ) → Left j → j < tried.count → tried_link tried j ≡ e → tried_by tried j ≡ first_trier tried e m
  left_found m j v h t =
      trier_at m j h (sym (seek_found (λ k. eqb (tried_link tried k) e) tried.count j h (eq-eqb (tried_link tried j) e t)) ∙ v)

  pub left_more : (j : ℕ) → Left j → j < tried.count → (tried_link tried j ≡ e → ⊥) → Left (j + 1)
  left_more j v h t =
      sym (seek-next (λ k. eqb (tried_link tried k) e) tried.count j h (ne_eqb (tried_link tried j) e t)) ∙ v

  pub left_none : (m j : ℕ) → Left j → tried.count ≤ j → m ≡ first_trier tried e m
  left_none m j v h = trier_past m j h (sym (seek-done (λ k. eqb (tried_link tried k) e) tried.count j h) ∙ v)

-- entry j is one of those that have tried a link
module _ {tried : Tries} {m : ℕ} (n : Noting tried m) where
  counted : length (take tried.count tried.list) ≡ tried.count
  counted = length-take-le tried.count tried.list (omega (arith, n.room, n.few, n.low))

  pub in_count : {j : ℕ} → j < length (take tried.count tried.list) → j < tried.count
  in_count h = omega (arith, counted)

  pub past_count : {j : ℕ} → length (take tried.count tried.list) ≤ j → tried.count ≤ j
  past_count h = omega (arith, counted)

  pub at_count : {j : ℕ} → j < tried.count → get_or (take tried.count tried.list) j no_try ≡ get_or tried.list j no_try
  at_count {j} h = get_or-take tried.count tried.list j no_try h

-- one more entry
module _ (tried : Tries) (m : ℕ) (n : Noting tried m) (e₀ : ℕ) where
  abbrev new_try : Try
  new_try = record { link = e₀; message = m }

  pub noted-length : length (noted tried e₀ m).list ≡ length tried.list
  unfolding noted
  noted-length = length-set tried.list tried.count new_try

  pub noted-count : (noted tried e₀ m).count ≡ tried.count + 1
  unfolding noted
  noted-count = refl

  old : (j : ℕ) → j < tried.count → get_or (noted tried e₀ m).list j no_try ≡ get_or tried.list j no_try
  unfolding noted
  old j h = get_or-set_other tried.list tried.count j new_try no_try (λ z. omega arith)

  pub link_old : (j : ℕ) → j < tried.count → tried_link (noted tried e₀ m) j ≡ tried_link tried j
  link_old j h = ap (λ (t : Try). t.link) (old j h)

  pub by_old : (j : ℕ) → j < tried.count → tried_by (noted tried e₀ m) j ≡ tried_by tried j
  by_old j h = ap (λ (t : Try). t.message) (old j h)

  new : get_or (noted tried e₀ m).list tried.count no_try ≡ new_try
  unfolding noted
  new = get_or-set_same tried.list tried.count new_try no_try (omega (arith, n.room, n.few, n.low))

  pub link_new : tried_link (noted tried e₀ m) tried.count ≡ e₀
  link_new = ap (λ (t : Try). t.link) new

  pub by_new : tried_by (noted tried e₀ m) tried.count ≡ m
  by_new = ap (λ (t : Try). t.message) new

-- after message m there is room to note the next, and whoever has been noted is lower than that
pub record Fits (tried : Tries) (m : ℕ) (tried' : Tries) : Type 0 where
  pub same : length tried'.list ≡ length tried.list
  pub few : tried'.count ≤ m + 1
  pub below : (j : ℕ) → j < tried'.count → tried_by tried' j < m + 1

pub fits-noted : (tried : Tries) (m : ℕ) (n : Noting tried m) (e : ℕ) → Fits tried m (noted tried e m)
fits-noted tried m n e =
    record {
      same = noted-length tried m n e;
      few = omega (arith, noted-count tried m n e, n.few);
      below = λ j h. by j h (ltb j tried.count) refl;
    }
  where
    by : (j : ℕ) → j < (noted tried e m).count → (b : Bool) → ltb j tried.count ≡ b → tried_by (noted tried e m) j < m + 1
    by j h true b = let g : j < tried.count = ltb-true j tried.count b in rw (by_old tried m n e j g) (omega (arith, n.below j g))
    by j h false b =
        let g : tried.count ≤ j = ltb-false j tried.count b in
        let z : j ≡ tried.count = omega (arith, noted-count tried m n e) in
        rw (z, by_new tried m n e) (omega arith)
