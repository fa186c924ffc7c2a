-- Laws of the table: one place put, the places of a message put one by one, and the entries of one message more.
use Prim.Native.Nat.{ℕ, zero, suc, ◌+◌, ◌-◌, ◌*◌, ◌≤◌, ◌<◌}
use mathlib.Core.Path.{◌≡◌, refl, sym, ◌∙◌, ap}
use mathlib.Core.Bool.{Bool, true, false, cond, ◌&&◌, ◌||◌}
use mathlib.Core.List.{List, [], ◌∷◌}
use native.Mathlib.Numerals.{add-one}
use native.Mathlib.Nat.{zero-add}
use native.Mathlib.Omega.{arith}
use borrow.Author.Tests.{lt-ltb, le-ltb, ltb-true, ltb-false}
use lib.ListN.{length}
use lib.Dec.{ltb, eqb}
use Rattle.scope.specs.Limits.{most_slots, most_links, table_size}
use Rattle.scope.specs.Lowest.{seek, lowest}
use Rattle.scope.specs.Plan.{Place, place_at, place_size, places_at, after_places, message_at, after_message, message_count}
use Rattle.scope.specs.Plan.{first_message, plan_of, path_of}
use Rattle.scope.specs.Good.{holds}
use Rattle.scope.specs.Cycle.{entry_of, table_of}
use Rattle.rows.specs.View.{IsPlace}
use Rattle.rows.specs.declared.RowPlace.{RowPlace}
use Rattle.rows.proofs.Index.{places_go, places_done, messages_suc}
use Rattle.rows.proofs.Parts.{places_more, places_none, message-count, path_at}
use Rattle.table.specs.Table.{Table, Entered, Below, entry_at, marked, entered, owner_below}

-- an entry that nobody enters stays
stays : (old : ℕ) → cond (ltb 0 old) old 0 ≡ old
stays old = by (ltb 0 old) refl
  where
    by : (t : Bool) → ltb 0 old ≡ t → cond t old 0 ≡ old
    by true h = refl
    by false h = let l : old ≤ 0 = ltb-false 0 old h in omega arith

-- w was put at a link and a slot of a table
abbrev Marked : ℕ → ℕ → ℕ → List ℕ → List ℕ → Type 0
Marked w link slot table new = Table (λ i e. marked w link slot i e (entry_at table i e)) new

-- one place of a message put, and then the others
pub enter_place : (w : ℕ) (p : Place) (ps : List Place) (i e old : ℕ) → 0 < w →
    entered w ps i e (marked w p.link p.slot i e old) ≡ entered w (p ∷ ps) i e old
unfolding holds
enter_place w p ps i e old h = by (ltb 0 old) (eqb p.link e && eqb p.slot i) refl
  where
    by : (s t : Bool) → ltb 0 old ≡ s →
        entered w ps i e (cond s old (cond t w 0)) ≡ cond s old (cond (t || holds e i ps) w 0)
    by true t q = rw q
    by false true q = let l : ltb 0 w ≡ true = lt-ltb 0 w h in rw l
    by false false q = refl

pub enter_none : (w i e old : ℕ) → entered w [] i e old ≡ old
unfolding holds
enter_none w i e old = stays old

-- a loop over the places of the message at index i, at place k of n, which stands at index j: it begins, it goes on, it is done
pub record Entering (row : List ℕ) (i w : ℕ) (old : List ℕ) (n j k : ℕ) (table : List ℕ) : Type 0 where
  pub next : after_places row j (n - k) ≡ after_message row i
  pub small : j ≤ i + 1 + k * 65540
  pub most : k ≤ n
  pub long : length table ≡ table_size
  pub is : (s e : ℕ) → s < most_slots → e < most_links →
      entered w (places_at row j (n - k)) s e (entry_at table s e) ≡ entered w (message_at row i) s e (entry_at old s e)

module _ (row : List ℕ) (i w : ℕ) (old : List ℕ) (n : ℕ) where
  pub entering_next : (j k : ℕ) (table new : List ℕ) (here : RowPlace) → Entering row i w old n j k table → k < n → 0 < w →
      IsPlace row j here → Marked w here.link here.slot table new →
      Entering row i w old n here.next (k + 1) new
  entering_next j k table new here g h hw is m =
      record {
        next = places_go row j n k here.next h is.next ∙ g.next;
        small = omega arith;
        most = omega arith;
        long = m.long;
        is = λ s e hs he. step s e hs he ∙ g.is s e hs he;
      }
    where
      left : List Place
      left = places_at row (j + place_size row j) (n - (k + 1))

      step : (s e : ℕ) → s < most_slots → e < most_links →
          entered w (places_at row here.next (n - (k + 1))) s e (entry_at new s e) ≡ entered w (places_at row j (n - k)) s e (entry_at table s e)
      step s e hs he =
          rw (m.is s e hs he, places_more row j n k h, is.next, is.link, is.slot)
          (enter_place w (place_at row j) left s e (entry_at table s e) hw)

  pub entering_done : (j k : ℕ) (table : List ℕ) → Entering row i w old n j k table → n ≤ k → n ≤ 65536 → Entered row i w old table j
  entering_done j k table g h hn =
      record {
        next = sym (places_done row j n k h) ∙ g.next;
        small = omega arith;
        table =
            record {
              long = g.long;
              is = λ s e hs he. none s e ∙ g.is s e hs he;
            };
      }
    where
      none : (s e : ℕ) → entry_at table s e ≡ entered w (places_at row j (n - k)) s e (entry_at table s e)
      none s e = sym (enter_none w s e (entry_at table s e)) ∙ ap (λ ps. entered w ps s e (entry_at table s e)) (sym (places_none row j n k h))

-- the lowest of one number more
pub lowest-more : (test : ℕ → Bool) (m : ℕ) → lowest test (m + 1) ≡ cond (ltb (lowest test m) m) (lowest test m) (cond (test m) m (m + 1))
unfolding seek
lowest-more test m =
    ap (lowest test) (add-one m) ∙ last 0 m ∙ ap (λ k. cond (ltb (seek test m 0) k) (seek test m 0) (cond (test k) k (k + 1))) (zero-add m)
  where
    last : (i n : ℕ) → seek test (suc n) i ≡ cond (ltb (seek test n i) (i + n)) (seek test n i) (cond (test (i + n)) (i + n) (i + n + 1))
    last i zero =
        let f : ltb i (i + 0) ≡ false = le-ltb i (i + 0) (omega arith) in
        let g : i + 0 ≡ i = omega arith in
        rw (f, g)
    last i (suc n) = ap (cond (test i) i) (last (i + 1) n) ∙ by (test i)
      where
        same : i + 1 + n ≡ i + suc n
        same = omega arith

        by : (t : Bool) →
            cond t i
            (cond (ltb (seek test n (i + 1)) (i + 1 + n)) (seek test n (i + 1)) (cond (test (i + 1 + n)) (i + 1 + n) (i + 1 + n + 1))) ≡
            cond (ltb (cond t i (seek test n (i + 1))) (i + suc n)) (cond t i (seek test n (i + 1)))
            (cond (test (i + suc n)) (i + suc n) (i + suc n + 1))
        by true = let f : ltb i (i + suc n) ≡ true = lt-ltb i (i + suc n) (omega arith) in rw f
        by false = rw same

-- the entry of one message more
pub entry_next : (test : ℕ → Bool) (m : ℕ) →
    cond (ltb 0 (entry_of m (lowest test m))) (entry_of m (lowest test m)) (cond (test m) (m + 1) 0) ≡ entry_of (m + 1) (lowest test (m + 1))
entry_next test m = by (lowest test m) (ltb (lowest test m) m) (test m) refl ∙ ap (entry_of (m + 1)) (sym (lowest-more test m))
  where
    by : (l : ℕ) (s t : Bool) → ltb l m ≡ s →
        cond (ltb 0 (cond s (l + 1) 0)) (cond s (l + 1) 0) (cond t (m + 1) 0) ≡ entry_of (m + 1) (cond s l (cond t m (m + 1)))
    by l true t h =
        let b : l < m = ltb-true l m h in
        let f : ltb 0 (l + 1) ≡ true = lt-ltb 0 (l + 1) (omega arith) in
        let g : ltb l (m + 1) ≡ true = lt-ltb l (m + 1) (omega arith) in
        rw (f, g)
    by l false true h = let g : ltb m (m + 1) ≡ true = lt-ltb m (m + 1) (omega arith) in rw g
    by l false false h = let g : ltb (m + 1) (m + 1) ≡ false = le-ltb (m + 1) (m + 1) (omega arith) in rw g

module _ (row : List ℕ) where
  -- a loop over the messages goes on, and is done
  pub below_next : (m j r : ℕ) (table new : List ℕ) → m < message_count row → Below row m j table → Entered row j (m + 1) table new r →
      Below row (m + 1) r new
  below_next m j r table new h b n =
      record {
        index = n.next ∙ ap (after_message row) b.index ∙ sym (messages_suc row (first_message row) m);
        small = omega (arith, n.small, b.small);
        table = record { long = n.table.long; is = λ i e hi he. n.table.is i e hi he ∙ step i e hi he };
      }
    where
      step : (i e : ℕ) → i < most_slots → e < most_links →
          entered (m + 1) (message_at row j) i e (entry_at table i e) ≡ owner_below (plan_of row) (m + 1) i e
      step i e hi he =
          rw (b.table.is i e hi he, b.index, ← path_at row m h) (entry_next (λ k. holds e i (path_of (plan_of row) k)) m)

  pub below_all : (m j : ℕ) (table : List ℕ) → m ≡ message_count row → Below row m j table → Table (table_of (plan_of row)) table
  unfolding table_of
  below_all m j table e b =
      let f : m ≡ length (plan_of row).messages = e ∙ sym (message-count row) in
      record { long = b.table.long; is = λ i l hi hl. b.table.is i l hi hl ∙ ap (λ k. owner_below (plan_of row) k i l) f }
