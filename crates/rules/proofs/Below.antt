-- A table of all messages gives a place of message m to a lower message exactly if a lower message holds its link and slot.
use Prim.Native.Nat.{ℕ, zero, suc, ◌+◌, ◌≤◌, ◌<◌}
use mathlib.Core.Path.{◌≡◌, refl, sym, ◌∙◌, ap}
use mathlib.Core.Bool.{Bool, true, false, ◌&&◌, ◌||◌}
use mathlib.Core.List.{List, [], ◌∷◌}
use native.Mathlib.Omega.{arith}
use borrow.Author.Tests.{lt-ltb, ltb-true, ltb-false, le-leb, lt-leb, eq-eqb}
use lib.ListN.{length, get_or}
use lib.Dec.{ltb, leb, eqb}
use Rattle.scope.specs.Lowest.{lowest, some}
use Rattle.scope.specs.Plan.{Plan, Place, at, message_at, path_of}
use Rattle.scope.specs.Good.{holds, taken}
use Rattle.scope.specs.Cycle.{entry_of, table_of}
use Rattle.scope.proofs.Lowest.{seek_is, seek-low}
use Rattle.rows.specs.Lies.{MessageLies}
use Rattle.rows.proofs.Parts.{places_length, places_at_lem}
use Rattle.table.specs.Table.{Table, entry_at}
use Rattle.faults.specs.Broken.{held_below}

-- the lowest of n that pass a test, where m passes it: below m exactly if some number below m passes it
module _ (test : ℕ → Bool) (n m : ℕ) (within : m < n) (passes : test m ≡ true) where
  clash : (k : ℕ) → test k ≡ true → test k ≡ false → ⊥
  clash k t f = let z : ◌≡◌ {A = ℕ} 0 1 = cc in omega arith

  low : lowest test n ≤ m
  low = by (ltb m (lowest test n)) refl
    where
      by : (t : Bool) → ltb m (lowest test n) ≡ t → lowest test n ≤ m
      by true e = absurd (clash m passes (seek-low test n 0 m (omega arith) (ltb-true m (lowest test n) e)))
      by false e = ltb-false m (lowest test n) e

  found : test (lowest test n) ≡ true
  found = seek_is test n 0 (omega (arith, low))

  entry : entry_of n (lowest test n) ≡ lowest test n + 1
  entry = let t : ltb (lowest test n) n ≡ true = lt-ltb (lowest test n) n (omega (arith, low)) in rw t

  pub lower_holds : leb (entry_of n (lowest test n)) m ≡ some test m
  lower_holds = ap (λ w. leb w m) entry ∙ by (ltb (lowest test n) m) (ltb (lowest test m) m) refl refl
    where
      by : (s t : Bool) → ltb (lowest test n) m ≡ s → ltb (lowest test m) m ≡ t → leb (lowest test n + 1) m ≡ t
      by true true e f = le-leb (lowest test n + 1) m (omega (arith, ltb-true (lowest test n) m e))
      by true false e f =
          let l : lowest test n < m = ltb-true (lowest test n) m e in
          let g : m ≤ lowest test m = ltb-false (lowest test m) m f in
          absurd (clash (lowest test n) found (seek-low test m 0 (lowest test n) (omega arith) (omega arith)))
      by false true e f =
          let l : m ≤ lowest test n = ltb-false (lowest test n) m e in
          let g : lowest test m < m = ltb-true (lowest test m) m f in
          absurd (clash (lowest test m) (seek_is test m 0 (omega arith)) (seek-low test n 0 (lowest test m) (omega arith) (omega arith)))
      by false false e f = lt-leb (lowest test n + 1) m (omega (arith, ltb-false (lowest test n) m e))

none : Place
none = record { link = 0; slot = 0; second = [] }

-- a message holds the links and slots of its places
own : (ps : List Place) (k : ℕ) → k < length ps → holds (get_or ps k none).link (get_or ps k none).slot ps ≡ true
unfolding holds
own [] k h = absurd (omega arith)
own (p ∷ ps) zero h =
    let s : eqb p.link p.link ≡ true = eq-eqb p.link p.link refl in
    let t : eqb p.slot p.slot ≡ true = eq-eqb p.slot p.slot refl in
    rw (s, t)
own (p ∷ ps) (suc k) h = also (eqb p.link (get_or ps k none).link && eqb p.slot (get_or ps k none).slot) (own ps k (omega arith))
  where
    also : (a : Bool) {b : Bool} → b ≡ true → a || b ≡ true
    also true e = refl
    also false e = e

module _ (plan : Plan) (m : ℕ) (table : List ℕ) (t : Table (table_of plan) table) (within : m < length plan.messages) where
  one : (p : Place) → p.slot < 64 → p.link < 64 → holds p.link p.slot (path_of plan m) ≡ true →
      leb (entry_at table p.slot p.link) m ≡ some (λ j. holds p.link p.slot (path_of plan j)) m
  unfolding table_of
  one p hs hl held =
      ap (λ w. leb w m) (t.is p.slot p.link hs hl) ∙
      lower_holds (λ j. holds p.link p.slot (path_of plan j)) (length plan.messages) m within held

  all : (ps : List Place) →
      ((k : ℕ) → k < length ps → ((get_or ps k none).slot < 64) × ((get_or ps k none).link < 64) ×
      (holds (get_or ps k none).link (get_or ps k none).slot (path_of plan m) ≡ true)) →
      held_below table m ps ≡ taken plan m ps
  unfolding held_below taken none
  all [] h = refl
  all (p ∷ ps) h =
      let a = h 0 (omega arith) in
      let b : held_below table m ps ≡ taken plan m ps = all ps (λ k l. h (suc k) (omega arith)) in
      rw (one p a.0 a.1 a.2, b)

  pub taken_is : (row : List ℕ) (j : ℕ) → MessageLies row j → path_of plan m ≡ message_at row j → held_below table m (message_at row j) ≡
      taken plan m (path_of plan m)
  taken_is row j l e = all (message_at row j) narrow ∙ ap (taken plan m) (sym e)
    where
      narrow : (k : ℕ) → k < length (message_at row j) → ((get_or (message_at row j) k none).slot < 64) ×
          ((get_or (message_at row j) k none).link < 64) ×
          (holds (get_or (message_at row j) k none).link (get_or (message_at row j) k none).slot (path_of plan m) ≡ true)
      narrow k h =
          let b : k < at row j + 1 = rw (places_length row (j + 1) (at row j + 1)) at h in
          let g = places_at_lem row none (j + 1) (at row j + 1) k b in
          let s : (get_or (message_at row j) k none).slot < 64 = rw g (l.place k b).slot in
          let t : (get_or (message_at row j) k none).link < 64 = rw g (l.place k b).link in
          (s, t, rw e (own (message_at row j) k h))
