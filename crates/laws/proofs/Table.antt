-- The table of a good plan gives each message the link and slot of each of its places.
use Prim.Native.Nat.{ℕ, ◌+◌, ◌<◌}
use native.Mathlib.Omega.{arith}
use mathlib.Core.Path.{◌≡◌, refl, sym, ◌∙◌, ap, ap₂}
use mathlib.Core.Bool.{Bool, true, false, ◌&&◌, ◌||◌, true≢false, false≢true, or-true, and-eq-true_iff}
use mathlib.Core.List.{List, [], ◌∷◌}
use lib.ListN.{length}
use lib.Dec.{ltb, eqb}
use borrow.Author.Tests.{ltb-true, ltb-false, lt-ltb, eqb-true, eq-eqb}
use Rattle.scope.specs.Lowest.{lowest, some}
use Rattle.scope.specs.Outcome.{gives}
use Rattle.scope.specs.Plan.{Plan, Place, path_of}
use Rattle.scope.specs.Good.{holds, taken}
use Rattle.scope.specs.Rules.{rules}
use Rattle.scope.specs.Cycle.{entry_of, table_of}
use Rattle.scope.proofs.Lowest.{seek-low, seek_is}
use Rattle.laws.specs.Links.{TableGives}
use Rattle.laws.proofs.Good.{keeps-rules, there_or_not}
use Rattle.laws.proofs.Again.{or-false}

-- the lowest that passes a test, where m passes it and nothing below m does
lowest-is : (test : ℕ → Bool) (n m : ℕ) → m < n → test m ≡ true → ((j : ℕ) → j < m → test j ≡ false) → lowest test n ≡ m
lowest-is test n m l yes-m none = by (ltb (lowest test n) m) refl (ltb m (lowest test n)) refl
  where
    by : (a : Bool) → ltb (lowest test n) m ≡ a → (b : Bool) → ltb m (lowest test n) ≡ b → lowest test n ≡ m
    by true x b y =
        let below : lowest test n < m = ltb-true (lowest test n) m x in
        absurd (true≢false (sym (seek_is test n 0 (omega arith)) ∙ none (lowest test n) below))
    by false x true y = absurd (true≢false (sym yes-m ∙ seek-low test n 0 m (omega arith) (ltb-true m (lowest test n) y)))
    by false x false y = omega (arith, ltb-false (lowest test n) m x, ltb-false m (lowest test n) y)

none-some : (test : ℕ → Bool) (m : ℕ) → some test m ≡ false → (j : ℕ) → j < m → test j ≡ false
none-some test m h j l = seek-low test m 0 j (omega arith) (omega (arith, ltb-false (lowest test m) m h))

holds-here : (p : Place) (ps : List Place) → holds p.link p.slot (p ∷ ps) ≡ true
unfolding holds
holds-here p ps = rw (eq-eqb p.link p.link refl, eq-eqb p.slot p.slot refl)

holds_more : (e i : ℕ) (p : Place) (ps : List Place) → holds e i ps ≡ true → holds e i (p ∷ ps) ≡ true
unfolding holds
holds_more e i p ps h = rw h (or-true (eqb p.link e && eqb p.slot i))

module _ (plan : Plan) (m : ℕ) (there : m < length plan.messages) where
  -- a slot and link that message m holds and no lower one are hers
  pub lowest-has : (e i : ℕ) → holds e i (path_of plan m) ≡ true → ((j : ℕ) → j < m → holds e i (path_of plan j) ≡ false) →
      table_of plan i e ≡ m + 1
  unfolding table_of
  lowest-has e i h none =
      let test : ℕ → Bool = λ j. holds e i (path_of plan j) in
      let l : lowest test (length plan.messages) ≡ m = lowest-is test (length plan.messages) m there h none in
      ap (entry_of (length plan.messages)) l ∙ rw (lt-ltb m (length plan.messages) there)

  entries-are : (ps : List Place) → ((e i : ℕ) → holds e i ps ≡ true → holds e i (path_of plan m) ≡ true) → taken plan m ps ≡ false →
      TableGives (table_of plan) m ps
  unfolding taken
  entries-are [] part free = tt
  entries-are (p ∷ ps) part free =
      let two = or-false (some (λ j. holds p.link p.slot (path_of plan j)) m) (taken plan m ps) free in (
        lowest-has p.link p.slot (part p.link p.slot (holds-here p ps))
            (none-some (λ j. holds p.link p.slot (path_of plan j)) m two.0),
        entries-are ps (λ e i h. part e i (holds_more e i p ps h)) two.1,
      )

pub table-gives : (plan : Plan) → rules plan ≡ gives 0 → (m : ℕ) → TableGives (table_of plan) m (path_of plan m)
table-gives plan g m =
    there_or_not plan (TableGives (table_of plan) m) m
    (λ h. entries-are plan m h (path_of plan m) (λ e i k. k) ((keeps-rules plan g).table m h)) tt

-- and each slot and link that a first path holds is one of those
pub holds-gives : (owner : ℕ → ℕ → ℕ) (m e i : ℕ) (ps : List Place) → TableGives owner m ps → holds e i ps ≡ true → owner i e ≡ m + 1
unfolding holds
holds-gives owner m e i [] own h = absurd (false≢true h)
holds-gives owner m e i (p ∷ ps) own h = by (eqb p.link e && eqb p.slot i) refl h (holds-gives owner m e i ps own.1)
  where
    by : (b : Bool) → (eqb p.link e && eqb p.slot i) ≡ b → (b || holds e i ps) ≡ true →
        (holds e i ps ≡ true → owner i e ≡ m + 1) → owner i e ≡ m + 1
    by false c g more = more g
    by true c g more =
        let two = (and-eq-true_iff (eqb p.link e) (eqb p.slot i)).0 c in
        ap₂ owner (sym (eqb-true p.slot i two.1)) (sym (eqb-true p.link e two.0)) ∙ own.0

pub gives_held : (owner : ℕ → ℕ → ℕ) (m : ℕ) (ps : List Place) → ((e i : ℕ) → holds e i ps ≡ true → owner i e ≡ m + 1) → TableGives owner m ps
gives_held owner m [] h = tt
gives_held owner m (p ∷ ps) h =
    (h p.link p.slot (holds-here p ps), gives_held owner m ps (λ e i k. h e i (holds_more e i p ps k)))
