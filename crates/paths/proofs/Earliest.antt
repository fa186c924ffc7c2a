-- Laws of the earliest rule that is broken, for loops that go through things and keep it: it begins, it goes on, it is known at once.
use Prim.Native.Nat.{ℕ, zero, suc, ◌+◌, ◌≤◌, ◌<◌}
use mathlib.Core.Path.{◌≡◌, refl, sym, ◌∙◌, ap}
use mathlib.Core.Bool.{Bool, true, false, cond, ◌||◌, ◌&&◌, true≢false}
use native.Mathlib.Omega.{arith}
use borrow.Author.Tests.{lt-ltb, le-ltb, ltb-true, ltb-false, eq-eqb, ne_eqb, eqb-true, eqb-false}
use lib.Dec.{ltb, eqb}
use Rattle.std.specs.declared.option.Option.{Option}
use Rattle.std.specs.declared.option.Option.TheVariants.{Some, None}
use Rattle.std.specs.Option.{is_some}
use Rattle.std.specs.declared.cmp.Ordering.TheVariants.{Less, Equal, Greater}
use Rattle.std.specs.Ordering.{is_lt, nat_cmp}
use Rattle.scope.specs.Lowest.{seek, lowest, some}
use Rattle.scope.proofs.Lowest.{seek_is, seek-low, seek-from, seek-most, seek-same}
use Rattle.scope.proofs.Some.{none, none_below, some_one, some_more, some_same}
use Rattle.paths.specs.declared.Fault.{Fault}
use Rattle.paths.specs.declared.Rule.{Rule}
use Rattle.paths.specs.declared.Rule.TheVariants.{NoLink, Apart, Astray, Again, Replaced}
use Rattle.paths.specs.contracts.RuleOrd.TheImpl as rule_ord
use Rattle.paths.specs.Path.{Earliest, goes_first, order, order_of, step_of}

-- a number that passes a test where none below it does is the lowest
pub lowest-is : (test : ℕ → Bool) (n i : ℕ) → i < n → test i ≡ true → ((j : ℕ) → j < i → test j ≡ false) → i ≡ lowest test n
lowest-is test n i h t low = by (ltb (lowest test n) i) refl (ltb i (lowest test n)) refl
  where
    by : (a : Bool) → ltb (lowest test n) i ≡ a → (b : Bool) → ltb i (lowest test n) ≡ b → i ≡ lowest test n
    by true e b f =
        let l : lowest test n < i = ltb-true (lowest test n) i e in
        absurd (true≢false (sym (seek_is test n 0 (omega arith)) ∙ low (lowest test n) l))
    by false e true f = absurd (true≢false (sym t ∙ seek-low test n 0 i (omega arith) (ltb-true i (lowest test n) f)))
    by false e false f = omega (arith, ltb-false (lowest test n) i e, ltb-false i (lowest test n) f)

-- of two tests, either passes first where one of them does
seek_or : (s t : ℕ → Bool) (n i : ℕ) → seek (λ r. s r || t r) n i ≡ cond (ltb (seek t n i) (seek s n i)) (seek t n i) (seek s n i)
unfolding seek
seek_or s t zero i = let z : ltb i i ≡ false = le-ltb i i (omega arith) in rw z
seek_or s t (suc n) i = by (s i) (t i) (seek_or s t n (i + 1)) (seek-from s n (i + 1)) (seek-from t n (i + 1))
  where
    by : (a b : Bool) →
        seek (λ r. s r || t r) n (i + 1) ≡ cond (ltb (seek t n (i + 1)) (seek s n (i + 1))) (seek t n (i + 1)) (seek s n (i + 1)) →
        i + 1 ≤ seek s n (i + 1) → i + 1 ≤ seek t n (i + 1) →
        cond (a || b) i (seek (λ r. s r || t r) n (i + 1)) ≡
        cond (ltb (cond b i (seek t n (i + 1))) (cond a i (seek s n (i + 1)))) (cond b i (seek t n (i + 1))) (cond a i (seek s n (i + 1)))
    by true true e f g = let z : ltb i i ≡ false = le-ltb i i (omega arith) in rw z
    by true false e f g = let z : ltb (seek t n (i + 1)) i ≡ false = le-ltb (seek t n (i + 1)) i (omega arith) in rw z
    by false true e f g = let z : ltb i (seek s n (i + 1)) ≡ true = lt-ltb i (seek s n (i + 1)) (omega arith) in rw z
    by false false e f g = e

-- what holds of each rule
each : (P : Rule → Type 0) → P NoLink → P Apart → P Astray → P Again → P Replaced → (r : Rule) → P r
each P a b c d e NoLink = a
each P a b c d e Apart = b
each P a b c d e Astray = c
each P a b c d e Again = d
each P a b c d e Replaced = e

-- a fault is earlier than none
below_none : (r : Rule) → order_of r < 5
below_none = each (λ r. order_of r < 5) (omega arith) (omega arith) (omega arith) (omega arith) (omega arith)

-- what `earlier` keeps of faults of these rules, by their numbers
pub by-order : (found here next : Option (Fault Rule)) → next ≡ cond (goes_first (rule_ord.ghosts).cmp found here) here found →
    next ≡ cond (ltb (order here) (order found)) here found
by-order found here next e = e ∙ ap (λ b. cond b here found) (same found here)
  where
    Alike : Rule → Rule → Type 0
    Alike h f = is_lt ((rule_ord.ghosts).cmp h f) ≡ ltb (order_of h) (order_of f)

    rules : (h f : Rule) → Alike h f
    rules =
        each (λ h. (f : Rule) → Alike h f)
        (each (Alike NoLink) refl refl refl refl refl)
        (each (Alike Apart) refl refl refl refl refl)
        (each (Alike Astray) refl refl refl refl refl)
        (each (Alike Again) refl refl refl refl refl)
        (each (Alike Replaced) refl refl refl refl refl)

    same : (found here : Option (Fault Rule)) → goes_first (rule_ord.ghosts).cmp found here ≡ ltb (order here) (order found)
    same None None = refl
    same (Some f) None = sym (le-ltb 5 (order_of f.rule) (omega (arith, below_none f.rule)))
    same None (Some h) = sym (lt-ltb (order_of h.rule) 5 (below_none h.rule))
    same (Some f) (Some h) = rules h.rule f.rule

-- and what it keeps where the rules are numbers: the fault of the lower one, and of one rule the one that was found first
pub by-number : (found here : Fault ℕ) (next : Option (Fault ℕ)) →
    next ≡ cond (goes_first nat_cmp (Some found) (Some here)) (Some here) (Some found) →
    next ≡ Some (cond (ltb here.rule found.rule) here found)
by-number found here next e = e ∙ by (ltb here.rule found.rule) (eqb here.rule found.rule)
  where
    by : (a b : Bool) → cond (is_lt (cond a Less (cond b Equal Greater))) (Some here) (Some found) ≡ Some (cond a here found)
    by true b = refl
    by false true = refl
    by false false = refl

-- no fault is earlier than none
order-most : (f : Option (Fault Rule)) → order f ≤ 5
order-most None = omega arith
order-most (Some f) = omega (arith, below_none f.rule)

pub none-later : (here kept : Option (Fault Rule)) → is_some here ≡ false → kept ≡ cond (ltb (order here) (order kept)) here kept
none-later None kept h = let z : ltb 5 (order kept) ≡ false = le-ltb 5 (order kept) (order-most kept) in rw z
none-later (Some f) kept h = absurd (true≢false h)

module _ (broken : ℕ → ℕ → Bool) (k : ℕ) where
  -- nothing was looked at
  pub earliest-none : (thing : ℕ) → Earliest broken k 0 k thing
  unfolding seek
  earliest-none thing =
      record {
        earliest = let e : k ≡ 0 + k = omega arith in e ∙ nothing k 0;
        first = λ h. absurd (omega arith);
      }
    where
      nothing : (n i : ℕ) → i + n ≡ seek (λ r. some (broken r) 0) n i
      nothing zero i = omega arith
      nothing (suc n) i = let e : i + suc n ≡ i + 1 + n = omega arith in e ∙ nothing n (i + 1)

  -- thing i breaks rule r first
  module _ (i : ℕ) where
    both : lowest (λ r. some (broken r) (i + 1)) k ≡
        cond (ltb (lowest (λ r. broken r i) k) (lowest (λ r. some (broken r) i) k)) (lowest (λ r. broken r i) k)
        (lowest (λ r. some (broken r) i) k)
    both =
        seek-same (λ r. some (broken r) (i + 1)) (λ r. some (broken r) i || broken r i) k 0 (λ r a b. some_more (broken r) i) ∙
        seek_or (λ r. some (broken r) i) (λ r. broken r i) k 0

    -- the fault kept, and the one here, whatever faults are; `rank` says which rule is broken, and `at` by which thing
    module _ {X : Type 0} (rank at : X → ℕ) (kept here next : X) (g : Earliest broken k i (rank kept) (at kept))
        (is : rank here < k → at here ≡ i) (rule : rank here ≡ lowest (λ r. broken r i) k)
        (kept-or-here : next ≡ cond (ltb (rank here) (rank kept)) here kept) where
      pub earliest-next : Earliest broken k (i + 1) (rank next) (at next)
      earliest-next = by (ltb (rank here) (rank kept)) refl
        where
          by : (b : Bool) → ltb (rank here) (rank kept) ≡ b → Earliest broken k (i + 1) (rank next) (at next)
          by true e =
              let lower : rank here < rank kept = ltb-true (rank here) (rank kept) e in
              let f : next ≡ here = kept-or-here ∙ rw e in
              let t : ltb (lowest (λ r. broken r i) k) (lowest (λ r. some (broken r) i) k) ≡ true = rw (← rule, ← g.earliest) e in
              let inside : rank kept ≤ k = omega (arith, g.earliest, seek-most (λ r. some (broken r) i) k 0) in
              let breaks : broken (rank here) i ≡ true = rw rule (seek_is (λ r. broken r i) k 0 (omega (arith, rule))) in
              let new : some (broken (rank here)) i ≡ false =
              seek-low (λ r. some (broken r) i) k 0 (rank here) (omega arith) (omega (arith, g.earliest)) in
              let there : at here ≡ i = is (omega arith) in
              rw (f, there)
              (record {
                earliest = rule ∙ sym (both ∙ rw t);
                first = λ h. lowest-is (broken (rank here)) (i + 1) i (omega arith) breaks (none_below (broken (rank here)) i new);
              })
          by false e =
              let f : next ≡ kept = kept-or-here ∙ rw e in
              let t : ltb (lowest (λ r. broken r i) k) (lowest (λ r. some (broken r) i) k) ≡ false = rw (← rule, ← g.earliest) e in
              rw f
              (record {
                earliest = g.earliest ∙ sym (both ∙ rw t);
                first = λ h. still h;
              })
            where
              still : rank kept < k → at kept ≡ lowest (broken (rank kept)) (i + 1)
              still h =
                  let there : some (broken (rank kept)) i ≡ true =
                  rw g.earliest (seek_is (λ r. some (broken r) i) k 0 (omega (arith, g.earliest))) in
                  let low : lowest (broken (rank kept)) i < i = ltb-true (lowest (broken (rank kept)) i) i there in
                  g.first h ∙
                  lowest-is (broken (rank kept)) (i + 1) (lowest (broken (rank kept)) i) (omega arith)
                  (seek_is (broken (rank kept)) i 0 (omega arith)) (λ j l. seek-low (broken (rank kept)) i 0 j (omega arith) l)

      -- what holds of both holds of the one that is kept
      pub either : (P : X → Type 0) → P kept → P here → P next
      either P p q = by (ltb (rank here) (rank kept)) refl
        where
          by : (b : Bool) → ltb (rank here) (rank kept) ≡ b → P next
          by true e = let f : next ≡ here = kept-or-here ∙ rw e in rw f q
          by false e = let f : next ≡ kept = kept-or-here ∙ rw e in rw f p

  -- the first rule of all is broken by thing i, and by none before it: no other thing matters
  pub earliest-found : (n i : ℕ) → 0 < k → i < n → broken 0 i ≡ true → some (broken 0) i ≡ false → Earliest broken k n 0 i
  earliest-found n i h l t new =
      record {
        earliest = lowest-is (λ r. some (broken r) n) k 0 h (some_one (broken 0) n i l t) (λ j m. absurd (omega arith));
        first = λ z. lowest-is (broken 0) n i l t (none_below (broken 0) i new);
      }

-- rules that are broken alike
pub earliest-same : (broken other : ℕ → ℕ → Bool) (k n rule thing : ℕ) → ((r s : ℕ) → r < k → broken r s ≡ other r s) →
    Earliest broken k n rule thing → Earliest other k n rule thing
earliest-same broken other k n rule thing same g =
    record {
      earliest = g.earliest ∙ seek-same _ _ k 0 (λ r a b. some_same _ _ n (λ s l. same r s (omega arith)));
      first = λ h. g.first h ∙ seek-same _ _ n 0 (λ s a b. same rule s h);
    }

-- h is the fault of rule o where a thing passes its test, and none otherwise
pub record Alone (test : ℕ → Bool) (n o k : ℕ) (h : Option (Fault Rule)) : Type 0 where
  pub broken : some test n ≡ true → (order h ≡ o) × (step_of h ≡ lowest test n)
  pub kept : some test n ≡ false → order h ≡ k

-- one rule more, which none of the others is
module _ (broken : ℕ → ℕ → Bool) (k n o : ℕ) (inside : o < k) (test : ℕ → Bool) (free : (s : ℕ) → broken o s ≡ false) where
  abbrev pub also : ℕ → ℕ → Bool
  also r s = broken r s || (eqb r o && test s)

  others : (r : ℕ) → (r ≡ o → ⊥) → (s : ℕ) → also r s ≡ broken r s
  others r ne s = rw (ne_eqb r o ne) (plain (broken r s))
    where
      plain : (b : Bool) → (b || false) ≡ b
      plain true = refl
      plain false = refl

  this : (s : ℕ) → also o s ≡ test s
  this s = rw (free s, eq-eqb o o refl)

  some-others : (r : ℕ) → (r ≡ o → ⊥) → some (also r) n ≡ some (broken r) n
  some-others r ne = some_same (also r) (broken r) n (λ s l. others r ne s)

  some_this : some (also o) n ≡ some test n
  some_this = some_same (also o) test n (λ s l. this s)

  not_that : some (broken o) n ≡ false
  not_that = none (broken o) n (λ s l. free s)

  module _ (rule thing : ℕ) (g : Earliest broken k n rule thing) where
    broke : rule < k → some (broken rule) n ≡ true
    broke h = rw g.earliest (seek_is (λ r. some (broken r) n) k 0 (omega (arith, g.earliest)))

    differs : rule < k → rule ≡ o → ⊥
    differs h e = true≢false (sym (broke h) ∙ ap (λ r. some (broken r) n) e ∙ not_that)

    lower : (j : ℕ) → j < rule → (j ≡ o → ⊥) → some (also j) n ≡ false
    lower j m ne = some-others j ne ∙ seek-low (λ r. some (broken r) n) k 0 j (omega arith) (omega (arith, g.earliest))

    first_thing : rule < k → thing ≡ lowest (also rule) n
    first_thing h = g.first h ∙ seek-same _ _ n 0 (λ s a b. sym (others rule (differs h) s))

    still : some test n ≡ false → Earliest also k n rule thing
    still f = record { earliest = g.earliest ∙ seek-same _ _ k 0 (λ r a b. alike r (eqb r o) refl); first = first_thing }
      where
        alike : (r : ℕ) (b : Bool) → eqb r o ≡ b → some (broken r) n ≡ some (also r) n
        alike r true e = let q : r ≡ o = eqb-true r o e in rw q (not_that ∙ sym (some_this ∙ f))
        alike r false e = sym (some-others r (eqb-false r o e))

    before : rule < o → Earliest also k n rule thing
    before l =
        let h : rule < k = omega arith in
        record {
          earliest = lowest-is (λ r. some (also r) n) k rule h (some-others rule (differs h) ∙ broke h) (λ j m. lower j m (λ z. omega arith));
          first = first_thing;
        }

    instead : some test n ≡ true → o < rule → (i : ℕ) → i ≡ lowest test n → Earliest also k n o i
    instead t l i e =
        record {
          earliest = lowest-is (λ r. some (also r) n) k o inside (some_this ∙ t) (λ j m. lower j (omega arith) (λ z. omega arith));
          first = λ h. e ∙ seek-same _ _ n 0 (λ s a b. sym (this s));
        }

  pub earliest-or : (f h next : Option (Fault Rule)) → Earliest broken k n (order f) (step_of f) → Alone test n o k h →
      next ≡ cond (ltb (order h) (order f)) h f → Earliest also k n (order next) (step_of next)
  earliest-or f h next g a e = by (some test n) refl (ltb (order h) (order f)) refl
    where
      most : order f ≤ k
      most = omega (arith, g.earliest, seek-most (λ r. some (broken r) n) k 0)

      by : (t : Bool) → some test n ≡ t → (b : Bool) → ltb (order h) (order f) ≡ b → Earliest also k n (order next) (step_of next)
      by true t true b =
          let is : next ≡ h = e ∙ rw b in
          let there = a.broken t in
          let l : o < order f = omega (arith, there.0, ltb-true (order h) (order f) b) in
          rw (is, there.0) (instead (order f) (step_of f) g t l (step_of h) there.1)
      by true t false b =
          let is : next ≡ f = e ∙ rw b in
          let there = a.broken t in
          let l : order f ≤ o = omega (arith, there.0, ltb-false (order h) (order f) b) in
          let ne : order f ≡ o → ⊥ = differs (order f) (step_of f) g (omega (arith, inside)) in
          rw is (before (order f) (step_of f) g (omega arith))
      by false t true b = absurd (omega (arith, a.kept t, most, ltb-true (order h) (order f) b))
      by false t false b = let is : next ≡ f = e ∙ rw b in rw is (still (order f) (step_of f) g t)
