-- One triple more: what is kept with it, by each way through the tests.
use Prim.Native.Nat.{ℕ, ◌+◌, ◌-◌, ◌*◌, ◌≤◌, ◌<◌}
use mathlib.Core.Path.{◌≡◌, refl, sym, ◌∙◌, ap}
use mathlib.Core.Bool.{Bool, true, false, cond, not, ◌&&◌, ◌||◌, false≢true, and-false, and-true, or-true, or-false}
use mathlib.Core.List.{List, [], ◌∷◌, ◌++◌}
use native.Mathlib.Omega.{arith}
use lib.ListN.{length, set, length-set, length-append}
use lib.Seq.{get_or-set_same, get_or-set_other}
use lib.Dec.{ltb, eqb}
use borrow.Author.Tests.{eq-eqb, ne_eqb, ltb-true, ltb-false, eqb-true, eqb-false}
use Rattle.std.proofs.Common.{Option, Some, None, MatchOption}
use Rattle.scope.specs.Limits.{most_slots, most_links, most_messages, crossed_size}
use Rattle.scope.specs.Plan.{Plan, plan_of}
use Rattle.scope.specs.Capture.{triples, seen_slot, seen_link, seen_message, bad_triple, triple_before, is_captured}
use Rattle.scope.proofs.Bools.{or_left, or_right, and_left, and_right}
use Rattle.scope.proofs.Some.{none, none_below}
use Rattle.rows.proofs.Parts.{timeout-is, link-count, message-count}
use Rattle.capture.specs.declared.Triple.{Triple}
use Rattle.capture.specs.declared.Kept.{Kept}
use Rattle.capture.specs.Kept.{Keeps, Fits, Clash, MayAdd, Adds, crossed_index, crossed_at, code_of, code, FitsTriple, FitsLast, IsLast}
use Rattle.capture.specs.Adding.{in_range, rises_behind, Marks, spoilt, with_triple}
use Rattle.capture.proofs.Triples as law
use Rattle.capture.proofs.Keeping.{fits-spoilt, keeps-more, keeps-spoilt}

-- what is in range
slot-below : (plan : Plan) (a b c : ℕ) → in_range plan a b c ≡ true → a < plan.timeout
slot-below plan a b c h = ltb-true _ _ (and_left _ (ltb b (length plan.links)) (and_left _ (ltb c (length plan.messages)) h))

link-below : (plan : Plan) (a b c : ℕ) → in_range plan a b c ≡ true → b < length plan.links
link-below plan a b c h = ltb-true _ _ (and_right (ltb a plan.timeout) _ (and_left _ (ltb c (length plan.messages)) h))

message-below : (plan : Plan) (a b c : ℕ) → in_range plan a b c ≡ true → c < length plan.messages
message-below plan a b c h = ltb-true _ _ (and_right (ltb a plan.timeout && ltb b (length plan.links)) _ h)

-- one test that a triple does not pass
pub not_in_range : (plan : Plan) (k : Kept) (a b c : ℕ) → in_range plan a b c ≡ false → (in_range plan a b c && rises_behind k.last a b c) ≡ false
not_in_range plan k a b c h = rw h

pub not_risen : (plan : Plan) (k : Kept) (a b c : ℕ) → rises_behind k.last a b c ≡ false → (in_range plan a b c && rises_behind k.last a b c) ≡ false
not_risen plan k a b c h = rw h (and-false (in_range plan a b c))

-- a triple that rises has a higher number than the last one, and so than those before it
risen : (n : ℕ) (t : Triple) (a b c : ℕ) → FitsTriple n t → triple_before t.slot t.link t.message a b c ≡ true → code t < code_of a b c
risen n t a b c f h = law.before-code t.slot t.link t.message a b c f.link f.message h

older : (n : ℕ) (last : Option Triple) (a b c x : ℕ) → FitsLast n last → rises_behind last a b c ≡ true →
    MatchOption last ⊥ (λ t. x ≤ code t) → x < code_of a b c
older n None a b c x f h l = absurd l
older n (Some t) a b c x f h l = omega (arith, risen n t a b c f h)

-- two numbers are one where those after them are
next-same : (b e : ℕ) → eqb b e ≡ eqb (b + 1) (e + 1)
next-same b e = by (eqb b e) refl
  where
    by : (t : Bool) → eqb b e ≡ t → t ≡ eqb (b + 1) (e + 1)
    by true p = let q : b ≡ e = eqb-true b e p in sym (eq-eqb (b + 1) (e + 1) (omega arith))
    by false p = let q : b ≡ e → ⊥ = eqb-false b e p in sym (ne_eqb (b + 1) (e + 1) (λ z. q (omega arith)))

-- the table with one link more
marks-size : (crossed : List ℕ) (a b c : ℕ) (crossed' : List ℕ) (again : Bool) → length crossed ≡ crossed_size →
    Marks crossed a b c crossed' again → length crossed' ≡ crossed_size
marks-size crossed a b c crossed' again size marks = by again marks.table
  where
    by : (t : Bool) → crossed' ≡ cond t crossed (set crossed (crossed_index a c) (b + 1)) → length crossed' ≡ crossed_size
    by true e = ap length e ∙ size
    by false e = ap length e ∙ length-set crossed (crossed_index a c) (b + 1) ∙ size

-- what is kept with it stays small
fits_more : (k : Kept) (a b c : ℕ) (again : Bool) → Fits k → a < most_slots → b < most_links → c < most_messages → rises_behind k.last a b c ≡ true →
    Fits (with_triple k a b c again)
fits_more k a b c again f early low known rises =
    record { last = record { slot = early; link = low; message = known; few = by k.last f.last rises } }
  where
    by : (last : Option Triple) → FitsLast k.count last → rises_behind last a b c ≡ true → k.count + 1 ≤ code_of a b c + 1
    by None f h = omega arith
    by (Some t) f h = omega (arith, f.few, risen k.count t a b c f h)

module _ (plan : Plan) (capture crossed : List ℕ) (k : Kept) (keeps : Keeps plan capture crossed k) (good : k.bad ≡ false) (a b c : ℕ) where
  bad_now : bad_triple plan (capture ++ a ∷ b ∷ c ∷ []) k.count ≡ not (in_range plan a b c && rises_behind k.last a b c)
  bad_now = by k.last (keeps.all good).last
    where
      by : (last : Option Triple) → MatchOption last (k.count ≡ 0) (IsLast capture k.count) →
          bad_triple plan (capture ++ a ∷ b ∷ c ∷ []) k.count ≡ not (in_range plan a b c && rises_behind last a b c)
      by None z =
          law.one_bad capture k.count (keeps.all good).long a b c plan 0 0 0 (λ l. absurd (omega arith)) (λ l. absurd (omega arith))
          (λ l. absurd (omega arith)) ∙ rw (eq-eqb k.count 0 z)
      by (Some t) is =
          law.one_bad capture k.count (keeps.all good).long a b c plan t.slot t.link t.message (λ _. is.slot) (λ _. is.link) (λ _. is.message) ∙
          rw (ne_eqb k.count 0 (λ z. omega (arith, is.some)))

  -- it is bad
  pub one_spoilt : (in_range plan a b c && rises_behind k.last a b c) ≡ false → Keeps plan (capture ++ a ∷ b ∷ c ∷ []) crossed (spoilt k)
  one_spoilt h =
      keeps-spoilt plan capture crossed k keeps good (a ∷ b ∷ c ∷ [])
      (omega (arith, length-append capture (a ∷ b ∷ c ∷ []), (keeps.all good).long)) (bad_now ∙ ap not h)

  -- it is good
  module _ (crossed' : List ℕ) (again : Bool) (range : in_range plan a b c ≡ true) (rises : rises_behind k.last a b c ≡ true)
      (early : a < most_slots) (low : b < most_links) (known : c < most_messages) (marks : Marks crossed a b c crossed' again) where
    captured : (i e m : ℕ) → is_captured (capture ++ a ∷ b ∷ c ∷ []) i e m ≡ (is_captured capture i e m || (eqb a i && eqb b e && eqb c m))
    captured = law.one_captured capture k.count (keeps.all good).long a b c

    -- what was captured is, and so is the new triple
    still : (i e m : ℕ) → is_captured capture i e m ≡ true → is_captured (capture ++ a ∷ b ∷ c ∷ []) i e m ≡ true
    still i e m h = captured i e m ∙ rw h

    here : is_captured (capture ++ a ∷ b ∷ c ∷ []) a b c ≡ true
    here = captured a b c ∙ rw (eq-eqb a a refl, eq-eqb b b refl, eq-eqb c c refl) (or-true (is_captured capture a b c))

    most : (i e m : ℕ) → is_captured (capture ++ a ∷ b ∷ c ∷ []) i e m ≡ true → code_of i e m ≤ code_of a b c
    most i e m h = by (is_captured capture i e m) refl
      where
        by : (t : Bool) → is_captured capture i e m ≡ t → code_of i e m ≤ code_of a b c
        by true t = omega (arith, older k.count k.last a b c (code_of i e m) keeps.fits.last rises ((keeps.all good).most i e m t))
        by false t =
            let same : ((eqb a i && eqb b e) && eqb c m) ≡ true = rw (captured i e m, t) at h in
            let both : (eqb a i && eqb b e) ≡ true = and_left (eqb a i && eqb b e) (eqb c m) same in
            let p : a ≡ i = eqb-true a i (and_left (eqb a i) (eqb b e) both) in
            let q : b ≡ e = eqb-true b e (and_right (eqb a i) (eqb b e) both) in
            let r : c ≡ m = eqb-true c m (and_right (eqb a i && eqb b e) (eqb c m) same) in
            omega arith

    -- where no link was marked before, this one is
    marked : (k.twice || again) ≡ false → (i e m : ℕ) → i < most_slots → m < most_messages →
        is_captured (capture ++ a ∷ b ∷ c ∷ []) i e m ≡ eqb (crossed_at crossed' i m) (e + 1)
    marked t i e m l g = captured i e m ∙ by (eqb a i) (eqb c m) refl refl
      where
        fresh : again ≡ false
        fresh = or_right k.twice again t

        empty : crossed_at crossed a c ≡ 0
        empty = let z : crossed_at crossed a c ≤ 0 = ltb-false 0 (crossed_at crossed a c) (sym marks.seen ∙ fresh) in omega arith

        table : crossed' ≡ set crossed (crossed_index a c) (b + 1)
        table = rw fresh at marks.table

        old : is_captured capture i e m ≡ eqb (crossed_at crossed i m) (e + 1)
        old = (keeps.all good).marks (or_left k.twice again t) i e m l g

        -- another slot or message
        apart : (crossed_index i m ≡ crossed_index a c → ⊥) → is_captured capture i e m ≡ eqb (crossed_at crossed' i m) (e + 1)
        apart n = old ∙ ap (λ x. eqb x (e + 1)) (sym (rw table (get_or-set_other crossed (crossed_index a c) (crossed_index i m) (b + 1) 0 n)))

        by : (x y : Bool) → eqb a i ≡ x → eqb c m ≡ y →
            (is_captured capture i e m || (x && eqb b e && y)) ≡ eqb (crossed_at crossed' i m) (e + 1)
        by false y p q =
            let n : a ≡ i → ⊥ = eqb-false a i p in
            or-false (is_captured capture i e m) ∙ apart (λ z. n (omega arith))
        by true false p q =
            let n : c ≡ m → ⊥ = eqb-false c m q in
            rw (and-false (eqb b e)) (or-false (is_captured capture i e m) ∙ apart (λ z. n (omega arith)))
        by true true p q =
            let u : a ≡ i = eqb-true a i p in
            let v : c ≡ m = eqb-true c m q in
            let w : crossed_index i m ≡ crossed_index a c = omega arith in
            let was : is_captured capture i e m ≡ false = old ∙ rw (w, empty) (ne_eqb 0 (e + 1) (λ z. omega arith)) in
            let inside : crossed_index a c < length crossed = omega (arith, keeps.size) in
            let is : crossed_at crossed' i m ≡ b + 1 = rw (w, table) (get_or-set_same crossed (crossed_index a c) (b + 1) 0 inside) in
            rw (was, is) (and-true (eqb b e) ∙ next-same b e)

    -- where one was, it is another, for the new triple is not captured before
    clashes : (k.twice || again) ≡ true → Clash plan (capture ++ a ∷ b ∷ c ∷ [])
    clashes t = by k.twice refl
      where
        by : (f : Bool) → k.twice ≡ f → Clash plan (capture ++ a ∷ b ∷ c ∷ [])
        by true f =
            let x = (keeps.all good).clash f in
            record {
              slot = x.slot;
              message = x.message;
              link = x.link;
              other = x.other;
              early = x.early;
              known = x.known;
              differ = x.differ;
              here = still x.slot x.link x.message x.here;
              there = still x.slot x.other x.message x.there;
            }
        by false f =
            let cell = crossed_at crossed a c in
            let seen : again ≡ true = rw f at t in
            let some : 0 < cell = ltb-true 0 cell (sym marks.seen ∙ seen) in
            let before : is_captured capture a (cell - 1) c ≡ true =
            (keeps.all good).marks f a (cell - 1) c early known ∙ eq-eqb cell (cell - 1 + 1) (omega arith) in
            record {
              slot = a;
              message = c;
              link = b;
              other = cell - 1;
              early = slot-below plan a b c range;
              known = message-below plan a b c range;
              differ = λ z.
                  let less : code_of a b c < code_of a b c =
                  older k.count k.last a b c (code_of a b c) keeps.fits.last rises ((keeps.all good).most a b c (rw z before)) in
                  omega arith;
              here = here;
              there = still a (cell - 1) c before;
            }

    -- it is kept
    pub one_kept : Keeps plan (capture ++ a ∷ b ∷ c ∷ []) crossed' (with_triple k a b c again)
    one_kept = record {
      size = marks-size crossed a b c crossed' again keeps.size marks;
      fits = fits_more k a b c again keeps.fits early low known rises;
      bad = sym (none (bad_triple plan (capture ++ a ∷ b ∷ c ∷ [])) (triples (capture ++ a ∷ b ∷ c ∷ []))
          (λ j l. fine j l (ltb j k.count) refl));
      place = λ h. absurd (false≢true h);
      all = λ _. record {
        long = law.one_long capture k.count (keeps.all good).long a b c;
        last = record {
          some = omega arith;
          slot = ap (seen_slot (capture ++ a ∷ b ∷ c ∷ [])) (omega arith) ∙ law.slot_is capture k.count (keeps.all good).long a b c;
          link = ap (seen_link (capture ++ a ∷ b ∷ c ∷ [])) (omega arith) ∙ law.link-is capture k.count (keeps.all good).long a b c;
          message = ap (seen_message (capture ++ a ∷ b ∷ c ∷ [])) (omega arith) ∙
              law.message-is capture k.count (keeps.all good).long a b c;
        };
        most = most;
        marks = marked;
        clash = clashes;
      };
    }
      where
        fine : (j : ℕ) → j < triples (capture ++ a ∷ b ∷ c ∷ []) → (t : Bool) → ltb j k.count ≡ t →
            bad_triple plan (capture ++ a ∷ b ∷ c ∷ []) j ≡ false
        fine j l true t =
            let g : j < k.count = ltb-true j k.count t in
            let long : length capture ≡ 3 * k.count = (keeps.all good).long in
            law.bad-stays plan capture (a ∷ b ∷ c ∷ []) j (omega arith) ∙
            none_below (bad_triple plan capture) (triples capture) (sym keeps.bad ∙ good) j (omega arith)
        fine j l false t =
            let g : k.count ≤ j = ltb-false j k.count t in
            let long : length capture ≡ 3 * k.count = (keeps.all good).long in
            let z : j ≡ k.count = omega (arith, length-append capture (a ∷ b ∷ c ∷ [])) in
            ap (bad_triple plan (capture ++ a ∷ b ∷ c ∷ [])) z ∙ bad_now ∙ rw (range, rises)

-- the ways through `add`: behind a bad triple, at a bad one, and at a good one
module _ (row crossed : List ℕ) (k : Kept) (may : MayAdd row crossed k) (a b c : ℕ) where
  pub adds-behind : k.bad ≡ true → Adds (plan_of row) a b c crossed k crossed k
  adds-behind h = record {
    size = may.size;
    fits = may.fits;
    keeps = λ capture w keeps. keeps-more (plan_of row) capture crossed k keeps w h (a ∷ b ∷ c ∷ []);
  }

  pub adds-bad : (r : Kept) → k.bad ≡ false → (in_range (plan_of row) a b c && rises_behind k.last a b c) ≡ false → r ≡ spoilt k →
      Adds (plan_of row) a b c crossed k crossed r
  adds-bad r good h e = rw e record {
    size = may.size;
    fits = fits-spoilt k may.fits;
    keeps = λ capture w keeps. one_spoilt (plan_of row) capture crossed k keeps good a b c h;
  }

  pub in_table : in_range (plan_of row) a b c ≡ true → (a < most_slots) × (b < most_links) × (c < most_messages)
  in_table h = (
    omega (arith, slot-below (plan_of row) a b c h, timeout-is row, may.small.timeout),
    omega (arith, link-below (plan_of row) a b c h, link-count row, may.small.links),
    omega (arith, message-below (plan_of row) a b c h, message-count row, may.small.messages),
  )

  pub adds-good : (crossed' : List ℕ) (again : Bool) → k.bad ≡ false → in_range (plan_of row) a b c ≡ true → rises_behind k.last a b c ≡ true →
      Marks crossed a b c crossed' again → Adds (plan_of row) a b c crossed k crossed' (with_triple k a b c again)
  adds-good crossed' again good range rises marks =
      let small = in_table range in record {
        size = marks-size crossed a b c crossed' again may.size marks;
        fits = fits_more k a b c again may.fits small.0 small.1 small.2 rises;
        keeps = λ capture w keeps.
            one_kept (plan_of row) capture crossed k keeps good a b c crossed' again range rises small.0 small.1 small.2 marks;
      }
