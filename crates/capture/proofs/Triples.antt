-- Captures with more behind them: what holds of their complete triples stays, and one triple more.
use Prim.Native.Nat.{ℕ, ◌+◌, ◌-◌, ◌*◌, ◌≤◌, ◌<◌}
use mathlib.Core.Path.{◌≡◌, refl, sym, ◌∙◌, ap}
use mathlib.Core.Bool.{Bool, true, false, not, ◌&&◌, ◌||◌, true≢false, false≢true}
use mathlib.Core.List.{List, [], ◌∷◌, ◌++◌}
use native.Mathlib.Omega.{arith}
use lib.ListN.{length, get_or, length-append, get_or-append}
use lib.Seq.{get_or-append-add}
use lib.Dec.{ltb, eqb}
use borrow.Author.Tests.{le-ltb, eq-eqb, ne_eqb, ltb-true, ltb-false, eqb-true}
use Rattle.scope.specs.Limits.{most_links, most_messages}
use Rattle.scope.specs.Lowest.{lowest}
use Rattle.scope.specs.Plan.{Plan}
use Rattle.scope.specs.Capture.{triples, seen_slot, seen_link, seen_message, bad_triple, triple_before, is_captured}
use Rattle.scope.proofs.Lowest.{seek_is, seek-low}
use Rattle.scope.proofs.Some.{none, some_same, some_more}
use Rattle.capture.specs.Kept.{code_of}
use Rattle.capture.specs.Adding.{in_range}

-- the lowest number that passes a test is known by itself
pub lowest-is : (test : ℕ → Bool) (n i : ℕ) → i < n → test i ≡ true → ((j : ℕ) → j < i → test j ≡ false) → lowest test n ≡ i
lowest-is test n i h t low = by (ltb (lowest test n) i) (ltb i (lowest test n)) refl refl
  where
    by : (a b : Bool) → ltb (lowest test n) i ≡ a → ltb i (lowest test n) ≡ b → lowest test n ≡ i
    by true b p q =
        let l : lowest test n < i = ltb-true _ _ p in
        absurd (true≢false (sym (seek_is test n 0 (omega arith)) ∙ low (lowest test n) l))
    by false true p q =
        let l : i < lowest test n = ltb-true _ _ q in
        absurd (true≢false (sym t ∙ seek-low test n 0 i (omega arith) l))
    by false false p q =
        let l : i ≤ lowest test n = ltb-false _ _ p in
        let g : lowest test n ≤ i = ltb-false _ _ q in
        omega arith

-- triples in order have their numbers in order
pub before-code : (a b c d e f : ℕ) → b < most_links → c < most_messages → triple_before a b c d e f ≡ true → code_of a b c < code_of d e f
before-code a b c d e f h g t = by (ltb a d) (eqb a d) (ltb b e) (eqb b e) (ltb c f) refl refl refl refl refl t
  where
    by : (v w x y z : Bool) → ltb a d ≡ v → eqb a d ≡ w → ltb b e ≡ x → eqb b e ≡ y → ltb c f ≡ z →
        (v || (w && (x || (y && z)))) ≡ true → code_of a b c < code_of d e f
    by true w x y z p q r s o t = let l : a < d = ltb-true a d p in omega arith
    by false false x y z p q r s o t = absurd (false≢true t)
    by false true true y z p q r s o t =
        let i : a ≡ d = eqb-true a d q in
        let l : b < e = ltb-true b e r in
        omega arith
    by false true false false z p q r s o t = absurd (false≢true t)
    by false true false true false p q r s o t = absurd (false≢true t)
    by false true false true true p q r s o t =
        let i : a ≡ d = eqb-true a d q in
        let j : b ≡ e = eqb-true b e s in
        let l : c < f = ltb-true c f o in
        omega arith

module _ (plan : Plan) (capture more : List ℕ) where
  stays : (i : ℕ) → i < length capture → get_or (capture ++ more) i 0 ≡ get_or capture i 0
  stays i h = get_or-append capture more 0 i h

  -- a complete triple is as good or bad whatever stands behind it
  pub bad-stays : (j : ℕ) → 3 * j + 3 ≤ length capture → bad_triple plan (capture ++ more) j ≡ bad_triple plan capture j
  bad-stays j h =
      rw (
        le-ltb (length (capture ++ more)) (3 * j + 3) (omega (arith, length-append capture more)),
        le-ltb (length capture) (3 * j + 3) h,
        stays (3 * j) (omega arith),
        stays (3 * j + 1) (omega arith),
        stays (3 * j + 2) (omega arith),
        stays (3 * (j - 1)) (omega arith),
        stays (3 * (j - 1) + 1) (omega arith),
        stays (3 * (j - 1) + 2) (omega arith),
      )

  -- and stays the first bad one
  pub first-stays : (i : ℕ) → i ≡ lowest (bad_triple plan capture) (triples capture) → 3 * i + 3 ≤ length capture →
      lowest (bad_triple plan (capture ++ more)) (triples (capture ++ more)) ≡ i
  first-stays i p h =
      lowest-is (bad_triple plan (capture ++ more)) (triples (capture ++ more)) i (omega (arith, length-append capture more))
      (bad-stays i h ∙ ap (bad_triple plan capture) p ∙ seek_is (bad_triple plan capture) (triples capture) 0 (omega arith))
      (λ j l. bad-stays j (omega arith) ∙ seek-low (bad_triple plan capture) (triples capture) 0 j (omega arith) (omega arith))

pub captured-none : (i e m : ℕ) → is_captured [] i e m ≡ false
unfolding is_captured
captured-none i e m = none _ (triples []) (λ j l. absurd (omega arith))

-- a triple that breaks one of the rules does not keep them all
bad-is : (x y z o t : Bool) → (not x || not y || not z || (not o && not t)) ≡ not ((x && y && z) && (o || t))
bad-is true true true true t = refl
bad-is true true true false t = refl
bad-is true true false o t = refl
bad-is true false z o t = refl
bad-is false y z o t = refl

-- one triple more
module _ (capture : List ℕ) (n : ℕ) (long : length capture ≡ 3 * n) (a b c : ℕ) where
  abbrev more : List ℕ
  more = capture ++ a ∷ b ∷ c ∷ []

  pub one_long : length (capture ++ a ∷ b ∷ c ∷ []) ≡ 3 * (n + 1)
  one_long = omega (arith, length-append capture (a ∷ b ∷ c ∷ []))

  pub slot_is : seen_slot (capture ++ a ∷ b ∷ c ∷ []) n ≡ a
  slot_is = ap (λ i. get_or more i 0) (omega arith) ∙ get_or-append-add capture (a ∷ b ∷ c ∷ []) 0 0

  pub link-is : seen_link (capture ++ a ∷ b ∷ c ∷ []) n ≡ b
  link-is = ap (λ i. get_or more i 0) (omega arith) ∙ get_or-append-add capture (a ∷ b ∷ c ∷ []) 1 0

  pub message-is : seen_message (capture ++ a ∷ b ∷ c ∷ []) n ≡ c
  message-is = ap (λ i. get_or more i 0) (omega arith) ∙ get_or-append-add capture (a ∷ b ∷ c ∷ []) 2 0

  -- it is bad where the plan has it not, or where it does not come after the one before it
  pub one_bad : (plan : Plan) (i e m : ℕ) → (0 < n → seen_slot capture (n - 1) ≡ i) → (0 < n → seen_link capture (n - 1) ≡ e) →
      (0 < n → seen_message capture (n - 1) ≡ m) →
      bad_triple plan (capture ++ a ∷ b ∷ c ∷ []) n ≡ not (in_range plan a b c && (eqb n 0 || triple_before i e m a b c))
  one_bad plan i e m p q r =
      rw (le-ltb (length more) (3 * n + 3) (omega (arith, one_long)), slot_is, link-is, message-is)
      (by (ltb 0 n) refl)
    where
      by : (f : Bool) → ltb 0 n ≡ f →
          (not (ltb a plan.timeout) || not (ltb b (length plan.links)) || not (ltb c (length plan.messages)) || (ltb 0 n &&
          not (triple_before (seen_slot more (n - 1)) (seen_link more (n - 1)) (seen_message more (n - 1)) a b c))) ≡
          not (in_range plan a b c && (eqb n 0 || triple_before i e m a b c))
      by true f =
          let l : 0 < n = ltb-true 0 n f in
          rw (
            f,
            ne_eqb n 0 (λ z. omega arith),
            get_or-append capture (a ∷ b ∷ c ∷ []) 0 (3 * (n - 1)) (omega arith),
            p l,
            get_or-append capture (a ∷ b ∷ c ∷ []) 0 (3 * (n - 1) + 1) (omega arith),
            q l,
            get_or-append capture (a ∷ b ∷ c ∷ []) 0 (3 * (n - 1) + 2) (omega arith),
            r l,
          )
          (bad-is (ltb a plan.timeout) (ltb b (length plan.links)) (ltb c (length plan.messages)) false (triple_before i e m a b c))
      by false f =
          let l : n ≤ 0 = ltb-false 0 n f in
          rw (f, eq-eqb n 0 (omega arith))
          (bad-is (ltb a plan.timeout) (ltb b (length plan.links)) (ltb c (length plan.messages)) true (triple_before i e m a b c))

  -- a crossing is captured where it was before, or is the new one
  pub one_captured : (i e m : ℕ) → is_captured (capture ++ a ∷ b ∷ c ∷ []) i e m ≡ (is_captured capture i e m || (eqb a i && eqb b e && eqb c m))
  unfolding is_captured
  one_captured i e m =
      let count : triples more ≡ n + 1 = omega (arith, one_long) in
      let old : triples capture ≡ n = omega arith in
      rw (
        count,
        old,
        some_more (λ j. eqb (seen_slot more j) i && eqb (seen_link more j) e && eqb (seen_message more j) m) n,
        slot_is,
        link-is,
        message-is,
      ) (ap (λ x. x || (eqb a i && eqb b e && eqb c m)) (some_same
      (λ j. eqb (seen_slot more j) i && eqb (seen_link more j) e && eqb (seen_message more j) m)
      (λ j. eqb (seen_slot capture j) i && eqb (seen_link capture j) e && eqb (seen_message capture j) m) n
      (λ j l. rw (
        get_or-append capture (a ∷ b ∷ c ∷ []) 0 (3 * j) (omega arith),
        get_or-append capture (a ∷ b ∷ c ∷ []) 0 (3 * j + 1) (omega arith),
        get_or-append capture (a ∷ b ∷ c ∷ []) 0 (3 * j + 2) (omega arith),
      ))))
