-- Cut lists, pair by pair: a list with one pair more, and what a list says of the pair after a part of it.
use Prim.Native.Nat.{ℕ, zero, suc, ◌+◌, ◌-◌, ◌*◌, ◌≤◌, ◌<◌}
use native.Mathlib.Omega.{arith}
use mathlib.Core.Path.{◌≡◌, refl, sym, ◌∙◌, ap, ap₂}
use mathlib.Core.Bool.{Bool, true, false, not, ◌&&◌, ◌||◌, true≢false}
use mathlib.Core.List.{List, [], ◌∷◌, ◌++◌}
use lib.ListN.{length, length-append}
use lib.Dec.{ltb, eqb}
use borrow.Author.Tests.{ltb-true, ltb-false, lt-ltb, eq-eqb, ne_eqb, eqb-true, eqb-false, not-false}
use Rattle.scope.specs.Limits.{most_links}
use Rattle.scope.specs.Plan.{Plan}
use Rattle.scope.specs.Cables.{is_higher}
use Rattle.scope.specs.Cuts.{pairs, cut_slot, cut_link, pair_before, falls, bad_pair, is_cut_list}
use Rattle.scope.proofs.Cuts.{slot-below, link-below, rising, once, not_higher}
use Rattle.order.specs.Search.{code, code_at, NotBefore}
use Rattle.scope.proofs.Some.{none, none_below}
use Rattle.order.proofs.Parts.{slot-left, link_left, slot_right, link_right, pairs-both}

-- pairs rise as their codes do
pub code-before : (a b c d : ℕ) → b < most_links → d < most_links → pair_before a b c d ≡ true → code a b < code c d
code-before a b c d hb hd h = by (ltb a c) refl h
  where
    by : (t : Bool) → ltb a c ≡ t → (t || (eqb a c && ltb b d)) ≡ true → code a b < code c d
    by true e g = omega (arith, ltb-true a c e)
    by false e g = by2 (eqb a c) refl g
      where
        by2 : (t : Bool) → eqb a c ≡ t → (t && ltb b d) ≡ true → code a b < code c d
        by2 true f k = omega (arith, eqb-true a c f, ltb-true b d k)
        by2 false f k = absurd (true≢false (sym k))

pub before-code : (a b c d : ℕ) → b < most_links → d < most_links → code a b < code c d → pair_before a b c d ≡ true
before-code a b c d hb hd h = by (ltb a c) refl
  where
    by : (t : Bool) → ltb a c ≡ t → (t || (eqb a c && ltb b d)) ≡ true
    by true e = refl
    by false e =
        let l : c ≤ a = ltb-false a c e in
        rw (eq-eqb a c (omega arith), lt-ltb b d (omega arith))

-- a list of which no pair is bad
pub is_cut_list_lem : (plan : Plan) (cuts : List ℕ) → ((i : ℕ) → i < pairs cuts → bad_pair plan cuts i ≡ false) → is_cut_list plan cuts ≡ true
is_cut_list_lem plan cuts h = rw (none (bad_pair plan cuts) (pairs cuts) h)

-- a pair that breaks no rule
rises_not_falls : (cuts : List ℕ) (i : ℕ) → ((j : ℕ) → j < i + 1 → cut_link cuts j < most_links) →
    ((j : ℕ) → j + 1 ≡ i → code_at cuts j < code_at cuts i) →
    falls cuts i ≡ false
rises_not_falls cuts zero links rise = refl
rises_not_falls cuts (suc i) links rise =
    let e : suc i - 1 ≡ i = omega arith in
    rw (
      lt-ltb 0 (suc i) (omega arith),
      e,
      before-code (cut_slot cuts i) (cut_link cuts i) (cut_slot cuts (suc i)) (cut_link cuts (suc i)) (links i (omega arith))
          (links (suc i) (omega arith))
          (rise i (omega arith)),
    )

pub record Fine (plan : Plan) (cuts : List ℕ) (i : ℕ) : Type 0 where
  pub even : length cuts ≡ 2 * i + 1 → ⊥
  pub slot : cut_slot cuts i < plan.timeout
  pub links : (j : ℕ) → j < i + 1 → cut_link cuts j < length plan.links
  pub rise : (j : ℕ) → j + 1 ≡ i → code_at cuts j < code_at cuts i
  pub once : (j : ℕ) → j < i → cut_link cuts j ≡ cut_link cuts i → ⊥
  pub low : is_higher plan (cut_link cuts i) ≡ false

pub fine_pair : (plan : Plan) (cuts : List ℕ) (i : ℕ) → length plan.links ≤ most_links → Fine plan cuts i → bad_pair plan cuts i ≡ false
fine_pair plan cuts i small f =
    rw (
      ne_eqb (length cuts) (2 * i + 1) f.even,
      lt-ltb (cut_slot cuts i) plan.timeout f.slot,
      lt-ltb (cut_link cuts i) (length plan.links) (f.links i (omega arith)),
      rises_not_falls cuts i (λ j h. omega (arith, f.links j h)) f.rise,
      none (λ j. eqb (cut_link cuts j) (cut_link cuts i)) i (λ j h. ne_eqb (cut_link cuts j) (cut_link cuts i) (f.once j h)),
      f.low,
    )

module _ (plan : Plan) (small : length plan.links ≤ most_links) (cuts : List ℕ) (good : is_cut_list plan cuts ≡ true) where
  -- codes rise
  pub codes_rise : (i : ℕ) → i + 1 < pairs cuts → code_at cuts i < code_at cuts (i + 1)
  codes_rise i h =
      let a = link-below plan cuts good i (omega arith) in
      let b = link-below plan cuts good (i + 1) h in
      let r = rising plan cuts good (i + 1) h in
      let e : i + 1 - 1 ≡ i = omega arith in
      let f : not (pair_before (cut_slot cuts (i + 1 - 1)) (cut_link cuts (i + 1 - 1)) (cut_slot cuts (i + 1)) (cut_link cuts (i + 1))) ≡ false =
      rw (lt-ltb 0 (i + 1) (omega arith)) at r in
      let g : pair_before (cut_slot cuts i) (cut_link cuts i) (cut_slot cuts (i + 1)) (cut_link cuts (i + 1)) ≡ true =
      rw e at (not-false (pair_before (cut_slot cuts (i + 1 - 1)) (cut_link cuts (i + 1 - 1)) (cut_slot cuts (i + 1)) (cut_link cuts (i + 1))) f) in
      code-before (cut_slot cuts i) (cut_link cuts i) (cut_slot cuts (i + 1)) (cut_link cuts (i + 1)) (omega arith) (omega arith) g

  -- so slots do not fall
  pub slots_from : (i n : ℕ) → i + n < pairs cuts → cut_slot cuts i ≤ cut_slot cuts (i + n)
  slots_from i zero h = let e : i + 0 ≡ i = omega arith in rw e (omega arith)
  slots_from i (suc n) h =
      let e : i + suc n ≡ i + n + 1 = omega arith in
      let more = slots_from i n (omega arith) in
      let r = codes_rise (i + n) (omega arith) in
      let a = link-below plan cuts good (i + n) (omega arith) in
      let b = link-below plan cuts good (i + n + 1) (omega arith) in
      rw e (omega arith)

-- pairs of a cut list that are not in a slot before s, since the first of them is not
pub not-before : (plan : Plan) → length plan.links ≤ most_links → (pre x : List ℕ) (d n s : ℕ) → length pre ≡ 2 * d → length x ≡ 2 * n →
    is_cut_list plan (pre ++ x) ≡ true → s ≤ cut_slot x 0 → NotBefore s x n
not-before plan links pre x d n s long rest good first j h =
    let z : d + 0 ≡ d = omega arith in
    let from = slots_from plan links (pre ++ x) good d j (omega (arith, pairs-both pre x d long n rest)) in
    let here : cut_slot (pre ++ x) d ≡ cut_slot x 0 = rw z at (slot_right pre x d long 0) in
    omega (arith, from, here, slot_right pre x d long j)

-- the pair after a part of a cut list
pub record Next (plan : Plan) (pre : List ℕ) (d a b : ℕ) : Type 0 where
  pub slot : a < plan.timeout
  pub link : b < length plan.links
  pub new : (j : ℕ) → j < d → cut_link pre j ≡ b → ⊥
  pub rises : (j : ℕ) → j + 1 ≡ d → code_at pre j < code a b
  pub low : is_higher plan b ≡ false

module _ (plan : Plan) (small : length plan.links ≤ most_links) (pre : List ℕ) (d : ℕ) (long : length pre ≡ 2 * d) where
  pub next_pair : (a b : ℕ) (x : List ℕ) → is_cut_list plan (pre ++ a ∷ b ∷ x) ≡ true → Next plan pre d a b
  next_pair a b x good =
      let y : List ℕ = a ∷ b ∷ x in
      let there : d < pairs (pre ++ y) = omega (arith, length-append pre y) in
      let e : d + 0 ≡ d = omega arith in
      let s : cut_slot (pre ++ y) d ≡ a = rw e at (slot_right pre y d long 0) in
      let l : cut_link (pre ++ y) d ≡ b = rw e at (link_right pre y d long 0) in
      record {
        slot = rw s at (slot-below plan (pre ++ y) good d there);
        link = rw l at (link-below plan (pre ++ y) good d there);
        new = λ j h same.
            let twice = none_below (λ k. eqb (cut_link (pre ++ y) k) (cut_link (pre ++ y) d)) d (once plan (pre ++ y) good d there) j h in
            eqb-false (cut_link (pre ++ y) j) (cut_link (pre ++ y) d) twice (link_left pre y d long j h ∙ same ∙ sym l);
        rises = λ j h.
            let at : code_at (pre ++ y) (j + 1) ≡ code a b = ap₂ code (ap (cut_slot (pre ++ y)) h ∙ s) (ap (cut_link (pre ++ y)) h ∙ l) in
            let rise = codes_rise plan small (pre ++ y) good j (omega arith) in
            let left = slot-left pre y d long j (omega arith) in
            let left2 = link_left pre y d long j (omega arith) in
            omega (arith, at, rise, left, left2);
        low = rw l at (not_higher plan (pre ++ y) good d there);
      }

  -- one pair more
  pub one_more : (a b : ℕ) → is_cut_list plan pre ≡ true → Next plan pre d a b → is_cut_list plan (pre ++ a ∷ b ∷ []) ≡ true
  one_more a b good n = is_cut_list_lem plan (pre ++ a ∷ b ∷ []) (λ i h. fine_pair plan (pre ++ a ∷ b ∷ []) i small (by i h (ltb i d) refl))
    where
      links : (j : ℕ) → j < d + 1 → (t : Bool) → ltb j d ≡ t → cut_link (pre ++ a ∷ b ∷ []) j < length plan.links
      links j h true e =
          let l = ltb-true j d e in
          rw (link_left pre (a ∷ b ∷ []) d long j l) (link-below plan pre good j (omega arith))
      links j h false e =
          let at : j ≡ d + 0 = omega (arith, ltb-false j d e) in
          rw (at, link_right pre (a ∷ b ∷ []) d long 0) n.link

      by : (i : ℕ) → i < pairs (pre ++ a ∷ b ∷ []) → (t : Bool) → ltb i d ≡ t → Fine plan (pre ++ a ∷ b ∷ []) i
      by i h true e =
          let y : List ℕ = a ∷ b ∷ [] in
          let l : i < d = ltb-true i d e in
          let s = slot-left pre y d long in
          let k = link_left pre y d long in
          record {
            even = λ z. omega (arith, length-append pre y);
            slot = rw (s i l) (slot-below plan pre good i (omega arith));
            links = λ j g. links j (omega arith) (ltb j d) refl;
            rise = λ j g.
                let r = codes_rise plan small pre good j (omega arith) in
                let at : code_at pre (j + 1) ≡ code_at pre i = ap (code_at pre) g in
                omega (arith, r, at, s i l, k i l, s j (omega arith), k j (omega arith));
            once = λ j g same.
                let twice = none_below (λ m. eqb (cut_link pre m) (cut_link pre i)) i (once plan pre good i (omega arith)) j g in
                eqb-false (cut_link pre j) (cut_link pre i) twice (sym (k j (omega arith)) ∙ same ∙ k i l);
            low = rw (k i l) (not_higher plan pre good i (omega arith));
          }
      by i h false e =
          let y : List ℕ = a ∷ b ∷ [] in
          let at : i ≡ d + 0 = omega (arith, ltb-false i d e, length-append pre y) in
          let sd : cut_slot (pre ++ y) i ≡ a = rw at (slot_right pre y d long 0) in
          let ld : cut_link (pre ++ y) i ≡ b = rw at (link_right pre y d long 0) in
          record {
            even = λ z. omega (arith, length-append pre y);
            slot = rw sd n.slot;
            links = λ j g. links j (omega arith) (ltb j d) refl;
            rise = λ j g. omega (
              arith,
              sd,
              ld,
              n.rises j (omega arith),
              slot-left pre y d long j (omega arith),
              link_left pre y d long j (omega arith),
            );
            once = λ j g same. n.new j (omega arith) (sym (link_left pre y d long j (omega arith)) ∙ same ∙ ld);
            low = rw ld n.low;
          }
