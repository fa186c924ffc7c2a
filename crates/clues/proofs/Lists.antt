-- A list one named pair longer: what it cuts, what it matches, and how many links it can name.
use Prim.Native.Nat.{ℕ, ◌+◌, ◌*◌, ◌≤◌, ◌<◌}
use native.Mathlib.Omega.{arith}
use mathlib.Core.Path.{◌≡◌, refl, sym, ◌∙◌, ap, ap₂}
use mathlib.Core.Bool.{Bool, true, false, ◌&&◌, ◌||◌, and-eq-true_iff}
use mathlib.Core.List.{List, [], ◌∷◌, ◌++◌}
use lib.ListN.{length}
use lib.Dec.{ltb, leb}
use borrow.Author.Tests.{ltb-true, ltb-false, leb-true}
use Rattle.scope.specs.Lowest.{lowest, some}
use Rattle.scope.specs.Outcome.{gives}
use Rattle.scope.specs.Plan.{Plan}
use Rattle.scope.specs.Rules.{rules}
use Rattle.scope.specs.Cuts.{pairs, cut_slot, cut_link, is_cut_list, cuts_link, is_cut}
use Rattle.scope.proofs.Lowest.{seek_is}
use Rattle.scope.proofs.Cables.{cuts_own, cuts_by}
use Rattle.scope.proofs.Cuts.{link-below}
use Rattle.laws.specs.Named.{Within}
use Rattle.laws.proofs.Cuts.{is_cut_lem, cuts_grow}
use Rattle.laws.proofs.Cables.{cut-back, good-each}
use Rattle.order.proofs.Parts.{link_left, link_right}
use Rattle.order.proofs.Prefix.{cut-more, event-before}
use Rattle.order.proofs.Pigeons.{pigeons}
use Rattle.step.specs.Events.{crossing_of}
use Rattle.clues.specs.Clues.{MatchesBefore}

module _ (plan : Plan) (pre : List ℕ) (d : ℕ) (long : length pre ≡ 2 * d) (s e : ℕ) where
  -- before the slot of its last pair it matches what it does without that pair
  pub matches-more : (crossed : List ℕ) → MatchesBefore plan crossed pre s → MatchesBefore plan crossed (pre ++ s ∷ e ∷ []) s
  matches-more crossed h i l m there =
      ap crossing_of (event-before plan pre (s ∷ e ∷ []) d 1 s long refl (λ j g. here j (omega arith)) i m l) ∙ h i l m there
    where
      here : (j : ℕ) → j ≡ 0 → s ≤ cut_slot (s ∷ e ∷ []) j
      here j is = rw is (omega arith)

  -- whatever it cuts another list cuts, if that is so of what came before and of the link that the last pair names
  pub within_more : (others : List ℕ) → rules plan ≡ gives 0 → is_cut_list plan others ≡ true → Within (is_cut plan pre) (is_cut plan others) →
      is_cut plan others s e ≡ true → Within (is_cut plan (pre ++ s ∷ e ∷ [])) (is_cut plan others)
  within_more others keeps good h last i x cut = by (is_cut plan pre i x) refl (sym (cut-more plan pre d s e long i x) ∙ cut)
    where
      here : (cuts_link plan e x && leb s i) ≡ true → is_cut plan others i x ≡ true
      here g =
          let two = (and-eq-true_iff (cuts_link plan e x) (leb s i)).0 g in
          let grown = cuts_grow plan others s i e (leb-true s i two.1) last in
          cuts_by plan e x two.0 (λ own. ap (is_cut plan others i) (sym own) ∙ grown)
          (λ other. ap (is_cut plan others i) (sym other) ∙ cut-back plan keeps others good i e grown)

      by : (t : Bool) → is_cut plan pre i x ≡ t → (t || (cuts_link plan e x && leb s i)) ≡ true → is_cut plan others i x ≡ true
      by true q g = h i x q
      by false q g = here g

-- the first n pairs of a list name links of different cables
abbrev pub Apart : Plan → List ℕ → ℕ → Type 0
Apart plan cuts n = (i j : ℕ) → j < i → i < n → cuts_link plan (cut_link cuts j) (cut_link cuts i) ≡ true → ⊥

pub apart_more : (plan : Plan) (pre : List ℕ) (d s e : ℕ) → length pre ≡ 2 * d → Apart plan pre d →
    ((j : ℕ) → j < d → cuts_link plan (cut_link pre j) e ≡ true → ⊥) → Apart plan (pre ++ s ∷ e ∷ []) (d + 1)
apart_more plan pre d s e long apart new i j h l same = by (ltb i d) refl
  where
    left : (k : ℕ) → k < d → cut_link (pre ++ s ∷ e ∷ []) k ≡ cut_link pre k
    left k g = link_left pre (s ∷ e ∷ []) d long k g

    by : (t : Bool) → ltb i d ≡ t → ⊥
    by true q =
        let g = ltb-true i d q in
        apart i j h g (ap₂ (cuts_link plan) (sym (left j (omega arith))) (sym (left i g)) ∙ same)
    by false q =
        let is : i ≡ d + 0 = omega (arith, ltb-false i d q) in
        let last : cut_link (pre ++ s ∷ e ∷ []) i ≡ e = ap (cut_link (pre ++ s ∷ e ∷ [])) is ∙ link_right pre (s ∷ e ∷ []) d long 0 in
        new j (omega arith) (ap₂ (cuts_link plan) (sym (left j (omega arith))) (sym last) ∙ same)

-- links of c different cables are not all cut by a list of n pairs, which are fewer
module _ (plan : Plan) (keeps : rules plan ≡ gives 0) (cuts others : List ℕ) (good : is_cut_list plan others ≡ true) (c n : ℕ) (more : n < c)
    (long : length cuts ≡ 2 * c) (few : length others ≡ 2 * n) (apart : Apart plan cuts c)
    (within : Within (is_cut plan cuts) (is_cut plan others)) where
  -- pair i's link is cut by this pair of the others
  test : ℕ → ℕ → Bool
  test i j = cuts_link plan (cut_link others j) (cut_link cuts i) && leb (cut_slot others j) (cut_slot cuts i)

  cutter : ℕ → ℕ
  cutter i = lowest (test i) n

  there : (i : ℕ) → i < c → cutter i < n
  unfolding is_cut cutter test
  there i l =
      let count : pairs others ≡ n = omega arith in
      let s = cut_slot cuts i in
      let e = cut_link cuts i in
      let cut : is_cut plan others s e ≡ true = within s e (is_cut_lem plan cuts s e i (omega arith) (cuts_own plan e) (omega arith)) in
      ltb-true (lowest (test i) n) n (ap (some (test i)) (sym count) ∙ cut)

  is_cutter : (i : ℕ) → i < c → cuts_link plan (cut_link others (cutter i)) (cut_link cuts i) ≡ true
  unfolding cutter test
  is_cutter i l =
      let is = seek_is (test i) n 0 (omega (arith, there i l)) in
      ((and-eq-true_iff (cuts_link plan (cut_link others (cutter i)) (cut_link cuts i)) (leb (cut_slot others (cutter i)) (cut_slot cuts i))).0 is).0

  pub too_many : ⊥
  too_many =
      pigeons n cutter (λ i h. there i (omega arith))
      (λ i j h l same. apart i j h (omega arith)
      (good-each plan keeps (cut_link others (cutter j)) (cut_link cuts j) (cut_link cuts i)
      (link-below plan others good (cutter j) (omega (arith, there j (omega arith)))) (is_cutter j (omega arith))
      (ap (λ (k : ℕ). cuts_link plan (cut_link others k) (cut_link cuts i)) same ∙ is_cutter i (omega arith))))
