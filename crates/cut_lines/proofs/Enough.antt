-- 65 lines are as many as can matter: a plan has at most 64 links and no link is cut twice, so that the 65th pair is bad if none before
-- it is. And 650 bytes are as many as 65 lines can have.
use Prim.Native.Nat.{ℕ, zero, suc, ◌+◌, ◌-◌, ◌*◌, ◌≤◌, ◌<◌}
use mathlib.Core.Path.{◌≡◌, refl, sym, ◌∙◌, ap}
use mathlib.Core.Bool.{Bool, true, false, cond, not, ◌&&◌, ◌||◌}
use mathlib.Core.List.{List, [], ◌∷◌}
use native.Mathlib.Omega.{arith}
use lib.ListN.{length, take}
use lib.Seq.{get_or-take, take_all, length-take-le}
use lib.Dec.{ltb, leb, eqb}
use borrow.Author.Tests.{lt-ltb, ltb-true, ltb-false, ne_eqb, eqb-false, not-false}
use Rattle.scope.specs.Lowest.{seek, lowest, some}
use Rattle.scope.proofs.Outcomes.{not-both}
use Rattle.scope.specs.Outcome.{Outcome, gives, refuse, unless_some}
use Rattle.scope.specs.Plan.{Plan}
use Rattle.scope.specs.Cables.{is_higher}
use Rattle.scope.specs.Cuts.{pairs, cut_slot, cut_link, falls, bad_pair, check_cuts}
use Rattle.scope.specs.Lines.{byte_at, is_digit, number_at, number_size, has_word, is_cut_line, slot_index, space_index, link_index, feed_index, cuts_from}
use Rattle.scope.specs.Lines.{cuts_of}
use Rattle.scope.proofs.Bools.{none_of_six}
use Rattle.scope.proofs.Lowest.{seek-low, seek-same}
use Rattle.cut_lines.proofs.Forms.{size_of, value_of}
use Rattle.cut_lines.proofs.Lines.{cuts-end, cuts-most}
use Rattle.order.proofs.Pigeons.{pigeons}

-- Only the first bytes of a text matter.

size-most : (text : List ℕ) (i : ℕ) → number_size text i ≤ 2
size-most text i =
    by (is_digit (byte_at text i)) (is_digit (byte_at text (i + 1)))
    (ltb 48 (byte_at text i) && leb ((byte_at text i - 48) * 10 + (byte_at text (i + 1) - 48)) 63)
  where
    by : (t u v : Bool) → cond t (cond u (cond v 2 0) 1) 0 ≤ 2
    by true true true = omega arith
    by true true false = omega arith
    by true false v = omega arith
    by false u v = omega arith

pub feed_most : (text : List ℕ) (i : ℕ) → feed_index text i + 1 ≤ i + 10
feed_most text i =
    let a = size-most text (slot_index i) in
    let b = size-most text (link_index text i) in
    omega arith

module _ (text : List ℕ) (m : ℕ) where
  byte_taken : (j : ℕ) → j < m → byte_at (take m text) j ≡ byte_at text j
  byte_taken j h = get_or-take m text j 0 h

  size-taken : (i : ℕ) → i + 1 < m → number_size (take m text) i ≡ number_size text i
  size-taken i h =
      ap (λ (x : ℕ). size_of x (byte_at (take m text) (i + 1))) (byte_taken i (omega arith)) ∙
      ap (λ (x : ℕ). size_of (byte_at text i) x) (byte_taken (i + 1) h)

  value_taken : (i : ℕ) → i + 1 < m → number_at (take m text) i ≡ number_at text i
  value_taken i h =
      ap (λ (x : ℕ). value_of x (byte_at (take m text) (i + 1))) (byte_taken i (omega arith)) ∙
      ap (λ (x : ℕ). value_of (byte_at text i) x) (byte_taken (i + 1) h)

  length_taken : (i : ℕ) → i < m → ltb i (length (take m text)) ≡ ltb i (length text)
  length_taken i h = by (ltb m (length text)) refl
    where
      by : (t : Bool) → ltb m (length text) ≡ t → ltb i (length (take m text)) ≡ ltb i (length text)
      by true e =
          let l = ltb-true m (length text) e in
          let s = length-take-le m text (omega arith) in
          lt-ltb i (length (take m text)) (omega arith) ∙ sym (lt-ltb i (length text) (omega arith))
      by false e = ap (λ (l : List ℕ). ltb i (length l)) (take_all m text (ltb-false m (length text) e))

  -- a line that ends before index m
  module _ (i : ℕ) (h : i + 10 ≤ m) where
    link-taken : link_index (take m text) i ≡ link_index text i
    link-taken = ap (λ (k : ℕ). i + 4 + k + 1) (size-taken (i + 4) (omega arith))

    link-size : number_size (take m text) (link_index (take m text) i) ≡ number_size text (link_index text i)
    link-size =
        let a = size-most text (slot_index i) in
        ap (λ (k : ℕ). number_size (take m text) k) link-taken ∙ size-taken (link_index text i) (omega arith)

    feed_taken : feed_index (take m text) i ≡ feed_index text i
    feed_taken = ap (λ (k : ℕ). k + number_size (take m text) (link_index (take m text) i)) link-taken ∙
        ap (λ (k : ℕ). link_index text i + k) link-size

    slot-value : number_at (take m text) (slot_index i) ≡ number_at text (slot_index i)
    slot-value = value_taken (i + 4) (omega arith)

    link-value : number_at (take m text) (link_index (take m text) i) ≡ number_at text (link_index text i)
    link-value =
        let a = size-most text (slot_index i) in
        ap (λ (k : ℕ). number_at (take m text) k) link-taken ∙ value_taken (link_index text i) (omega arith)

    space_byte : byte_at (take m text) (space_index (take m text) i) ≡ byte_at text (space_index text i)
    space_byte =
        let a = size-most text (slot_index i) in
        ap (λ (k : ℕ). byte_at (take m text) (i + 4 + k)) (size-taken (i + 4) (omega arith)) ∙ byte_taken (space_index text i) (omega arith)

    feed_byte : byte_at (take m text) (feed_index (take m text) i) ≡ byte_at text (feed_index text i)
    feed_byte =
        let a = feed_most text i in
        ap (λ (k : ℕ). byte_at (take m text) k) feed_taken ∙ byte_taken (feed_index text i) (omega arith)

    word_taken : has_word (take m text) i ≡ has_word text i
    word_taken =
        let a = byte_taken i (omega arith) in
        let b = byte_taken (i + 1) (omega arith) in
        let c = byte_taken (i + 2) (omega arith) in
        let d = byte_taken (i + 3) (omega arith) in
        rw (a, b, c, d)

    line_taken : is_cut_line (take m text) i ≡ is_cut_line text i
    line_taken =
        five word_taken (ap (ltb 0) (size-taken (i + 4) (omega arith))) (ap (λ (k : ℕ). eqb k 32) space_byte) (ap (ltb 0) link-size)
        (ap (λ (k : ℕ). eqb k 10) feed_byte)
      where
        five : {w w' x x' e e' l l' f f' : Bool} → w ≡ w' → x ≡ x' → e ≡ e' → l ≡ l' → f ≡ f' →
            (w && x && e && l && f) ≡ (w' && x' && e' && l' && f')
        five a b c d g = rw (a, b, c, d, g)

-- n lines need no more than 10 bytes each
pub cuts-taken : (text : List ℕ) (m n i : ℕ) → i + 10 * n ≤ m → cuts_from n (take m text) i ≡ cuts_from n text i
unfolding cuts_from
cuts-taken text m zero i h = refl
cuts-taken text m (suc n) i h =
    let near = feed_most text i in
    let end : feed_index (take m text) i + 1 ≡ feed_index text i + 1 = ap (λ (k : ℕ). k + 1) (feed_taken text m i (omega arith)) in
    let rest : cuts_from n (take m text) (feed_index (take m text) i + 1) ≡ cuts_from n text (feed_index text i + 1) =
    ap (λ (k : ℕ). cuts_from n (take m text) k) end ∙ cuts-taken text m n (feed_index text i + 1) (omega arith)
    in
    same (length_taken text m i (omega arith)) (line_taken text m i (omega arith)) (slot-value text m i (omega arith))
    (link-value text m i (omega arith)) rest
  where
    same : {t t' u u' : Bool} {s s' e e' : ℕ} {l l' : List ℕ} → t ≡ t' → u ≡ u' → s ≡ s' → e ≡ e' → l ≡ l' →
        cond t (cond u (s ∷ e ∷ l) (0 ∷ [])) [] ≡ cond t' (cond u' (s' ∷ e' ∷ l') (0 ∷ [])) []
    same a b c d f = rw (a, b, c, d, f)

-- Only the first lines of a text matter.

module _ (text : List ℕ) where
  -- fewer lines give the first pairs
  cuts_first : (n k i : ℕ) → take (2 * n) (cuts_from (n + k) text i) ≡ cuts_from n text i
  unfolding cuts_from
  cuts_first zero k i = refl
  cuts_first (suc n) k i =
      let e : suc n + k ≡ suc (n + k) = omega arith in
      let d : 2 * suc n ≡ suc (suc (2 * n)) = omega arith in
      rw (e, d)
      (by (ltb i (length text)) (is_cut_line text i) (number_at text (slot_index i)) (number_at text (link_index text i))
      (cuts_from (n + k) text (feed_index text i + 1)) (cuts_from n text (feed_index text i + 1)) (cuts_first n k (feed_index text i + 1)))
    where
      by : (t u : Bool) (s e : ℕ) (l r : List ℕ) → take (2 * n) l ≡ r →
          take (suc (suc (2 * n))) (cond t (cond u (s ∷ e ∷ l) (0 ∷ [])) []) ≡ cond t (cond u (s ∷ e ∷ r) (0 ∷ [])) []
      by true true s e l r p = rw p
      by true false s e l r p = refl
      by false u s e l r p = refl

  -- more lines than bytes give nothing more
  cuts-all : (n k i : ℕ) → length text ≤ i + n → cuts_from (n + k) text i ≡ cuts_from n text i
  unfolding cuts_from
  cuts-all zero k i h = cuts-end text (0 + k) i (omega arith)
  cuts-all (suc n) k i h =
      let e : suc n + k ≡ suc (n + k) = omega arith in
      let rest = cuts-all n k (feed_index text i + 1) (omega arith) in
      rw (e, rest)

  -- the cuts of 65 lines are the first 65 pairs
  cuts-some : cuts_from 65 text 0 ≡ take 130 (cuts_of text)
  cuts-some = by (ltb 65 (length text)) refl
    where
      by : (t : Bool) → ltb 65 (length text) ≡ t → cuts_from 65 text 0 ≡ take 130 (cuts_of text)
      by true e =
          let l = ltb-true 65 (length text) e in
          let n : length text ≡ 65 + (length text - 65) = omega arith in
          sym (cuts_first 65 (length text - 65) 0) ∙ ap (λ (k : ℕ). take 130 (cuts_from k text 0)) (sym n)
      by false e =
          let l = ltb-false 65 (length text) e in
          let n : 65 ≡ length text + (65 - length text) = omega arith in
          let most = cuts-most text (length text) 0 in
          ap (λ (k : ℕ). cuts_from k text 0) n ∙ cuts-all (length text) (65 - length text) 0 (omega arith) ∙
          sym (take_all 130 (cuts_of text) (omega arith))

-- what is found among the first numbers is found among more
seek-more : (test : ℕ → Bool) (n k i : ℕ) → seek test n i < i + n → seek test (n + k) i ≡ seek test n i
unfolding seek
seek-more test zero k i h = absurd (omega arith)
seek-more test (suc n) k i h =
    let e : suc n + k ≡ suc (n + k) = omega arith in
    rw e (by (test i) h (seek-more test n k (i + 1)))
  where
    by : (t : Bool) → cond t i (seek test n (i + 1)) < i + suc n →
        (seek test n (i + 1) < i + 1 + n → seek test (n + k) (i + 1) ≡ seek test n (i + 1)) →
        cond t i (seek test (n + k) (i + 1)) ≡ cond t i (seek test n (i + 1))
    by true h r = refl
    by false h r = r (omega arith)

-- pair j of a list of more than 65 pairs is bad as it is in the first 65
bad-front : (plan : Plan) (cuts : List ℕ) → 130 < length cuts → (j : ℕ) → j < 65 → bad_pair plan (take 130 cuts) j ≡ bad_pair plan cuts j
bad-front plan cuts many j h =
    let size = length-take-le 130 cuts (omega arith) in
    six (ne_eqb (length (take 130 cuts)) (2 * j + 1) (λ z. omega arith) ∙ sym (ne_eqb (length cuts) (2 * j + 1) (λ z. omega arith)))
    (ap (λ (k : ℕ). not (ltb k plan.timeout)) (slot j h))
    (ap (λ (k : ℕ). not (ltb k (length plan.links))) (link j h))
    falls-same
    (ap (λ (k : ℕ). ltb k j) (seek-same (λ x. eqb (cut_link (take 130 cuts) x) (cut_link (take 130 cuts) j))
    (λ x. eqb (cut_link cuts x) (cut_link cuts j)) j 0
    (λ x a b. ap (λ (k : ℕ). eqb k (cut_link (take 130 cuts) j)) (link x (omega arith)) ∙ ap (eqb (cut_link cuts x)) (link j h))))
    (ap (is_higher plan) (link j h))
  where
    slot : (i : ℕ) → i < 65 → cut_slot (take 130 cuts) i ≡ cut_slot cuts i
    slot i h = get_or-take 130 cuts (2 * i) 0 (omega arith)

    link : (i : ℕ) → i < 65 → cut_link (take 130 cuts) i ≡ cut_link cuts i
    link i h = get_or-take 130 cuts (2 * i + 1) 0 (omega arith)

    falls-same : falls (take 130 cuts) j ≡ falls cuts j
    falls-same = rw (slot j h, link j h, slot (j - 1) (omega arith), link (j - 1) (omega arith))

    six : {a a' b b' c c' d d' e e' f f' : Bool} → a ≡ a' → b ≡ b' → c ≡ c' → d ≡ d' → e ≡ e' → f ≡ f' →
        (a || b || c || d || e || f) ≡ (a' || b' || c' || d' || e' || f')
    six p q r s t u = rw (p, q, r, s, t, u)

refuses : (test : ℕ → Bool) (n j : ℕ) (after : Outcome) → lowest test n ≡ j → j < n → unless_some 12 test n after ≡ refuse 12 j
refuses test n j after e h = ap (λ (k : ℕ). cond (ltb k n) (refuse 12 k) after) e ∙ rw (lt-ltb j n h)

module _ (plan : Plan) (few : length plan.links ≤ 64) where
  -- among the first 65 pairs one is bad
  bad-some : (cuts : List ℕ) → lowest (bad_pair plan cuts) 65 < 65
  bad-some cuts = by (ltb (lowest (bad_pair plan cuts) 65) 65) refl
    where
      parts : (i : ℕ) → bad_pair plan cuts i ≡ false → (cut_link cuts i < length plan.links) ×
          (i ≤ lowest (λ j. eqb (cut_link cuts j) (cut_link cuts i)) i)
      parts i h =
          let p =
          none_of_six (eqb (length cuts) (2 * i + 1)) (not (ltb (cut_slot cuts i) plan.timeout))
          (not (ltb (cut_link cuts i) (length plan.links))) (falls cuts i) (some (λ j. eqb (cut_link cuts j) (cut_link cuts i)) i)
          (is_higher plan (cut_link cuts i)) h in (
            ltb-true (cut_link cuts i) (length plan.links) (not-false (ltb (cut_link cuts i) (length plan.links)) p.2),
            ltb-false (lowest (λ j. eqb (cut_link cuts j) (cut_link cuts i)) i) i p.4,
          )

      none : 65 ≤ lowest (bad_pair plan cuts) 65 → ⊥
      none l =
          let good : (i : ℕ) → i ≤ 64 → bad_pair plan cuts i ≡ false = λ i h. seek-low (bad_pair plan cuts) 65 0 i (omega arith) (omega arith) in
          pigeons 64 (cut_link cuts)
          (λ i h. let b = (parts i (good i h)).0 in omega arith)
          (λ i j g h.
          let b = (parts i (good i h)).1 in
          eqb-false (cut_link cuts j) (cut_link cuts i) (seek-low (λ x. eqb (cut_link cuts x) (cut_link cuts i)) i 0 j (omega arith) (omega arith)))

      by : (t : Bool) → ltb (lowest (bad_pair plan cuts) 65) 65 ≡ t → lowest (bad_pair plan cuts) 65 < 65
      by true e = ltb-true (lowest (bad_pair plan cuts) 65) 65 e
      by false e = absurd (none (ltb-false (lowest (bad_pair plan cuts) 65) 65 e))

  -- a list of more than 65 pairs is refused as its first 65 are
  many-refused : (cuts : List ℕ) → 130 < length cuts → check_cuts plan cuts ≡ refuse 12 (lowest (bad_pair plan (take 130 cuts)) 65)
  unfolding check_cuts
  many-refused cuts many =
      let k = pairs cuts - 65 in
      let n : pairs cuts ≡ 65 + (pairs cuts - 65) = omega arith in
      let front = bad-some (take 130 cuts) in
      let same : lowest (bad_pair plan cuts) 65 ≡ lowest (bad_pair plan (take 130 cuts)) 65 =
      seek-same (bad_pair plan cuts) (bad_pair plan (take 130 cuts)) 65 0 (λ j a b. sym (bad-front plan cuts many j (omega arith)))
      in
      let low : lowest (bad_pair plan cuts) (pairs cuts) ≡ lowest (bad_pair plan (take 130 cuts)) 65 =
      ap (λ (m : ℕ). lowest (bad_pair plan cuts) m) n ∙ seek-more (bad_pair plan cuts) 65 (pairs cuts - 65) 0 (omega arith) ∙ same
      in
      refuses (bad_pair plan cuts) (pairs cuts) _ (gives (pairs cuts)) low (omega arith)

  front-refused : (cuts : List ℕ) → 130 < length cuts → check_cuts plan (take 130 cuts) ≡ refuse 12 (lowest (bad_pair plan (take 130 cuts)) 65)
  unfolding check_cuts
  front-refused cuts many =
      let size = length-take-le 130 cuts (omega arith) in
      let n : pairs (take 130 cuts) ≡ 65 = omega arith in
      refuses (bad_pair plan (take 130 cuts)) (pairs (take 130 cuts)) _ (gives (pairs (take 130 cuts)))
      (ap (λ (m : ℕ). lowest (bad_pair plan (take 130 cuts)) m) n)
      (let low = bad-some (take 130 cuts) in omega arith)

  check_front : (cuts : List ℕ) → check_cuts plan (take 130 cuts) ≡ check_cuts plan cuts
  check_front cuts = by (ltb 130 (length cuts)) refl
    where
      by : (t : Bool) → ltb 130 (length cuts) ≡ t → check_cuts plan (take 130 cuts) ≡ check_cuts plan cuts
      by true e = let l = ltb-true 130 (length cuts) e in front-refused cuts l ∙ sym (many-refused cuts l)
      by false e = ap (check_cuts plan) (take_all 130 cuts (ltb-false 130 (length cuts) e))

  given_front : (cuts : List ℕ) (n : ℕ) → check_cuts plan cuts ≡ gives n → take 130 cuts ≡ cuts
  given_front cuts n g = by (ltb 130 (length cuts)) refl
    where
      by : (t : Bool) → ltb 130 (length cuts) ≡ t → take 130 cuts ≡ cuts
      by true e =
          not-both (sym (many-refused cuts (ltb-true 130 (length cuts) e)) ∙ g)
      by false e = take_all 130 cuts (ltb-false 130 (length cuts) e)

  -- the first 65 lines of the first 650 bytes or more are refused as the whole text is, and give the same cuts where it is not
  pub enough : (text : List ℕ) (m : ℕ) → 650 ≤ m → check_cuts plan (cuts_from 65 (take m text) 0) ≡ check_cuts plan (cuts_of text)
  enough text m h = ap (check_cuts plan) (cuts-taken text m 65 0 (omega arith) ∙ cuts-some text) ∙ check_front (cuts_of text)

  pub enough-cuts : (text : List ℕ) (m n : ℕ) → 650 ≤ m → check_cuts plan (cuts_of text) ≡ gives n → cuts_from 65 (take m text) 0 ≡ cuts_of text
  enough-cuts text m n h g = cuts-taken text m 65 0 (omega arith) ∙ cuts-some text ∙ given_front (cuts_of text) n g
