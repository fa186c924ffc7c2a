-- The numbers that a text adds, byte by byte, are the capture that its lines are.
use Prim.Native.Nat.{ℕ, zero, suc, ◌+◌, ◌-◌, ◌*◌, ◌≤◌, ◌<◌}
use mathlib.Core.Path.{◌≡◌, refl, sym, ◌∙◌, ap}
use mathlib.Core.Bool.{Bool, true, false, not, cond, ◌&&◌}
use mathlib.Core.List.{List, [], ◌∷◌}
use native.Mathlib.Omega.{arith}
use native.Mathlib.Numerals.{add-one}
use lib.ListN.{length, drop, length-drop, drop_of_length-le, get_or-eq_default}
use lib.Seq.{drop-cons, get_or-drop, drop-drop}
use lib.Dec.{ltb, eqb}
use borrow.Author.Tests.{ne_eqb, ltb-true, ltb-false, eqb-true}
use Rattle.scope.proofs.Bools.{and_left, and_right, not-true}
use Rattle.scope.specs.Lines.{byte_at, number_at, number_size, past_number, second_number, third_number, end_of_triple, is_triple_line}
use Rattle.scope.specs.Lines.{capture_from, capture_of}
use Rattle.text.specs.Reading.{goes_on, size_at, value_at}
use Rattle.text.proofs.Read.{run_along, number_stops, number_read, read_here}
use Rattle.cut_lines.proofs.Forms.{digit_low}
use Rattle.cut_lines.proofs.Meets.{Meets, none, cut_off, one, two, meets}
use Rattle.capture_lines.specs.Rest.{line_of, fresh, end_mark, line_after, adds, is_fresh, rest_of}
use Rattle.capture_lines.specs.declared.Line.{Line}
use Rattle.capture_lines.specs.declared.Step.TheVariants.{On, End, Out}

-- a line in the midst of a number
abbrev pub in_line : ℕ → ℕ → ℕ → Bool → ℕ → Line
in_line n a b begun v = record { numbers = n; begun = begun; value = v; older = a; newer = b }

-- what a line and the text behind it add once the number v has ended
abbrev pub after_number : ℕ → ℕ → ℕ → ℕ → List ℕ → List ℕ
after_number n a b v rest = cond (ltb n 2) (rest_of (line_of (n + 1) b v) rest) (a ∷ b ∷ v ∷ rest_of fresh rest)

-- a digit that goes on
pub digit_adds : (n a b : ℕ) (begun : Bool) (v c : ℕ) (s : List ℕ) → goes_on 63 begun v c ≡ true →
    rest_of (in_line n a b begun v) (c ∷ s) ≡ rest_of (in_line n a b true (v * 10 + (c - 48))) s
unfolding rest_of
digit_adds n a b begun v c s g = rw g

-- another byte ends the number, or the line is out of form
pub other-adds : (n a b : ℕ) (begun : Bool) (v c : ℕ) (s : List ℕ) → goes_on 63 begun v c ≡ false →
    rest_of (in_line n a b begun v) (c ∷ s) ≡ cond (begun && eqb c (end_mark n)) (after_number n a b v s) (0 ∷ [])
unfolding rest_of
other-adds n a b begun v c s g = rw g (by (begun && eqb c (end_mark n)) (ltb n 2))
  where
    by : (t u : Bool) →
        adds (cond t (cond u (On (line_of (n + 1) b v)) End) Out) (in_line n a b begun v)
        (rest_of (line_after (cond t (cond u (On (line_of (n + 1) b v)) End) Out)) s) ≡
        cond t (cond u (rest_of (line_of (n + 1) b v) s) (a ∷ b ∷ v ∷ rest_of fresh s)) (0 ∷ [])
    by true true = refl
    by true false = refl
    by false u = refl

-- at the end of a text
end-adds : (n a b : ℕ) (begun : Bool) (v : ℕ) → (is_fresh (in_line n a b begun v) ≡ true → ⊥) → rest_of (in_line n a b begun v) [] ≡ 0 ∷ []
unfolding rest_of
end-adds n a b begun v h = by (is_fresh (in_line n a b begun v)) refl
  where
    by : (t : Bool) → is_fresh (in_line n a b begun v) ≡ t → ◌≡◌ {A = List ℕ} (cond t [] (0 ∷ [])) (0 ∷ [])
    by true e = absurd (h e)
    by false e = refl

no_mark : (n : ℕ) → eqb 0 (end_mark n) ≡ false
no_mark n = by (ltb n 2)
  where
    by : (t : Bool) → eqb 0 (cond t 32 10) ≡ false
    by true = refl
    by false = refl

digit_no_mark : (n c : ℕ) → 48 ≤ c → eqb c (end_mark n) ≡ false
digit_no_mark n c h = by (ltb n 2)
  where
    by : (t : Bool) → eqb c (cond t 32 10) ≡ false
    by true = ne_eqb c 32 (λ e. omega arith)
    by false = ne_eqb c 10 (λ e. omega arith)

and_no : (t : Bool) → (t && false) ≡ false
and_no true = refl
and_no false = refl

module _ (text : List ℕ) (n a b : ℕ) where
  -- where a number has ended, at index j
  stops : (begun : Bool) (v j : ℕ) → (j < length text → goes_on 63 begun v (byte_at text j) ≡ false) →
      (is_fresh (in_line n a b begun v) ≡ true → j < length text) →
      rest_of (in_line n a b begun v) (drop j text) ≡
      cond (begun && eqb (byte_at text j) (end_mark n)) (after_number n a b v (drop (j + 1) text)) (0 ∷ [])
  stops begun v j g f = by (ltb j (length text)) refl
    where
      by : (t : Bool) → ltb j (length text) ≡ t →
          rest_of (in_line n a b begun v) (drop j text) ≡
          cond (begun && eqb (byte_at text j) (end_mark n)) (after_number n a b v (drop (j + 1) text)) (0 ∷ [])
      by true e =
          let h = ltb-true j (length text) e in
          let cons : drop j text ≡ byte_at text j ∷ drop (j + 1) text = rw (add-one, drop-cons text j 0) in
          ap (rest_of (in_line n a b begun v)) cons ∙ other-adds n a b begun v (byte_at text j) (drop (j + 1) text) (g h)
      by false e =
          let h = ltb-false j (length text) e in
          let z : byte_at text j ≡ 0 = get_or-eq_default text 0 h in
          ap (rest_of (in_line n a b begun v)) (drop_of_length-le text h)
          ∙ end-adds n a b begun v (λ p. let q = f p in omega arith)
          ∙ rw (z, no_mark n, and_no begun)

  -- a number stands at index i, and the byte behind it that ends it
  abbrev is_number : ℕ → Bool
  is_number i = ltb 0 (number_size text i) && eqb (byte_at text (past_number text i)) (end_mark n)

  abbrev read : ℕ → List ℕ
  read i =
      cond (ltb 0 (size_at 63 text i) && eqb (byte_at text (i + size_at 63 text i)) (end_mark n))
      (after_number n a b (value_at 63 text i) (drop (i + size_at 63 text i + 1) text)) (0 ∷ [])

  read-adds : (i : ℕ) → (n ≡ 0 → i < length text) → rest_of (line_of n a b) (drop i text) ≡ read i
  read-adds i f =
      let s = size_at 63 text i in
      let v = value_at 63 text i in
      let d = length-drop i text in
      run_along 63 (λ begun w t. rest_of (in_line n a b begun w) t) (digit_adds n a b) false 0 (drop i text)
      ∙ ap (rest_of (in_line n a b (ltb 0 s) v)) (drop-drop s i text)
      ∙ stops (ltb 0 s) v (i + s)
      (λ h. rw (← get_or-drop i text s 0) (number_stops 63 false 0 (drop i text) (omega arith)))
      (λ p.
      let z : n ≡ 0 = eqb-true n 0 (and_left (eqb n 0) (not (ltb 0 s)) p) in
      let none : s ≤ 0 = ltb-false 0 s (not-true (ltb 0 s) (and_right (eqb n 0) (not (ltb 0 s)) p)) in
      let h = f z in
      omega arith)

  number_is : (i : ℕ) → Meets text i (number_read 63 text i) →
      read i ≡ cond (is_number i) (after_number n a b (number_at text i) (drop (past_number text i + 1) text)) (0 ∷ [])
  number_is i (none s e) =
      let z : size_at 63 text i ≡ 0 = omega arith in
      rw (z, s)
  number_is i (cut_off s e d) =
      let z : size_at 63 text i ≡ 1 = omega arith in
      rw (z, s, digit_no_mark n (byte_at text (i + 1)) (digit_low (byte_at text (i + 1)) d))
  number_is i (one s e v d) =
      let z : size_at 63 text i ≡ 1 = omega arith in
      rw (z, s, v)
  number_is i (two s e v) =
      let z : size_at 63 text i ≡ 2 = omega arith in
      rw (z, s, v)

  pub number-adds : (i : ℕ) → (n ≡ 0 → i < length text) →
      rest_of (line_of n a b) (drop i text) ≡
      cond (is_number i) (after_number n a b (number_at text i) (drop (past_number text i + 1) text)) (0 ∷ [])
  number-adds i f = read-adds i f ∙ number_is i (meets text i (number_read 63 text i) (read_here 63 text i))

-- the tests of a line, three by three
six : (t u v w x y : Bool) (p q : List ℕ) → cond (t && u) (cond (v && w) (cond (x && y) p q) q) q ≡ cond (t && u && v && w && x && y) p q
six true true true true true true p q = refl
six true true true true true false p q = refl
six true true true true false y p q = refl
six true true true false x y p q = refl
six true true false w x y p q = refl
six true false v w x y p q = refl
six false u v w x y p q = refl

module _ (text : List ℕ) where
  -- a line that begins at index i
  line-adds : (i : ℕ) → i < length text →
      rest_of fresh (drop i text) ≡
      cond (is_triple_line text i)
      (number_at text i ∷ number_at text (second_number text i) ∷ number_at text (third_number text i) ∷
      rest_of fresh (drop (end_of_triple text i + 1) text)) (0 ∷ [])
  line-adds i h =
      let j = second_number text i in
      let k = third_number text i in
      let one = number-adds text 0 0 0 i (λ e. h) in
      let two = number-adds text 1 0 (number_at text i) j (λ e. absurd (omega arith)) in
      let three = number-adds text 2 (number_at text i) (number_at text j) k (λ e. absurd (omega arith)) in
      one ∙ ap (λ (s : List ℕ). cond (is_number text 0 0 0 i) s (0 ∷ []))
      (two ∙ ap (λ (s : List ℕ). cond (is_number text 1 0 (number_at text i) j) s (0 ∷ [])) three)
      ∙ six (ltb 0 (number_size text i)) (eqb (byte_at text (past_number text i)) 32) (ltb 0 (number_size text j))
      (eqb (byte_at text (past_number text j)) 32) (ltb 0 (number_size text k)) (eqb (byte_at text (end_of_triple text i)) 10) _ (0 ∷ [])

  end_fresh : rest_of fresh [] ≡ []
  unfolding rest_of
  end_fresh = refl

  -- all lines from index i on
  lines_add : (n i : ℕ) → length text ≤ i + n → capture_from n text i ≡ rest_of fresh (drop i text)
  unfolding capture_from
  lines_add zero i h = sym (ap (rest_of fresh) (drop_of_length-le text (let z : length text ≤ i = omega arith in z)) ∙ end_fresh)
  lines_add (suc n) i h = by (ltb i (length text)) refl (lines_add n (end_of_triple text i + 1))
    where
      by : (t : Bool) → ltb i (length text) ≡ t → (length text ≤ end_of_triple text i + 1 + n →
          capture_from n text (end_of_triple text i + 1) ≡ rest_of fresh (drop (end_of_triple text i + 1) text)) →
          capture_from (suc n) text i ≡ rest_of fresh (drop i text)
      by true e rest =
          let more : capture_from n text (end_of_triple text i + 1) ≡ rest_of fresh (drop (end_of_triple text i + 1) text) = rest (omega arith) in
          rw (e, more) (sym (line-adds i (ltb-true i (length text) e)))
      by false e rest = rw e (sym (ap (rest_of fresh) (drop_of_length-le text (ltb-false i (length text) e)) ∙ end_fresh))

-- the capture of a text is what it adds
pub capture_adds : (text : List ℕ) → capture_of text ≡ rest_of fresh text
capture_adds text = lines_add text (length text) 0 (omega arith)
