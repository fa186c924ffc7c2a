-- Laws of the cuts of a text: the end, a line, a line of another form; and how a loop writes them.
use Prim.Native.Nat.{ℕ, zero, suc, ◌+◌, ◌*◌, ◌/◌, ◌≤◌, ◌<◌}
use mathlib.Core.Path.{◌≡◌, refl, sym, ◌∙◌, ap}
use mathlib.Core.Bool.{Bool, true, false, cond}
use mathlib.Core.List.{List, [], ◌∷◌, ◌++◌}
use native.Mathlib.Omega.{arith}
use lib.ListN.{length, set, drop}
use lib.Dec.{ltb}
use borrow.Author.Tests.{lt-ltb, le-ltb}
use Rattle.scope.specs.Lines.{is_cut_line, cuts_from, number_at, slot_index, link_index, feed_index}
use Rattle.text.specs.Text.{laid, Puts}
use Rattle.text.proofs.Laid.{laid-front}
use Rattle.cut_lines.specs.Reads.{Cuts}

module _ (t u : Bool) (x y z : List ℕ) where
  picked : t ≡ true → u ≡ true → cond t (cond u x y) z ≡ x
  picked p q = rw (p, q)

  passed : t ≡ true → u ≡ false → cond t (cond u x y) z ≡ y
  passed p q = rw (p, q)

module _ (text : List ℕ) where
  pub cuts-none : (n i : ℕ) → n ≡ 0 → cuts_from n text i ≡ []
  unfolding cuts_from
  cuts-none n i e = rw e

  pub cuts-end : (n i : ℕ) → length text ≤ i → cuts_from n text i ≡ []
  unfolding cuts_from
  cuts-end zero i h = refl
  cuts-end (suc n) i h = rw (le-ltb i (length text) h)

  -- at a line, where n lines may follow with it
  module _ (n i : ℕ) (h : i < length text) where
    pub cuts-line : is_cut_line text i ≡ true →
        cuts_from (suc n) text i ≡ (number_at text (slot_index i) ∷ number_at text (link_index text i) ∷ cuts_from n text (feed_index text i + 1))
    unfolding cuts_from
    cuts-line e = picked (ltb i (length text)) (is_cut_line text i) _ (0 ∷ []) [] (lt-ltb i (length text) h) e

    pub cuts-bad : is_cut_line text i ≡ false → cuts_from (suc n) text i ≡ 0 ∷ []
    unfolding cuts_from
    cuts-bad e = passed (ltb i (length text)) (is_cut_line text i)
        (number_at text (slot_index i) ∷ number_at text (link_index text i) ∷ cuts_from n text (feed_index text i + 1)) (0 ∷ []) []
        (lt-ltb i (length text) h) e

  -- n lines give at most n pairs
  pub cuts-most : (n i : ℕ) → length (cuts_from n text i) ≤ 2 * n
  unfolding cuts_from
  cuts-most zero i = omega arith
  cuts-most (suc n) i = by (ltb i (length text)) (is_cut_line text i) (cuts-most n (feed_index text i + 1))
    where
      by : (t u : Bool) → length (cuts_from n text (feed_index text i + 1)) ≤ 2 * n →
          length (cond t (cond u (number_at text (slot_index i) ∷ number_at text (link_index text i) ∷ cuts_from n text (feed_index text i + 1))
          (0 ∷ [])) []) ≤ 2 * suc n
      by true true r = omega arith
      by true false r = omega arith
      by false u r = omega arith

  -- a loop that has n lines left, at index i, and m lines behind that one
  module _ (n m i : ℕ) where
    pub line-more : (j s e : ℕ) → n ≡ suc m → i < length text → is_cut_line text i ≡ true → j ≡ feed_index text i + 1 →
        s ≡ number_at text (slot_index i) → e ≡ number_at text (link_index text i) →
        cuts_from n text i ≡ (s ∷ e ∷ []) ++ cuts_from m text j
    line-more j s e g h t p q r = ap (λ (k : ℕ). cuts_from k text i) g ∙ cuts-line m i h t ∙ rw (p, q, r)

    pub line-bad : n ≡ suc m → i < length text → is_cut_line text i ≡ false → cuts_from n text i ≡ (0 ∷ []) ++ []
    line-bad g h t = ap (λ (k : ℕ). cuts_from k text i) g ∙ cuts-bad m i h t

-- a number and a pair, stored
pub puts_two : (b : List ℕ) (n x y : ℕ) → Puts (x ∷ y ∷ []) b (set (set b n x) (n + 1) y) n (n + 2)
unfolding laid
puts_two b n x y = record { buffer = refl; ends = refl }

-- all lines are done
pub cuts-done : {text entry exit : List ℕ} {r : ℕ} → Puts (cuts_from (length entry / 2) text 0) entry exit 0 r → Cuts text entry exit r
cuts-done {text} {entry} {exit} {r} p =
    let most = cuts-most text (length entry / 2) 0 in
    let e : r ≡ length (cuts_from (length entry / 2) text 0) = let q = p.ends in omega arith in
    record {
      count = e;
      buffer = p.buffer ∙ laid-front entry (cuts_from (length entry / 2) text 0) (omega arith) ∙ rw (← e);
    }

-- two outcomes that the statement allows are equal
pub cuts-only : {text entry exit exit' : List ℕ} {r r' : ℕ} → Cuts text entry exit r → Cuts text entry exit' r' → (r ≡ r') × (exit ≡ exit')
cuts-only {text} {entry} p q =
    let e = p.count ∙ sym q.count in
    (e, p.buffer ∙ ap (λ (n : ℕ). cuts_from (length entry / 2) text 0 ++ drop n entry) e ∙ sym q.buffer)
