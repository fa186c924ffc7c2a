-- Laws of the forms of a number and of a word: one for each way in which the code tells them.
use Prim.Native.Nat.{ℕ, ◌+◌, ◌-◌, ◌*◌, ◌≤◌, ◌<◌}
use mathlib.Core.Path.{◌≡◌, refl, sym, ◌∙◌, ap}
use mathlib.Core.Bool.{Bool, true, false, cond, ◌&&◌}
use mathlib.Core.List.{List}
use native.Mathlib.Omega.{arith}
use lib.Dec.{ltb, leb, eqb}
use borrow.Author.Tests.{lt-ltb, le-ltb, le-leb, lt-leb, eq-eqb, ne_eqb, leb-true}
use Rattle.scope.specs.Lines.{byte_at, is_digit, number_size, has_word, cut_word, is_cut_line, slot_index, space_index, link_index, feed_index}
use Rattle.text.specs.Reading.{stands}

-- the size and the value of a number whose bytes are a and b
abbrev pub size_of : ℕ → ℕ → ℕ
size_of a b = cond (is_digit a) (cond (is_digit b) (cond (ltb 48 a && leb ((a - 48) * 10 + (b - 48)) 63) 2 0) 1) 0

abbrev pub value_of : ℕ → ℕ → ℕ
value_of a b = cond (is_digit b) ((a - 48) * 10 + (b - 48)) (a - 48)

pub digit_low : (a : ℕ) → is_digit a ≡ true → 48 ≤ a
digit_low a e = by (leb 48 a) refl e
  where
    by : (t : Bool) → leb 48 a ≡ t → t && leb a 57 ≡ true → 48 ≤ a
    by true p q = leb-true 48 a p
    by false p q = let z : ◌≡◌ {A = ℕ} 0 1 = cc in omega arith

pub digit_high : (a : ℕ) → is_digit a ≡ true → a ≤ 57
digit_high a e = by (leb 48 a) refl e
  where
    by : (t : Bool) → leb 48 a ≡ t → t && leb a 57 ≡ true → a ≤ 57
    by true p q = leb-true a 57 q
    by false p q = let z : ◌≡◌ {A = ℕ} 0 1 = cc in omega arith

module _ (a b : ℕ) where
  pub size_none : is_digit a ≡ false → size_of a b ≡ 0
  size_none e = rw e

  pub size_one : is_digit a ≡ true → is_digit b ≡ false → size_of a b ≡ 1
  size_one e f = rw (e, f)

  -- a needless zero
  pub size_zero : is_digit b ≡ true → a ≡ 48 → size_of a b ≡ 0
  size_zero f h = rw (h, f)

  -- above 63
  pub size_large : is_digit a ≡ true → is_digit b ≡ true → 63 < (a - 48) * 10 + (b - 48) → size_of a b ≡ 0
  size_large e f h = by (ltb 48 a)
    where
      by : (t : Bool) → ◌≡◌ {A = ℕ} (cond (is_digit a) (cond (is_digit b) (cond (t && leb ((a - 48) * 10 + (b - 48)) 63) 2 0) 1) 0) 0
      by true = rw (e, f, lt-leb ((a - 48) * 10 + (b - 48)) 63 h)
      by false = rw (e, f)

  pub size_two : is_digit a ≡ true → is_digit b ≡ true → 48 < a → (a - 48) * 10 + (b - 48) ≤ 63 → size_of a b ≡ 2
  size_two e f h g = rw (e, f, lt-ltb 48 a h, le-leb ((a - 48) * 10 + (b - 48)) 63 g)

  pub value_one : is_digit b ≡ false → value_of a b ≡ a - 48
  value_one e = rw e

  pub value_two : is_digit b ≡ true → value_of a b ≡ (a - 48) * 10 + (b - 48)
  value_two e = rw e

pub stands-cut : (text : List ℕ) (i : ℕ) → stands text i cut_word ≡ has_word text i
unfolding stands
stands-cut text i =
    let e : i + 1 + 1 ≡ i + 2 = omega arith in
    let f : i + 2 + 1 ≡ i + 3 = omega arith in
    rw (e, f) (same (eqb (byte_at text i) 99) (eqb (byte_at text (i + 1)) 117) (eqb (byte_at text (i + 2)) 116) (eqb (byte_at text (i + 3)) 32))
  where
    same : (a b c d : Bool) → (a && (b && (c && (d && true)))) ≡ (a && b && c && d)
    same true true true true = refl
    same true true true false = refl
    same true true false d = refl
    same true false c d = refl
    same false b c d = refl

-- a chain of tests
and-false : (a b : Bool) → a ≡ false → (a && b) ≡ false
and-false a b e = rw e

and_not : (a b : Bool) → b ≡ false → (a && b) ≡ false
and_not true b e = e
and_not false b e = refl

module _ (w x e l f : Bool) where
  five_1 : w ≡ false → (w && x && e && l && f) ≡ false
  five_1 h = and-false (w && x && e && l) f (and-false (w && x && e) l (and-false (w && x) e (and-false w x h)))

  five_2 : x ≡ false → (w && x && e && l && f) ≡ false
  five_2 h = and-false (w && x && e && l) f (and-false (w && x && e) l (and-false (w && x) e (and_not w x h)))

  five_3 : e ≡ false → (w && x && e && l && f) ≡ false
  five_3 h = and-false (w && x && e && l) f (and-false (w && x && e) l (and_not (w && x) e h))

  five_4 : l ≡ false → (w && x && e && l && f) ≡ false
  five_4 h = and-false (w && x && e && l) f (and_not (w && x && e) l h)

  five_5 : f ≡ false → (w && x && e && l && f) ≡ false
  five_5 h = and_not (w && x && e && l) f h

  five_all : w ≡ true → x ≡ true → e ≡ true → l ≡ true → f ≡ true → (w && x && e && l && f) ≡ true
  five_all p q r t u = rw (p, q, r, t, u)

-- the tests of a cut line, with the sizes and bytes that were read
module _ (text : List ℕ) (i : ℕ) where
  abbrev slot : Bool
  slot = ltb 0 (number_size text (slot_index i))

  abbrev space : Bool
  space = eqb (byte_at text (space_index text i)) 32

  abbrev link : Bool
  link = ltb 0 (number_size text (link_index text i))

  abbrev feed : Bool
  feed = eqb (byte_at text (feed_index text i)) 10

  pub no_word : has_word text i ≡ false → is_cut_line text i ≡ false
  no_word h = five_1 (has_word text i) slot space link feed h

  pub no_slot : number_size text (i + 4) ≡ 0 → is_cut_line text i ≡ false
  no_slot h = five_2 (has_word text i) slot space link feed (le-ltb 0 (number_size text (i + 4)) (omega arith))

  module _ (n : ℕ) (p : n ≡ space_index text i) where
    link-is : n + 1 ≡ link_index text i
    link-is = ap (◌+ 1) p

    pub no_space : (s : ℕ) → s ≡ byte_at text n → (s ≡ 32 → ⊥) → is_cut_line text i ≡ false
    no_space s q not =
        let h : s ≡ byte_at text (space_index text i) = q ∙ ap (byte_at text) p in
        five_3 (has_word text i) slot space link feed (ne_eqb (byte_at text (space_index text i)) 32 (λ e. not (h ∙ e)))

    pub no_link_lem : number_size text (n + 1) ≡ 0 → is_cut_line text i ≡ false
    no_link_lem h =
        let z : number_size text (link_index text i) ≡ 0 = rw link-is at h in
        five_4 (has_word text i) slot space link feed (le-ltb 0 (number_size text (link_index text i)) (omega arith))

    module _ (m : ℕ) (q : m ≡ n + 1 + number_size text (n + 1)) where
      pub feed_is : m ≡ feed_index text i
      feed_is = q ∙ ap (λ (k : ℕ). k + number_size text k) link-is

      pub no_feed : (f : ℕ) → f ≡ byte_at text m → (f ≡ 10 → ⊥) → is_cut_line text i ≡ false
      no_feed f r not =
          let h : f ≡ byte_at text (feed_index text i) = r ∙ ap (byte_at text) feed_is in
          five_5 (has_word text i) slot space link feed (ne_eqb (byte_at text (feed_index text i)) 10 (λ e. not (h ∙ e)))

      pub is-line : has_word text i ≡ true → 0 < number_size text (i + 4) → byte_at text n ≡ 32 → 0 < number_size text (n + 1) →
          byte_at text m ≡ 10 → is_cut_line text i ≡ true
      is-line w one s two e =
          five_all (has_word text i) slot space link feed w
          (lt-ltb 0 (number_size text (i + 4)) one)
          (eq-eqb (byte_at text (space_index text i)) 32 (sym (ap (byte_at text) p) ∙ s))
          (lt-ltb 0 (number_size text (link_index text i)) (rw link-is at two))
          (eq-eqb (byte_at text (feed_index text i)) 10 (sym (ap (byte_at text) feed_is) ∙ e))
