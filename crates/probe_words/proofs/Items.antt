-- Laws of things that stand one after another in a line, as a loop reads them.
use Rattle.std.proofs.Common.{◌≡◌, ℕ, zero, suc, ◌+◌, ◌-◌, ◌≤◌, ◌<◌, Bool, true, false, cond, ◌&&◌, ◌||◌, ltb, List, [], ◌∷◌, ◌++◌, Some, None, Ok, Err, length, get_or, drop, set, refl, sym, ap, ◌∙◌, arith, lt-ltb, le-ltb, le-leb, leb, eqb, ◌≢◌, drop-cons, length-drop, add-one, inl, inr}
use Rattle.std.proofs.lemmas.Bool.{cases_lt, lt-leb, ne_eqb}
use Rattle.std.proofs.lemmas.List.{get_or_past}
use lib.Seq.{paste}
use Rattle.std.specs.Bool.{then_some}
use Rattle.std.specs.Option.{ok_or}
use Rattle.std.proofs.lemmas.List.Edits.{paste_none, paste_more, paste_all}
use Rattle.scope.specs.Lines.{byte_at}
use Rattle.text.specs.Text.{Puts}
use Rattle.text.proofs.Laid.{laid-front}
use Rattle.probe_words.specs.Words.{hex_of, items, items_end, found, Lists, Numbers, Bytes, are_all, is_bytes, number_value, number_next, pair_value, pair_next}

-- A loop that has read n of them into a buffer b, which has become c, and stands at index i.
pub record Listing {A : Type 0} (value : ℕ → A) (next : ℕ → ℕ) (at : ℕ) (b c : List A) (i n : ℕ) : Type 0 where
  pub buffer : c ≡ paste b 0 (items value next (length b) at) n
  pub rest : drop n (items value next (length b) at) ≡ items value next (length b - n) i
  pub end : items_end next (length b - n) i ≡ items_end next (length b) at
  pub few : n ≤ length b
  pub done : n ≤ length (items value next (length b) at)

module _ {A : Type 0} (value : ℕ → A) (next : ℕ → ℕ) where
  room-none : (i : ℕ) → items value next 0 i ≡ []
  unfolding items
  room-none i = refl

  end_none : (i : ℕ) → items_end next 0 i ≡ i
  unfolding items_end
  end_none i = refl

  item_more : (room i : ℕ) → i < next i → items value next (suc room) i ≡ value i ∷ items value next room (next i)
  unfolding items
  item_more room i h = rw (lt-ltb i (next i) h)

  end_more : (room i : ℕ) → i < next i → items_end next (suc room) i ≡ items_end next room (next i)
  unfolding items_end
  end_more room i h = rw (lt-ltb i (next i) h)

  item_none : (room i : ℕ) → next i ≤ i → items value next (suc room) i ≡ []
  unfolding items
  item_none room i h = rw (le-ltb i (next i) h)

  end-here : (room i : ℕ) → next i ≤ i → items_end next (suc room) i ≡ i
  unfolding items_end
  end-here room i h = rw (le-ltb i (next i) h)

  -- there are no more than there is room for
  few-items : (room i : ℕ) → length (items value next room i) ≤ room
  few-items zero i = let e = ap length (room-none i) in omega arith
  few-items (suc room) i =
      elim (cases_lt i (next i)) [
        | inl h ↦ let e = ap length (item_more room i h) in let l = few-items room (next i) in omega arith
        | inr h ↦ let e = ap length (item_none room i h) in omega arith
      ]

  -- where the first is none
  pub end_still : (room i : ℕ) → next i ≤ i → items_end next room i ≡ i
  end_still zero i h = end_none i
  end_still (suc room) i h = end-here room i h

-- what a list has from an index on, by what it has there
rest-more : {A : Type 0} (s t : List A) (n : ℕ) (x : A) → drop n s ≡ x ∷ t → (n < length s) × (get_or s n x ≡ x) × (drop (n + 1) s ≡ t)
rest-more s t n x e =
    let l = ap length e in
    let m = length-drop n s in
    let h : n < length s = omega arith in
    let d = drop-cons s n x h in
    (h, (cc), rw add-one (cc))

rest-none : {A : Type 0} (s : List A) (n : ℕ) → drop n s ≡ [] → length s ≤ n
rest-none s n e = let l = ap length e in let m = length-drop n s in omega arith

module _ {A : Type 0} (value : ℕ → A) (next : ℕ → ℕ) (at : ℕ) (b : List A) where
  pub listing-first : Listing value next at b b at 0
  listing-first = record { buffer = paste_none b 0 (items value next (length b) at); rest = grind arith; end = grind arith; few = omega arith; done = omega arith }

  module _ (c : List A) (i n : ℕ) (l : Listing value next at b c i n) where
    pub listing-more : n < length b → i < next i → Listing value next at b (set c n (value i)) (next i) (n + 1)
    listing-more h g =
        let e : length b - n ≡ suc (length b - (n + 1)) = omega arith in
        let more = l.rest ∙ ap (λ (k : ℕ). items value next k i) e ∙ item_more value next (length b - (n + 1)) i g in
        let m = rest-more (items value next (length b) at) (items value next (length b - (n + 1)) (next i)) n (value i) more in
        let z : 0 + n ≡ n = omega arith in
        let all : List A = items value next (length b) at in
        let put = ap (λ (k : ℕ). set (paste b 0 all n) k (get_or all n (value i))) (sym z) ∙ paste_more b 0 all n (value i) (omega arith) m.0 in
        record {
          buffer = rw l.buffer (ap (set (paste b 0 (items value next (length b) at) n) n) (sym m.1) ∙ put);
          rest = m.2;
          end = sym (end_more value next (length b - (n + 1)) i g) ∙ ap (λ (k : ℕ). items_end next k i) (sym e) ∙ l.end;
          few = omega arith;
          done = omega arith;
        }

    -- there are no more of them
    stands : items value next (length b - n) i ≡ [] → items_end next (length b - n) i ≡ i → Lists value next at b c (n, i)
    stands none here =
        let all = few-items value next (length b) at in
        let m = rest-none (items value next (length b) at) n (l.rest ∙ none) in
        let d = l.done in
        let e : n ≡ length (items value next (length b) at) = omega arith in
        let z : 0 + n ≡ n = omega arith in
        record {
          buffer = l.buffer ∙ paste_all b 0 (items value next (length b) at) n e ∙ ap (λ (k : ℕ). items value next (length b) at ++ drop k b) z;
          count = e;
          end = sym here ∙ l.end;
          few = l.few;
        }

    pub listing_none : n < length b → next i ≤ i → Lists value next at b c (n, i)
    listing_none h g =
        let e : length b - n ≡ suc (length b - (n + 1)) = omega arith in
        stands (ap (λ (k : ℕ). items value next k i) e ∙ item_none value next (length b - (n + 1)) i g) (end_still value next (length b - n) i g)

    pub listing_full : length c ≡ length b → length b ≤ n → Lists value next at b c (length c, i)
    listing_full same h =
        let e : length b - n ≡ 0 = omega arith in
        let s = stands (ap (λ (k : ℕ). items value next k i) e ∙ room-none value next i) (ap (λ (k : ℕ). items_end next k i) e ∙ end_none value next i) in
        let all : n ≡ length c = let f = l.few in omega arith in
        rw all at s

-- they are laid over the front of the buffer
pub laid_items : (value next : ℕ → ℕ) (at : ℕ) (b c : List ℕ) (n end : ℕ) → Lists value next at b c (n, end) →
    Puts (items value next (length b) at) b c 0 (length (items value next (length b) at))
laid_items value next at b c n end l =
    let all : List ℕ = items value next (length b) at in
    let count = l.count in
    let few = l.few in
    record { buffer = l.buffer ∙ ap (λ (k : ℕ). all ++ drop k b) count ∙ sym (laid-front b all (omega arith)); ends = omega arith }

-- the numbers of a whole line, or none
module _ (line : List ℕ) (at : ℕ) (b c : List ℕ) (n end : ℕ) (l : Lists (number_value line) (number_next line) at b c (n, end)) where
  pub numbers-good : length line ≤ end → Numbers line at b c n
  numbers-good h =
      let whole : are_all (length b) line at ≡ true = rw (← l.end) (le-leb (length line) end h) in
      record { buffer = laid_items (number_value line) (number_next line) at b c n end l; count = l.count ∙ sym (rw whole); few = l.few }

  pub numbers-bad : end < length line → Numbers line at b c 0
  numbers-bad h =
      let whole : are_all (length b) line at ≡ false = rw (← l.end) (lt-leb (length line) end h) in
      record { buffer = laid_items (number_value line) (number_next line) at b c n end l; count = sym (rw whole); few = omega arith }

-- the bytes of a whole word, or none
module _ (word b c : List ℕ) (n end : ℕ) (l : Lists (pair_value word) (pair_next word) 0 b c (n, end)) where
  pub bytes_by : (t : Bool) → t ≡ is_bytes (length b) word → Bytes word b c (ok_or (then_some t n) n)
  bytes_by t e =
      let count = l.count in
      let few = l.few in
      record { buffer = laid_items (pair_value word) (pair_next word) 0 b c n end l; count = rw (← e) (by t count); few = omega arith }
    where
      by : {m : ℕ} (t : Bool) → n ≡ m → ok_or (then_some t n) n ≡ cond t (Ok m) (Err m)
      by true p = ap Ok p
      by false p = ap Err p

-- whether a word is bytes, by its length
module _ (room : ℕ) (word : List ℕ) where
  pub whole_none : length word ≡ 0 → is_bytes room word ≡ false
  whole_none e = rw e

  pub whole_one : length word ≡ 1 → is_bytes room word ≡ eqb (byte_at word 0) 45
  whole_one e =
      let past : byte_at word 1 ≡ 0 = get_or_past word 1 0 (omega arith) in
      let still : items_end (pair_next word) room 0 ≡ 0 = end_still (pair_value word) (pair_next word) room 0 (rw (past, and-false (ltb (hex_of (byte_at word 0)) 16)) (omega arith)) in
      rw (e, still) (or-false (eqb (byte_at word 0) 45))
    where
      or-false : (t : Bool) → (t || false) ≡ t
      or-false true = refl
      or-false false = refl

      and-false : (t : Bool) → (t && false) ≡ false
      and-false true = refl
      and-false false = refl

  pub whole_more : (end : ℕ) → end ≡ items_end (pair_next word) room 0 → length word ≢ 0 → length word ≢ 1 → is_bytes room word ≡ leb (length word) end
  whole_more end e n m = rw (ne_eqb (length word) 1 m, lt-ltb 0 (length word) (omega arith), ← e)

-- what a call says
module _ {A : Type 0} (value : ℕ → A) (next : ℕ → ℕ) (i : ℕ) where
  pub found_none : None ≡ found value next i → next i ≤ i
  found_none e = elim (cases_lt i (next i)) [
    | inl h ↦ let f : found value next i ≡ Some (value i, next i) = rw (lt-ltb i (next i) h) in absurd (cc)
    | inr h ↦ h
  ]

  pub found_some : (p : A × ℕ) → Some p ≡ found value next i → (i < next i) × (p.0 ≡ value i) × (p.1 ≡ next i)
  found_some p e = elim (cases_lt i (next i)) [
    | inl h ↦ let f : found value next i ≡ Some (value i, next i) = rw (lt-ltb i (next i) h) in
        let q : p ≡ (value i, next i) = cc in
        (h, ap (λ (p : A × ℕ). p.0) q, ap (λ (p : A × ℕ). p.1) q)
    | inr h ↦ let f : found value next i ≡ None = rw (le-ltb i (next i) h) in absurd (cc)
  ]
