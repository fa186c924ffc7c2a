-- What is printed is read back: `is_cut_line` holds where a `cut_line` of numbers of at most 63 stands, and the lines of a list of cuts give
-- the list back.
use Prim.Native.Nat.{ℕ, zero, suc, ◌+◌, ◌-◌, ◌*◌, ◌/◌, ◌%◌, ◌≤◌, ◌<◌}
use mathlib.Core.Path.{◌≡◌, refl, sym, ◌∙◌, ap}
use mathlib.Core.Bool.{Bool, true, false}
use mathlib.Core.List.{List, [], ◌∷◌, ◌++◌, append_assoc}
use native.Mathlib.Omega.{arith}
use lib.ListN.{length, get_or, take, drop, length-append, get_or-append}
use lib.Seq.{get_or-append-add, get_or-take, get_or-drop}
use lib.Dec.{ltb}
use borrow.Author.Tests.{le-leb, ltb-true, ltb-false}
use Rattle.scope.specs.Lines.{byte_at, decimal, is_digit, number_at, number_size, has_word, cut_word, cut_line, is_cut_line, slot_index, space_index}
use Rattle.scope.specs.Lines.{link_index, feed_index, cuts_from, cuts_of, cut_lines}
use Rattle.text.proofs.Decimal.{decimal-small, decimal_large}
use Rattle.cut_lines.proofs.Forms.{size_one, size_two, value_one, value_two, is-line, feed_is}
use Rattle.cut_lines.proofs.Lines.{cuts-end, cuts-line}

-- the bytes of a text from index i on begin with a list
abbrev pub Bytes : List ℕ → ℕ → List ℕ → Type 0
Bytes text i l = (k : ℕ) → k < length l → byte_at text (i + k) ≡ get_or l k 0

module _ (text : List ℕ) where
  bytes_left : (i : ℕ) (a b : List ℕ) → Bytes text i (a ++ b) → Bytes text i a
  bytes_left i a b h k l = let e = length-append a b in h k (omega arith) ∙ get_or-append a b 0 k l

  bytes_right : (i : ℕ) (a b : List ℕ) → Bytes text i (a ++ b) → Bytes text (i + length a) b
  bytes_right i a b h k l =
      let e = length-append a b in
      let f : i + length a + k ≡ i + (length a + k) = omega arith in
      ap (byte_at text) f ∙ h (length a + k) (omega arith) ∙ get_or-append-add a b k 0

  -- a part of the text
  pub stand-bytes : (i : ℕ) (l : List ℕ) → take (length l) (drop i text) ≡ l → Bytes text i l
  stand-bytes i l e k h =
      sym (get_or-drop i text k 0) ∙ sym (get_or-take (length l) (drop i text) k 0 h) ∙ ap (λ (x : List ℕ). get_or x k 0) e

  pub bytes-first : (i x : ℕ) (l : List ℕ) → Bytes text i (x ∷ l) → byte_at text i ≡ x
  bytes-first i x l h = let e : i + 0 ≡ i = omega arith in sym (ap (byte_at text) e) ∙ h 0 (omega arith)

  bytes_next : (i x : ℕ) (l : List ℕ) → Bytes text i (x ∷ l) → Bytes text (i + 1) l
  bytes_next i x l h = bytes_right i (x ∷ []) l h

-- the digits of a number of at most 63
pub decimal_two : (s : ℕ) → 10 ≤ s → s ≤ 63 → decimal s ≡ (48 + s / 10) ∷ (48 + s % 10) ∷ []
decimal_two s h g =
    decimal_large s h (omega arith) ∙ ap (λ (l : List ℕ). l ++ ((48 + s % 10) ∷ [])) (decimal-small (s / 10) (omega arith))

pub digit_is : (d : ℕ) → d < 10 → is_digit (48 + d) ≡ true
digit_is d h = rw (le-leb 48 (48 + d) (omega arith), le-leb (48 + d) 57 (omega arith))

-- the number at index i is s
record Number (text : List ℕ) (i s : ℕ) : Type 0 where
  size : number_size text i ≡ length (decimal s)
  value : number_at text i ≡ s

-- a number that is printed before another byte is read back
number-here : (text : List ℕ) (i s mark : ℕ) → s ≤ 63 → is_digit mark ≡ false → Bytes text i (decimal s ++ (mark ∷ [])) → Number text i s
number-here text i s mark g m h = by (ltb s 10) refl
  where
    small : s < 10 → Number text i s
    small l =
        let e = decimal-small s l in
        let h' : Bytes text i ((48 + s) ∷ mark ∷ []) = rw e at h in
        let a : byte_at text i ≡ 48 + s = bytes-first text i (48 + s) (mark ∷ []) h' in
        let b : byte_at text (i + 1) ≡ mark = bytes-first text (i + 1) mark [] (bytes_next text i (48 + s) (mark ∷ []) h') in
        let v : 48 + s - 48 ≡ s = omega arith in
        record {
          size = rw (a, b) (size_one (48 + s) mark (digit_is s l) m) ∙ sym (ap length e);
          value = rw (a, b) (value_one (48 + s) mark m) ∙ v;
        }

    large : 10 ≤ s → Number text i s
    large l =
        let e = decimal_two s l g in
        let h' : Bytes text i ((48 + s / 10) ∷ (48 + s % 10) ∷ mark ∷ []) = rw e at h in
        let a : byte_at text i ≡ 48 + s / 10 = bytes-first text i (48 + s / 10) ((48 + s % 10) ∷ mark ∷ []) h' in
        let b : byte_at text (i + 1) ≡ 48 + s % 10 =
        bytes-first text (i + 1) (48 + s % 10) (mark ∷ []) (bytes_next text i (48 + s / 10) ((48 + s % 10) ∷ mark ∷ []) h')
        in
        let v : (48 + s / 10 - 48) * 10 + (48 + s % 10 - 48) ≡ s = omega arith in
        let f = digit_is (s / 10) (omega arith) in
        let r = digit_is (s % 10) (omega arith) in
        record {
          size = rw (a, b) (size_two (48 + s / 10) (48 + s % 10) f r (omega arith) (omega arith)) ∙ sym (ap length e);
          value = rw (a, b) (value_two (48 + s / 10) (48 + s % 10) r) ∙ v;
        }

    by : (t : Bool) → ltb s 10 ≡ t → Number text i s
    by true e = small (ltb-true s 10 e)
    by false e = large (ltb-false s 10 e)

-- the line at index i is that of slot s and link e
record Line (text : List ℕ) (i s e : ℕ) : Type 0 where
  is : is_cut_line text i ≡ true
  slot : number_at text (slot_index i) ≡ s
  link : number_at text (link_index text i) ≡ e
  end : feed_index text i + 1 ≡ i + length (cut_line s e)

-- what comes after `cut `, after the slot and after the space
abbrev after_word : ℕ → ℕ → List ℕ
after_word s e = decimal s ++ (32 ∷ (decimal e ++ (10 ∷ [])))

line-size : (s e : ℕ) → length (cut_line s e) ≡ 4 + (length (decimal s) + (1 + (length (decimal e) + 1)))
line-size s e =
    let a = length-append (decimal s) (32 ∷ (decimal e ++ (10 ∷ []))) in
    let b = length-append (decimal e) (10 ∷ []) in
    omega arith

decimal-some : (s : ℕ) → s ≤ 63 → 0 < length (decimal s)
decimal-some s g = by (ltb s 10) refl
  where
    by : (t : Bool) → ltb s 10 ≡ t → 0 < length (decimal s)
    by true e = let l = ap length (decimal-small s (ltb-true s 10 e)) in omega arith
    by false e = let l = ap length (decimal_two s (ltb-false s 10 e) g) in omega arith

-- a number and the byte after it, of a longer text
bytes-number : (text : List ℕ) (i : ℕ) (l : List ℕ) (x : ℕ) (m : List ℕ) → Bytes text i (l ++ (x ∷ m)) → Bytes text i (l ++ (x ∷ []))
bytes-number text i l x m h = bytes_left text i (l ++ (x ∷ [])) m (rw (append_assoc l (x ∷ []) m) h)

module _ (text : List ℕ) (i : ℕ) where
  word_here : (l : List ℕ) → Bytes text i (99 ∷ 117 ∷ 116 ∷ 32 ∷ l) → has_word text i ≡ true
  word_here l h =
      let a : byte_at text i ≡ 99 = bytes-first text i 99 (117 ∷ 116 ∷ 32 ∷ l) h in
      let b : byte_at text (i + 1) ≡ 117 = h 1 (omega arith) in
      let c : byte_at text (i + 2) ≡ 116 = h 2 (omega arith) in
      let d : byte_at text (i + 3) ≡ 32 = h 3 (omega arith) in
      rw (a, b, c, d)

  line-here : (s e : ℕ) → s ≤ 63 → e ≤ 63 → Bytes text i (cut_line s e) → Line text i s e
  line-here s e g f h =
      let h₁ : Bytes text (i + 4) (after_word s e) = bytes_right text i cut_word (after_word s e) h in
      let one : Number text (i + 4) s = number-here text (i + 4) s 32 g refl
      (bytes-number text (i + 4) (decimal s) 32 (decimal e ++ (10 ∷ [])) h₁) in
      let h₂ : Bytes text (i + 4 + length (decimal s)) (32 ∷ (decimal e ++ (10 ∷ []))) = bytes_right text (i + 4) (decimal s) _ h₁ in
      let gap : byte_at text (i + 4 + length (decimal s)) ≡ 32 = bytes-first text (i + 4 + length (decimal s)) 32 (decimal e ++ (10 ∷ [])) h₂ in
      let h₃ : Bytes text (i + 4 + length (decimal s) + 1) (decimal e ++ (10 ∷ [])) =
      bytes_next text (i + 4 + length (decimal s)) 32 (decimal e ++ (10 ∷ [])) h₂ in
      let two : Number text (i + 4 + length (decimal s) + 1) e = number-here text (i + 4 + length (decimal s) + 1) e 10 f refl h₃ in
      let h₄ : Bytes text (i + 4 + length (decimal s) + 1 + length (decimal e)) (10 ∷ []) =
      bytes_right text (i + 4 + length (decimal s) + 1) (decimal e) (10 ∷ []) h₃ in
      let end = bytes-first text (i + 4 + length (decimal s) + 1 + length (decimal e)) 10 [] h₄ in
      let link : link_index text i ≡ i + 4 + length (decimal s) + 1 = ap (λ (k : ℕ). i + 4 + k + 1) one.size in
      let some = decimal-some s g in
      let more = decimal-some e f in
      let gap-at : i + 4 + length (decimal s) ≡ space_index text i = ap (λ (k : ℕ). i + 4 + k) (sym one.size) in
      let feed-at : i + 4 + length (decimal s) + 1 + length (decimal e) ≡
      i + 4 + length (decimal s) + 1 + number_size text (i + 4 + length (decimal s) + 1) =
      ap (λ (k : ℕ). i + 4 + length (decimal s) + 1 + k) (sym two.size) in
      let feed = feed_is text i _ gap-at _ feed-at in
      let size = line-size s e in
      let slot-size = one.size in
      let link-size = two.size in
      record {
        is = is-line text i _ gap-at _ feed-at (word_here (after_word s e) h) (omega arith) gap (omega arith) end;
        slot = one.value;
        link = ap (λ (k : ℕ). number_at text k) link ∙ two.value;
        end = omega arith;
      }

-- pairs of numbers of at most 63
pub data Small : List ℕ → Type 0 where
  none : Small []
  pair : {s e : ℕ} {cuts : List ℕ} → s ≤ 63 → e ≤ 63 → Small cuts → Small (s ∷ e ∷ cuts)

lines_pair : (s e : ℕ) (cuts : List ℕ) → cut_lines (s ∷ e ∷ cuts) ≡ cut_line s e ++ cut_lines cuts
unfolding cut_lines
lines_pair s e cuts = refl

lines_none : cut_lines [] ≡ []
unfolding cut_lines
lines_none = refl

-- the lines of cuts from index i to the end of a text, of which at least as many lines are read
lines_read : {cuts : List ℕ} → Small cuts → (text : List ℕ) (n i : ℕ) → length cuts ≤ 2 * n → i + length (cut_lines cuts) ≡ length text →
    Bytes text i (cut_lines cuts) → cuts_from n text i ≡ cuts
lines_read none text n i g e h =
    let z = ap length lines_none in
    cuts-end text n i (omega arith)
lines_read (pair {s} {e} {cuts} p q r) text zero i g t h = absurd (omega arith)
lines_read (pair {s} {e} {cuts} p q r) text (suc n) i g t h =
    let h' : Bytes text i (cut_line s e ++ cut_lines cuts) = rw (lines_pair s e cuts) at h in
    let here = line-here text i s e p q (bytes_left text i (cut_line s e) (cut_lines cuts) h') in
    let size = line-size s e in
    let all = ap length (lines_pair s e cuts) ∙ length-append (cut_line s e) (cut_lines cuts) in
    let end = here.end in
    let rest : cuts_from n text (feed_index text i + 1) ≡ cuts =
    ap (λ (k : ℕ). cuts_from n text k) end
    ∙ lines_read r text n (i + length (cut_line s e)) (omega arith) (omega arith) (bytes_right text i (cut_line s e) (cut_lines cuts) h')
    in
    cuts-line text n i (omega arith) here.is ∙ rw (here.slot, here.link, rest)

lines_many : {cuts : List ℕ} → Small cuts → length cuts ≤ 2 * length (cut_lines cuts)
lines_many none = let z = ap length lines_none in omega arith
lines_many (pair {s} {e} {cuts} p q r) =
    let more = lines_many r in
    let size = line-size s e in
    let all = ap length (lines_pair s e cuts) ∙ length-append (cut_line s e) (cut_lines cuts) in
    omega arith

-- the lines of a list of cuts give the list back
pub cuts_back : (cuts : List ℕ) → Small cuts → cuts_of (cut_lines cuts) ≡ cuts
cuts_back cuts small =
    let z : 0 + length (cut_lines cuts) ≡ length (cut_lines cuts) = omega arith in
    lines_read small (cut_lines cuts) (length (cut_lines cuts)) 0 (lines_many small) z
    (λ k h. let e : 0 + k ≡ k = omega arith in ap (byte_at (cut_lines cuts)) e)

-- a line of slot s and link e stands at index i of a text
pub record CutLineAt (text : List ℕ) (i s e : ℕ) : Type 0 where
  pub slot : s ≤ 63
  pub link : e ≤ 63
  pub stands : take (length (cut_line s e)) (drop i text) ≡ cut_line s e

-- where a line stands, `is_cut_line` holds, with its numbers
pub line-holds : (text : List ℕ) (i s e : ℕ) → CutLineAt text i s e → is_cut_line text i ≡ true
line-holds text i s e c = (line-here text i s e c.slot c.link (stand-bytes text i (cut_line s e) c.stands)).is

pub line-slot : (text : List ℕ) (i s e : ℕ) → CutLineAt text i s e → number_at text (slot_index i) ≡ s
line-slot text i s e c = (line-here text i s e c.slot c.link (stand-bytes text i (cut_line s e) c.stands)).slot

pub line-link : (text : List ℕ) (i s e : ℕ) → CutLineAt text i s e → number_at text (link_index text i) ≡ e
line-link text i s e c = (line-here text i s e c.slot c.link (stand-bytes text i (cut_line s e) c.stands)).link
