-- What is read was printed so: a number with the byte behind it, and, where `is_cut_line` holds, a cut line.
use Prim.Native.Nat.{ℕ, ◌+◌, ◌≤◌, ◌<◌}
use mathlib.Core.Path.{◌≡◌, refl, sym, ◌∙◌, ap}
use mathlib.Core.Bool.{Bool, true, false, ◌&&◌}
use mathlib.Core.List.{List, ◌∷◌, ◌++◌, append_assoc}
use native.Mathlib.Omega.{arith}
use native.Mathlib.Numerals.{add-one}
use lib.ListN.{length, take, drop, take-append-drop, get_or-eq_default}
use lib.Seq.{drop-cons, drop-drop, take-append_seam}
use lib.Dec.{ltb, eqb}
use borrow.Author.Tests.{ltb-true, ltb-false, eqb-true}
use Rattle.scope.proofs.Bools.{and_left, and_right}
use Rattle.scope.specs.Lines.{byte_at, decimal, number_at, number_size, past_number, has_word, cut_word, cut_line, is_cut_line}
use Rattle.scope.specs.Lines.{slot_index, space_index, link_index, feed_index}
use Rattle.text.specs.Reading.{size_at, value_at}
use Rattle.text.proofs.Read.{number-printed, number_read, read_here}
use Rattle.cut_lines.proofs.Meets.{Meets, none, cut_off, one, two, meets}
use Rattle.cut_lines.proofs.Round.{CutLineAt}

-- a byte that is not 0 lies within the text
module _ (text : List ℕ) (j x : ℕ) (some : 0 < x) (is : eqb (byte_at text j) x ≡ true) where
  pub byte_inside : j < length text
  byte_inside = by (ltb j (length text)) refl
    where
      by : (t : Bool) → ltb j (length text) ≡ t → j < length text
      by true e = ltb-true j (length text) e
      by false e =
          let z : byte_at text j ≡ 0 = get_or-eq_default text 0 (ltb-false j (length text) e) in
          let p = eqb-true (byte_at text j) x is in
          absurd (omega arith)

  byte_front : drop j text ≡ x ∷ drop (j + 1) text
  byte_front = rw (add-one, ← eqb-true (byte_at text j) x is) (drop-cons text j 0 byte_inside)

-- at index i stands a number of at most 63, printed, and behind it a byte
pub record Printed (text : List ℕ) (i mark : ℕ) : Type 0 where
  pub most : number_at text i ≤ 63
  pub front : drop i text ≡ decimal (number_at text i) ++ (mark ∷ drop (past_number text i + 1) text)

module _ (text : List ℕ) (i mark : ℕ) (some : 0 < mark) where
  pub printed : ltb 0 (number_size text i) ≡ true → eqb (byte_at text (past_number text i)) mark ≡ true → Printed text i mark
  printed h b = by (meets text i (number_read 63 text i) (read_here 63 text i))
    where
      same : size_at 63 text i ≡ number_size text i → value_at 63 text i ≡ number_at text i → Printed text i mark
      same s v =
          let n = ltb-true 0 (number_size text i) h in
          let digits : take (number_size text i) (drop i text) ≡ decimal (number_at text i) =
          rw (← s, ← v) (number-printed 63 (omega arith) (drop i text) (omega arith)) in
          let behind = byte_front text (past_number text i) mark some b in
          let small = (read_here 63 text i).small in
          record {
            most = omega arith;
            front =
                sym (take-append-drop (number_size text i) (drop i text))
                ∙ ap (λ (l : List ℕ). l ++ drop (number_size text i) (drop i text)) digits
                ∙ ap (λ (l : List ℕ). decimal (number_at text i) ++ l) (drop-drop (number_size text i) i text ∙ behind);
          }

      by : Meets text i (number_read 63 text i) → Printed text i mark
      by (none s n) = absurd (let g = ltb-true 0 (number_size text i) h in omega arith)
      by (cut_off s n d) = absurd (let g = ltb-true 0 (number_size text i) h in omega arith)
      by (one s n v d) = same (omega arith) v
      by (two s n v) = same (omega arith) v

-- `cut `
word_front : (text : List ℕ) (i : ℕ) → has_word text i ≡ true → drop i text ≡ cut_word ++ drop (i + 4) text
word_front text i h =
    let c = eqb (byte_at text i) 99 in
    let u = eqb (byte_at text (i + 1)) 117 in
    let t = eqb (byte_at text (i + 2)) 116 in
    let cut = and_left (c && u && t) (eqb (byte_at text (i + 3)) 32) h in
    let cu = and_left (c && u) t cut in
    let two : i + 1 + 1 ≡ i + 2 = omega arith in
    let three : i + 2 + 1 ≡ i + 3 = omega arith in
    let four : i + 3 + 1 ≡ i + 4 = omega arith in
    byte_front text i 99 (omega arith) (and_left c u cu)
    ∙ ap (λ (l : List ℕ). 99 ∷ l) (byte_front text (i + 1) 117 (omega arith) (and_right c u cu) ∙ rw two
    (ap (λ (l : List ℕ). 117 ∷ l) (byte_front text (i + 2) 116 (omega arith) (and_right (c && u) t cut) ∙ rw three
    (ap (λ (l : List ℕ). 116 ∷ l) (byte_front text (i + 3) 32 (omega arith)
    (and_right (c && u && t) (eqb (byte_at text (i + 3)) 32) h) ∙ rw four)))))

-- where `is_cut_line` holds, a line stands, of the numbers that are read
pub line-stands : (text : List ℕ) (i : ℕ) → is_cut_line text i ≡ true → CutLineAt text i (number_at text (slot_index i))
    (number_at text (link_index text i))
line-stands text i h =
    let word = has_word text i in
    let slot = ltb 0 (number_size text (slot_index i)) in
    let gap = eqb (byte_at text (space_index text i)) 32 in
    let link = ltb 0 (number_size text (link_index text i)) in
    let feed = eqb (byte_at text (feed_index text i)) 10 in
    let four = and_left (word && slot && gap && link) feed h in
    let three = and_left (word && slot && gap) link four in
    let two = and_left (word && slot) gap three in
    let s = printed text (slot_index i) 32 (omega arith) (and_right word slot two) (and_right (word && slot) gap three) in
    let e = printed text (link_index text i) 10 (omega arith) (and_right (word && slot && gap) link four)
    (and_right (word && slot && gap && link) feed h) in
    let a = number_at text (slot_index i) in
    let b = number_at text (link_index text i) in
    let rest = drop (feed_index text i + 1) text in
    let parts : cut_word ++ (decimal a ++ (32 ∷ (decimal b ++ (10 ∷ rest)))) ≡ cut_line a b ++ rest = simp append_assoc in
    let whole : drop i text ≡ cut_line a b ++ rest =
    word_front text i (and_left word slot two)
    ∙ ap (λ (l : List ℕ). cut_word ++ l) (s.front ∙ ap (λ (l : List ℕ). decimal a ++ (32 ∷ l)) e.front)
    ∙ parts
    in
    record { slot = s.most; link = e.most; stands = ap (take (length (cut_line a b))) whole ∙ take-append_seam (cut_line a b) rest }
