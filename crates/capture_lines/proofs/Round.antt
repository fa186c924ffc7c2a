-- What is printed is read back: the lines of a capture give the capture. And what is read was printed so: an accepted text is the lines of its
-- capture.
use Prim.Native.Nat.{ℕ, zero, suc, ◌+◌, ◌≤◌, ◌<◌}
use mathlib.Core.Path.{◌≡◌, refl, sym, ◌∙◌, ap}
use mathlib.Core.Bool.{Bool, true, false, cond, ◌&&◌}
use mathlib.Core.List.{List, [], ◌∷◌, ◌++◌, append_assoc}
use native.Mathlib.Omega.{arith}
use lib.ListN.{length, take, drop, length-append, length-drop, take-append-drop, drop_of_length-le}
use lib.Seq.{slice, length-take-le, take_at, drop_at}
use lib.Dec.{ltb, eqb}
use borrow.Author.Tests.{ltb-false}
use Rattle.scope.proofs.Bools.{and_left, and_right}
use Rattle.scope.specs.Lines.{byte_at, decimal, number_at, number_size}
use Rattle.scope.specs.Lines.{triple_line, past_number, second_number, third_number, end_of_triple, is_triple_line, capture_from}
use Rattle.capture.specs.Kept.{Whole}
use Rattle.text.proofs.Read.{number_along}
use Rattle.cut_lines.proofs.Printed.{Printed, printed, byte_inside}
use Rattle.capture_lines.specs.Rest.{line_of, fresh, rest_of}
use Rattle.capture_lines.specs.Round.{triple_lines, Small, none, triple, CaptureBack, LinePrinted, TextBack}
use Rattle.capture_lines.proofs.Capture.{in_line, digit_adds, other-adds, capture_adds}

-- a number that is printed before the byte that ends it
number-back : (n a b v : ℕ) (s : List ℕ) → v ≤ 63 → rest_of (line_of n a b) (decimal v ++ s) ≡ rest_of (in_line n a b true v) s
number-back n a b v s h = number_along 63 (λ begun w t. rest_of (in_line n a b begun w) t) (digit_adds n a b) v s (omega arith) h

-- a line that is printed
line-back : (i e m : ℕ) (s : List ℕ) → i ≤ 63 → e ≤ 63 → m ≤ 63 → rest_of fresh (triple_line i e m ++ s) ≡ i ∷ e ∷ m ∷ rest_of fresh s
line-back i e m s p q r =
    let third = decimal m ++ (10 ∷ s) in
    let second = decimal e ++ (32 ∷ third) in
    let parts : triple_line i e m ++ s ≡ decimal i ++ (32 ∷ second) = simp append_assoc in
    ap (rest_of fresh) parts
    ∙ number-back 0 0 0 i (32 ∷ second) p ∙ other-adds 0 0 0 true i 32 second refl
    ∙ number-back 1 0 i e (32 ∷ third) q ∙ other-adds 1 0 i true e 32 third refl
    ∙ number-back 2 i e m (10 ∷ s) r ∙ other-adds 2 i e true m 10 s refl

lines_back : {capture : List ℕ} → Small capture → rest_of fresh (triple_lines capture) ≡ capture
unfolding rest_of triple_lines
lines_back none = refl
lines_back (triple {i} {e} {m} {capture} p q r more) =
    line-back i e m (triple_lines capture) p q r ∙ ap (λ (s : List ℕ). i ∷ e ∷ m ∷ s) (lines_back more)

pub capture_back_lem : CaptureBack
capture_back_lem capture small = capture_adds (triple_lines capture) ∙ lines_back small

-- a line that is accepted: its numbers with the bytes behind them, of which the last lies within the text
module _ (text : List ℕ) (i : ℕ) (h : is_triple_line text i ≡ true) where
  record Parts : Type 0 where
    first : Printed text i 32
    second : Printed text (second_number text i) 32
    third : Printed text (third_number text i) 10
    inside : end_of_triple text i < length text

  parts : Parts
  parts =
      let a = ltb 0 (number_size text i) in
      let b = eqb (byte_at text (past_number text i)) 32 in
      let c = ltb 0 (number_size text (second_number text i)) in
      let d = eqb (byte_at text (past_number text (second_number text i))) 32 in
      let e = ltb 0 (number_size text (third_number text i)) in
      let f = eqb (byte_at text (end_of_triple text i)) 10 in
      let five = and_left (a && b && c && d && e) f h in
      let four = and_left (a && b && c && d) e five in
      let three = and_left (a && b && c) d four in
      let two = and_left (a && b) c three in
      let end = and_right (a && b && c && d && e) f h in
      record {
        first = printed text i 32 (omega arith) (and_left a b two) (and_right a b two);
        second = printed text (second_number text i) 32 (omega arith) (and_right (a && b) c three) (and_right (a && b && c) d four);
        third = printed text (third_number text i) 10 (omega arith) (and_right (a && b && c && d) e five) end;
        inside = byte_inside text (end_of_triple text i) 10 (omega arith) end;
      }

  -- it is the printed line of its numbers, and the text goes on behind it
  abbrev line : List ℕ
  line = triple_line (number_at text i) (number_at text (second_number text i)) (number_at text (third_number text i))

  line-front : drop i text ≡ line ++ drop (end_of_triple text i + 1) text
  line-front =
      parts.first.front
      ∙ ap (λ (s : List ℕ). decimal (number_at text i) ++ (32 ∷ s)) (parts.second.front
      ∙ ap (λ (s : List ℕ). decimal (number_at text (second_number text i)) ++ (32 ∷ s)) parts.third.front)
      ∙ simp append_assoc

pub line-printed : LinePrinted
line-printed text i h =
    let l = line text i h in
    let rest = drop (end_of_triple text i + 1) text in
    let inside = (parts text i h).inside in
    let from : i ≤ end_of_triple text i = omega arith in
    let front : length (take i text) ≡ i = length-take-le i text (omega arith) in
    let all : text ≡ (take i text ++ l) ++ rest =
    sym (take-append-drop i text) ∙ ap (λ (s : List ℕ). take i text ++ s) (line-front text i h) ∙ sym (append_assoc (take i text) l rest) in
    let many = ap length all ∙ length-append (take i text ++ l) rest in
    let behind = length-drop (end_of_triple text i + 1) text in
    ap (λ (s : List ℕ). slice i (end_of_triple text i + 1) s) all
    ∙ ap (drop i) (take_at (take i text ++ l) rest (end_of_triple text i + 1) (omega arith))
    ∙ drop_at (take i text) l i front

module _ (text : List ℕ) where
  -- from index i on, where as many lines are read as there may be
  lines_printed : (n i : ℕ) → length text ≤ i + n → Whole (capture_from n text i) →
      Small (capture_from n text i) × (triple_lines (capture_from n text i) ≡ drop i text)
  unfolding capture_from triple_lines
  lines_printed zero i h w = (none, sym (drop_of_length-le text (let z : length text ≤ i = omega arith in z)))
  lines_printed (suc n) i h w = by (ltb i (length text)) (is_triple_line text i) refl refl (lines_printed n (end_of_triple text i + 1)) w
    where
      more : List ℕ
      more = capture_from n text (end_of_triple text i + 1)

      read : Bool → Bool → List ℕ
      read t u =
          cond t (cond u (number_at text i ∷ number_at text (second_number text i) ∷ number_at text (third_number text i) ∷ more) (0 ∷ [])) []

      by : (t u : Bool) → ltb i (length text) ≡ t → is_triple_line text i ≡ u →
          (length text ≤ end_of_triple text i + 1 + n → Whole more → Small more × (triple_lines more ≡ drop (end_of_triple text i + 1) text)) →
          Whole (read t u) → Small (read t u) × (triple_lines (read t u) ≡ drop i text)
      by true true e f rest w =
          let p = parts text i f in
          let later = rest (omega arith) (omega arith) in (
            triple p.first.most p.second.most p.third.most later.0,
            ap (λ (s : List ℕ). line text i f ++ s) later.1 ∙ sym (line-front text i f),
          )
      by true false e f rest w = absurd (omega arith)
      by false u e f rest w = (none, sym (drop_of_length-le text (ltb-false i (length text) e)))

pub text-back : TextBack
text-back text whole = lines_printed text (length text) 0 (omega arith) whole
