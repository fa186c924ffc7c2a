-- One law for each way out of a function of this crate, from what its callees ensure.
use Prim.Native.Nat.{ℕ, ◌+◌, ◌≤◌, ◌<◌, ◌^◌, min}
use mathlib.Core.Path.{◌≡◌, refl, sym, ◌∙◌, ap}
use mathlib.Core.Bool.{Bool, true, false}
use mathlib.Core.List.{List, [], ◌++◌, append-nil}
use native.Mathlib.Omega.{arith}
use lib.ListN.{length, take, drop, take-append-drop, drop_of_length-le}
use lib.Seq.{take_at, take_all, length-take-le}
use lib.Dec.{leb}
use borrow.Author.Tests.{leb-true, leb-false}
use Rattle.scope.specs.Outcome.{Answer}
use Rattle.scope.specs.declared.Refusal.{Refusal}
use Rattle.scope.specs.Outcome.{gives, refused}
use Rattle.scope.specs.File.{row_of}
use Rattle.scope.specs.Questions.{read_file}
use Rattle.scope.specs.Limits.{longest_row}
use Rattle.scope.specs.Lines.{refused_line}
use Rattle.text.specs.Text.{laid, Puts}
use Rattle.text.proofs.Laid.{laid-front, laid-append, laid_none, length-laid}
use Rattle.plan.specs.Answers.{Writes}
use Rattle.plan.proofs.Reading.{read-room}
use Rattle.row_text.specs.Rows.{row_line, row_text}
use Rattle.row_text.proofs.Front.{writes-front}

-- the text of a plan file by what reading it gives
pub text-refused : (file : List ℕ) (r : Refusal) → read_file file longest_row ≡ refused r → row_text file ≡ refused_line r
unfolding row_text
text-refused file r e = rw e

pub text_given : (file row : List ℕ) (n : ℕ) → read_file file longest_row ≡ gives n → row ≡ row_of file → row_line row ≡ row_text file
unfolding row_text
text_given file row n e is = sym (rw (e, is))

pub row-short : (file row : List ℕ) (n : ℕ) → read_file file longest_row ≡ gives n → row ≡ row_of file → length row < 2 ^ 32
row-short file row n e is =
    let r = (read-room file longest_row n e).1 in
    let l = ap length is in
    omega arith

-- numbers that were laid over a buffer: all of them, or as many as there is room for
module _ {s b c : List ℕ} {n : ℕ} (p : Puts s b c 0 n) where
  laid-all : n ≤ length b → take n c ≡ s
  laid-all h =
      let e = p.ends in
      let l : length s ≡ n = omega arith in
      ap (take n) (p.buffer ∙ laid-front b s (omega arith)) ∙ take_at s (drop (length s) b) n l

  laid_kept : length c ≡ length b
  laid_kept = ap length p.buffer ∙ length-laid b 0 s

  laid-some : length b < n → c ≡ take (length b) s
  laid-some h =
      let e = p.ends in
      let long : length (take (length b) s) ≡ length b = length-take-le (length b) s (omega arith) in
      let room : length b ≤ length (take (length b) s) = omega arith in
      let none : drop (length (take (length b) s)) b ≡ [] = drop_of_length-le b room in
      p.buffer
      ∙ ap (laid b 0) (sym (take-append-drop (length b) s))
      ∙ laid-append b 0 (take (length b) s) (drop (length b) s)
      ∙ laid_none (laid b 0 (take (length b) s)) (0 + length (take (length b) s)) (drop (length b) s)
      (omega (arith, length-laid b 0 (take (length b) s)))
      ∙ laid-front b (take (length b) s) (omega arith)
      ∙ ap (λ (t : List ℕ). take (length b) s ++ t) none
      ∙ append-nil (take (length b) s)

-- packing a text whose numbers were laid over a buffer of one number more than the longest row has
module _ {s b c : List ℕ} {n : ℕ} (p : Puts s b c 0 n) (l : length b ≡ 10406) where
  pub packs : {entry exit : List ℕ} {r : Answer} → Writes (take (min n 10406) c) entry exit r → Writes s entry exit r
  packs {entry} {exit} {r} w = by (leb n 10406) refl
    where
      all : n ≤ 10406 → take (min n 10406) c ≡ s
      all h = let e : min n 10406 ≡ n = omega arith in rw e (laid-all p (omega arith))

      front : 10406 < n → take (min n 10406) c ≡ take 10406 s
      front h =
          let e : min n 10406 ≡ 10406 = omega arith in
          rw e (take_all 10406 c (omega (arith, laid_kept p)) ∙ laid-some p (omega arith) ∙ ap (λ (k : ℕ). take k s) l)

      by : (t : Bool) → leb n 10406 ≡ t → Writes s entry exit r
      by true t = rw (all (leb-true n 10406 t)) at w
      by false t =
          let e = p.ends in
          let h = leb-false n 10406 t in
          writes-front s entry (omega arith) exit r (rw (front h) at w)
