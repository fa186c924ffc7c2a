-- How long an answer can be: what begins in the lower half of the indices can be told whole.
use Prim.Native.Nat.{ℕ, suc, ◌+◌, ◌*◌, ◌^◌, ◌≤◌}
use mathlib.Core.Bool.{Bool, true, false}
use mathlib.Core.List.{List, [], ◌∷◌, ◌++◌}
use native.Mathlib.Omega.{arith}
use lib.ListN.{length, take, drop, length-append, length-take}
use lib.IntN.{ℤ, pos, negsuc}
use Rattle.scope.specs.Lines.{decimal, signed, space, line_feed, spaced, refused_text, refused_line}
use Rattle.scope.specs.declared.Refusal.{Refusal}
use Rattle.scope.specs.Outcome.{Outcome, gives, refused}
use Rattle.text.specs.Text.{Told}
use Rattle.text.proofs.Decimal.{decimal-all}
use Rattle.text.proofs.Refused.{refused_text_size}
use Rattle.probe_words.specs.Words.{hex_word, pairs_of, filler, filler16, all_are}
use Rattle.probe_lines.specs.Answers.{ending, ok_text, numbers_end, bytes_end, told, told_bytes, Near}
use Rattle.probe_lines.specs.Answers.{slack_line, no_list_line, list_line, numbers_of, part_line, place_line, Worded}

spaced-short : (s : List ℕ) → length (spaced s) ≤ 21 * length s
unfolding spaced
spaced-short [] = omega arith
spaced-short (n ∷ s) =
    let rest = spaced-short s in
    let d = decimal-all n in
    let a = length-append (decimal n) (spaced s) in
    omega arith

pairs-short : (s : List ℕ) → length (pairs_of s) ≤ 2 * length s
unfolding pairs_of
pairs-short [] = omega arith
pairs-short (b ∷ s) = let rest = pairs-short s in omega arith

hex_short : (s : List ℕ) → length (hex_word s) ≤ 2 * length s + 1
hex_short [] = omega arith
hex_short (b ∷ s) = let rest = pairs-short (b ∷ s) in omega arith

take_short : (n : ℕ) (s : List ℕ) → length (take n s) ≤ length s
take_short n s = rw length-take (omega arith)

ending-short : (kept : Bool) → length (ending kept) ≤ 8
ending-short true = omega arith
ending-short false = omega arith

signed-short : (z : ℤ) → length (signed z) ≤ 21
signed-short (pos n) = let d = decimal-all n in omega arith
signed-short (negsuc n) = let d = decimal-all (suc n) in omega arith

numbers-short : (n : ℕ) (s : List ℕ) → length (numbers_end n s) ≤ 21 * length s + 8
numbers-short n s =
    let a = length-append (spaced (take n s)) (ending (all_are filler16 (drop n s))) in
    let b = spaced-short (take n s) in
    let c = take_short n s in
    let e = ending-short (all_are filler16 (drop n s)) in
    omega arith

module _ (at : ℕ) where
  short-told : (text : List ℕ) → at ≤ 2 ^ 63 → length text ≤ 2 ^ 40 → Told at text
  short-told text h l = record { fits = omega arith }

  pub told-told : (o : Outcome) (n : ℕ) (s : List ℕ) → Near at s → Told at (told o n s)
  told-told (gives m) n s near =
      let few = near.few in
      let a = length-append (ok_text m) (numbers_end n s) in
      let d = decimal-all m in
      let e = numbers-short n s in
      short-told (told (gives m) n s) near.from (omega arith)
  told-told (refused r) n s near =
      let a = length-append (refused_text r) (ending (all_are filler16 s)) in
      let d = refused_text_size r in
      let e = ending-short (all_are filler16 s) in
      short-told (told (refused r) n s) near.from (omega arith)

  pub bytes-told : (o : Outcome) (s : List ℕ) → Near at s → Told at (told_bytes o s)
  bytes-told (gives m) s near =
      let few = near.few in
      let a = length-append (ok_text m) (bytes_end m s) in
      let d = decimal-all m in
      let b = length-append (hex_word (take m s)) (ending (all_are filler (drop m s))) in
      let c = hex_short (take m s) in
      let f = take_short m s in
      let e = ending-short (all_are filler (drop m s)) in
      short-told (told_bytes (gives m) s) near.from (omega arith)
  bytes-told (refused r) s near =
      let a = length-append (refused_text r) (ending (all_are filler s)) in
      let d = refused_text_size r in
      let e = ending-short (all_are filler s) in
      short-told (told_bytes (refused r) s) near.from (omega arith)

  pub slack-told : (z : ℤ) → at ≤ 2 ^ 63 → Told at (slack_line z)
  slack-told z h =
      let a = length-append (signed z) line_feed in
      let d = signed-short z in
      short-told (slack_line z) h (omega arith)

  pub refusal-told : (r : Refusal) → at ≤ 2 ^ 63 → Told at (refused_line r)
  refusal-told r h =
      let a = length-append (refused_text r) line_feed in
      let d = refused_text_size r in
      short-told (refused_line r) h (omega arith)

  module _ (word s : List ℕ) (w : Worded at word s) where
    pub none_told : Told at (no_list_line word s)
    none_told =
        let a = length-append word (ending (all_are filler16 s)) in
        let e = ending-short (all_are filler16 s) in
        let h = w.short in
        short-told (no_list_line word s) w.near.from (omega arith)

    pub list-told : (n : ℕ) → Told at (list_line word n s)
    list-told n =
        let few = w.near.few in
        let h = w.short in
        let a = length-append word (decimal n ++ numbers_end (numbers_of n) s) in
        let b = length-append (decimal n) (numbers_end (numbers_of n) s) in
        let d = decimal-all n in
        let e = numbers-short (numbers_of n) s in
        short-told (list_line word n s) w.near.from (omega arith)

  pub part-told : (s : List ℕ) → Near at s → Told at (part_line s)
  part-told s near =
      let few = near.few in
      let a = length-append (decimal (length s)) (spaced s ++ line_feed) in
      let b = length-append (spaced s) line_feed in
      let d = decimal-all (length s) in
      let e = spaced-short s in
      short-told (part_line s) near.from (omega arith)

  pub place-told : (index n : ℕ) → at ≤ 2 ^ 63 → Told at (place_line index n)
  place-told index n h =
      let a = length-append (decimal index ++ space) (decimal n ++ line_feed) in
      let b = length-append (decimal index) space in
      let c = length-append (decimal n) line_feed in
      let d = decimal-all index in
      let e = decimal-all n in
      short-told (place_line index n) h (omega arith)
