-- Of a row that is longer than the longest, one number more than that decides: the rest changes no answer.
use Prim.Native.Nat.{ℕ, zero, suc, ◌+◌, ◌^◌, ◌≤◌, ◌<◌}
use mathlib.Core.Path.{◌≡◌, refl, sym, ◌∙◌, ap}
use mathlib.Core.Bool.{Bool, true, false, cond}
use mathlib.Core.List.{List, [], ◌∷◌}
use native.Mathlib.Omega.{arith}
use lib.ListN.{length, take}
use lib.Dec.{ltb, eqb}
use borrow.Author.Tests.{ltb-true, eqb-false}
use Rattle.scope.specs.Outcome.{Answer}
use Rattle.scope.specs.declared.Fields.{Fields}
use Rattle.scope.specs.declared.Refusal.{Refusal}
use Rattle.scope.specs.Outcome.{Outcome, gives, refused, refuse}
use Rattle.scope.specs.Fields.{width, step, opening, edition}
use Rattle.scope.specs.Row.{walk_from, walk_row}
use Rattle.scope.specs.Questions.{after, judge, write_file}
use Rattle.scope.specs.File.{file_of}
use Rattle.grammar.proofs.Most.{numbers, falls, numbers-opening}
use Rattle.forms.proofs.Theorems.{row-most}
use Rattle.plan.specs.Answers.{Writes}

-- a walk that ends within the first k numbers goes the same over them
walk_front : (s : Fields) (i k : ℕ) (vs : List ℕ) → numbers s < k → k ≤ length vs → walk_from s i (take k vs) ≡ walk_from s i vs
unfolding walk_from
walk_front s i zero vs h l = absurd (omega arith)
walk_front s i (suc k) [] h l = absurd (omega arith)
walk_front s i (suc k) (v ∷ vs) h l =
    by (eqb (width s) 0) refl (ltb v (2 ^ width s)) refl (walk_front (step s v) (i + 1) k vs)
  where
    by : (t : Bool) → eqb (width s) 0 ≡ t → (u : Bool) → ltb v (2 ^ width s) ≡ u →
        (numbers (step s v) < k → k ≤ length vs → walk_from (step s v) (i + 1) (take k vs) ≡ walk_from (step s v) (i + 1) vs) →
        cond t (refuse 4 i) (cond u (walk_from (step s v) (i + 1) (take k vs)) (refuse 3 i)) ≡
        cond t (refuse 4 i) (cond u (walk_from (step s v) (i + 1) vs) (refuse 3 i))
    by true z u m more = refl
    by false z true m more =
        let f = falls (λ w. 1) s v (eqb-false (width s) 0 z) (ltb-true v (2 ^ width s) m) in
        more (omega arith) (omega arith)
    by false z false m more = refl

row-front : (row : List ℕ) → 10406 ≤ length row → walk_row (take 10406 row) ≡ walk_row row
unfolding walk_row
row-front [] h = absurd (omega arith)
row-front (v ∷ vs) h =
    let o = numbers-opening in
    ap (λ (w : Outcome). cond (eqb v edition) w (refuse 1 0)) (walk_front opening 1 10405 vs (omega arith) (omega arith))

long-refused : (row : List ℕ) → 10406 ≤ length row → (r : Refusal) × (walk_row row ≡ refused r)
long-refused row l = by (walk_row row) refl
  where
    by : (o : Outcome) → walk_row row ≡ o → (r : Refusal) × (walk_row row ≡ refused r)
    by (gives n) e = absurd (let m = row-most row n e in omega arith)
    by (refused r) e = (r, e)

write_refused : (row : List ℕ) (lent : ℕ) (r : Refusal) → walk_row row ≡ refused r → write_file row lent ≡ refused r
unfolding write_file judge
write_refused row lent r e = rw e

after_same : (o : Outcome) (r : Refusal) (a b buffer : List ℕ) → o ≡ refused r → after o a buffer ≡ after o b buffer
unfolding after
after_same o r a b buffer e = rw e

-- a long row and its front are refused alike
module _ (row entry : List ℕ) (l : 10406 ≤ length row) where
  abbrev front : List ℕ
  front = take 10406 row

  alike : write_file front (length entry) ≡ write_file row (length entry)
  alike =
      let x = long-refused row l in
      write_refused front (length entry) x.0 (row-front row l ∙ x.1) ∙ sym (write_refused row (length entry) x.0 x.1)

  kept : after (write_file front (length entry)) (file_of front) entry ≡ after (write_file row (length entry)) (file_of row) entry
  kept =
      let x = long-refused row l in
      ap (λ (o : Outcome). after o (file_of front) entry) alike ∙
      after_same (write_file row (length entry)) x.0 (file_of front) (file_of row) entry (write_refused row (length entry) x.0 x.1)

  -- so writing the one is writing the other
  pub writes-front : (exit : List ℕ) (r : Answer) → Writes front entry exit r → Writes row entry exit r
  writes-front exit r h = record { answer = h.answer ∙ alike; buffer = h.buffer ∙ kept }

  pub front-writes : (exit : List ℕ) (r : Answer) → Writes row entry exit r → Writes front entry exit r
  front-writes exit r h = record { answer = h.answer ∙ sym alike; buffer = h.buffer ∙ sym kept }
