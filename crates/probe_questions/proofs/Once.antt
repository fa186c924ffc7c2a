-- A verdict has one line, and so has an explanation.
use Prim.Native.Nat.{ℕ, ◌+◌}
use mathlib.Core.Path.{◌≡◌, refl, sym, ◌∙◌, ap₂}
use mathlib.Core.Bool.{Bool, true, false}
use mathlib.Core.List.{List, ◌++◌}
use lib.ListN.{length, replicate, take, drop}
use lib.Dec.{ltb}
use borrow.Author.Tests.{ltb-true, ltb-false}
use Rattle.scope.specs.Plan.{at}
use Rattle.verdicts.specs.Verdict.{Ruling}
use Rattle.verdicts.proofs.Ways.{one_outcome}
use Rattle.explanations.specs.Explained.{Explanation}
use Rattle.explanations.proofs.Ways.{one_outcome as explained-once}
use Rattle.probe_words.specs.Words.{filler16}
use Rattle.probe_questions.specs.Asked.{ruling_line, Ruled, Asks, Judges, explanation_line, Explained, Explains}

one_ruling : (row : List ℕ) (k l room : ℕ) (line line' : List ℕ) → Ruled row k l room line → Ruled row k l room line' → line ≡ line'
one_ruling row k l room line line' a b =
    let two = one_outcome row k l (replicate room filler16) a.list b.list a.ruling b.ruling a.answered b.answered in
    a.is ∙ ap₂ (λ (r : Ruling) (s : List ℕ). ruling_line r (s ++ replicate 16 filler16)) two.0 two.1 ∙ sym b.is

one_explained : (row capture : List ℕ) (k room : ℕ) (line line' : List ℕ) → Explained row capture k room line →
    Explained row capture k room line' → line ≡ line'
one_explained row capture k room line line' a b =
    let two =
    explained-once row k capture (replicate room filler16) a.list b.list a.explanation b.explanation a.answered b.answered in
    a.is ∙ ap₂ (λ (r : Explanation) (s : List ℕ). explanation_line r (s ++ replicate 16 filler16)) two.0 two.1 ∙ sym b.is

-- a question that has one answer has one line
one_line : (least room size : ℕ) (given : List ℕ) (Answer : List ℕ → Type 0) → ((line line' : List ℕ) → Answer line → Answer line' → line ≡ line') →
    (line line' : List ℕ) → Asks least room size given Answer line → Asks least room size given Answer line' → line ≡ line'
one_line least room size given Answer once line line' a b = by (ltb (length given) least) (ltb size (room + 16)) refl refl
  where
    by : (t u : Bool) → ltb (length given) least ≡ t → ltb size (room + 16) ≡ u → line ≡ line'
    by true u e f = let h = ltb-true (length given) least e in a.few h ∙ sym (b.few h)
    by false true e f = let h = ltb-true size (room + 16) f in a.short h ∙ sym (b.short h)
    by false false e f =
        let h = ltb-false (length given) least e in
        let k = ltb-false size (room + 16) f in
        once line line' (a.asked h k) (b.asked h k)

pub one_verdict : (size : ℕ) (given line line' : List ℕ) → Judges size given line → Judges size given line' → line ≡ line'
one_verdict size given = one_line 3 (at given 2) size given _ (one_ruling (drop 3 given) (at given 0) (at given 1) (at given 2))

pub one_explanation : (size : ℕ) (given line line' : List ℕ) → Explains size given line → Explains size given line' → line ≡ line'
one_explanation size given =
    one_line (at given 2 + 3) (at given 1) size given _
    (one_explained (drop (at given 2 + 3) given) (take (at given 2) (drop 3 given)) (at given 0) (at given 1))
