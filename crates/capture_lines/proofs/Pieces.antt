-- What is read, byte by byte and piece by piece: a law for each way of the code.
use Prim.Native.Nat.{ℕ, ◌+◌, ◌<◌, ◌≤◌}
use mathlib.Core.Path.{◌≡◌, refl, sym, ◌∙◌, ap, subst}
use mathlib.Core.Bool.{Bool, true, false, cond, ◌&&◌, true≢false}
use mathlib.Core.List.{List, [], ◌∷◌, ◌++◌, append_assoc, append-nil}
use native.Mathlib.Omega.{arith}
use native.Mathlib.Numerals.{add-one}
use lib.ListN.{length, get_or, take, length-append, replicate}
use lib.Seq.{take-suc, take_all}
use lib.Dec.{ltb, eqb}
use borrow.Author.Tests.{ltb-true}
use Rattle.scope.specs.Limits.{crossed_size}
use Rattle.scope.specs.Plan.{Plan}
use Rattle.scope.specs.Lines.{capture_of}
use Rattle.text.specs.Reading.{goes_on}
use Rattle.capture.specs.Kept.{Keeps, Fits, Whole, Begins, Adds, Ends}
use Rattle.capture.specs.declared.Kept.{Kept}
use Rattle.capture.proofs.Keeping.{keeps-more}
use Rattle.capture_lines.specs.Rest.{fresh, end_mark, with_digit, with_number, step_of, line_after, is_fresh, rest_of, SmallLine}
use Rattle.capture_lines.specs.Reads.{Reads, going, decided, Feeds, Starts, Finishes}
use Rattle.capture_lines.specs.declared.Line.{Line}
use Rattle.capture_lines.specs.declared.Reading.{Reading}
use Rattle.capture_lines.specs.declared.Step.{Step}
use Rattle.capture_lines.specs.declared.Step.TheVariants.{On, End, Out}
use Rattle.capture_lines.proofs.Bytes.{digit_small, number_small}
use Rattle.capture_lines.proofs.Capture.{capture_adds}

-- a text with a byte more, by what the byte does
module _ (l : Line) (b : ℕ) (s : List ℕ) where
  rest_on : (next : Line) → step_of l b ≡ On next → rest_of l (b ∷ s) ≡ rest_of next s
  unfolding rest_of
  rest_on next e = rw e

  rest_end : step_of l b ≡ End → rest_of l (b ∷ s) ≡ l.older ∷ l.newer ∷ l.value ∷ rest_of fresh s
  unfolding rest_of
  rest_end e = rw e

  rest_out : step_of l b ≡ Out → rest_of l (b ∷ s) ≡ 0 ∷ []
  unfolding rest_of
  rest_out e = rw e

pub fresh-small : SmallLine fresh
fresh-small = record { numbers = omega arith; value = omega arith; older = omega arith; newer = omega arith }

-- a line stays small
after_small : (l : Line) (b : ℕ) → SmallLine l → SmallLine (line_after (step_of l b))
after_small l b s = by (goes_on 63 l.begun l.value b) (l.begun && eqb b (end_mark l.numbers)) (ltb l.numbers 2) refl refl
  where
    by : (t u v : Bool) → goes_on 63 l.begun l.value b ≡ t → ltb l.numbers 2 ≡ v →
        SmallLine (line_after (cond t (On (with_digit l b)) (cond u (cond v (On (with_number l)) End) Out)))
    by true u v g h = digit_small l b s g
    by false true true g h = number_small l s (ltb-true l.numbers 2 h)
    by false true false g h = fresh-small
    by false false v g h = fresh-small

-- what follows a piece and what was before it
shift : (before piece rest : List ℕ) → capture_of ((before ++ piece) ++ rest) ≡ capture_of (before ++ (piece ++ rest))
shift before piece rest = ap capture_of (append_assoc before piece rest)

-- a triple more
whole-more : (seen : List ℕ) (i e m : ℕ) → Whole seen → Whole (seen ++ i ∷ e ∷ m ∷ [])
whole-more seen i e m w = let l = length-append seen (i ∷ e ∷ m ∷ []) in omega arith

-- nothing is read
pub starts : (k : Kept) (l : Line) → Begins k → l ≡ fresh → Starts (record { kept = k; line = l })
starts k l h is = rw is (record { fits = h.fits; line = fresh-small; reads = λ plan. by plan k.bad refl })
  where
    by : (plan : Plan) (t : Bool) → k.bad ≡ t → Reads plan [] (replicate crossed_size 0) (record { kept = k; line = fresh })
    by plan false e = going e refl (h.keeps plan) (λ rest. capture_adds rest)
    by plan true e = decided e (λ rest. keeps-more plan [] (replicate crossed_size 0) k (h.keeps plan) refl e (capture_of rest))

module _ (plan : Plan) where
  module _ (crossed : List ℕ) (r : Reading) (size : length crossed ≡ crossed_size) (fits : Fits r.kept) (line : SmallLine r.line) where
    -- nothing more, and anything more where a bad triple is there
    pub feeds_none : Feeds plan [] crossed r crossed r
    feeds_none = record {
      size = size;
      fits = fits;
      line = line;
      reads = λ before h. subst (λ (x : List ℕ). Reads plan x crossed r) (sym (append-nil before)) h;
    }

    pub feeds_bad : (piece : List ℕ) → r.kept.bad ≡ true → Feeds plan piece crossed r crossed r
    feeds_bad piece e = record { size = size; fits = fits; line = line; reads = by }
      where
        by : (before : List ℕ) → Reads plan before crossed r → Reads plan (before ++ piece) crossed r
        by before (going f w k is) = absurd (true≢false (sym e ∙ f))
        by before (decided f k) =
            decided f (λ rest. subst (λ (x : List ℕ). Keeps plan x crossed r.kept) (sym (shift before piece rest)) (k (piece ++ rest)))

    module _ (b : ℕ) (good : r.kept.bad ≡ false) where
      pub feeds_on : (next : Line) → step_of r.line b ≡ On next →
          Feeds plan (b ∷ []) crossed r crossed (record { kept = r.kept; line = next })
      feeds_on next e = record {
        size = size;
        fits = fits;
        line = subst (λ (x : Step). SmallLine (line_after x)) e (after_small r.line b line);
        reads = by;
      }
        where
          by : (before : List ℕ) → Reads plan before crossed r →
              Reads plan (before ++ (b ∷ [])) crossed (record { kept = r.kept; line = next })
          by before (going {seen} f w k is) =
              going f w k (λ rest. shift before (b ∷ []) rest ∙ is (b ∷ rest) ∙ ap (λ (x : List ℕ). seen ++ x) (rest_on r.line b rest next
              e))
          by before (decided f k) = absurd (true≢false (sym f ∙ good))

      pub feeds_out : (k' : Kept) (l : Line) → step_of r.line b ≡ Out → Ends r.kept k' → l ≡ fresh →
          Feeds plan (b ∷ []) crossed r crossed (record { kept = k'; line = l })
      feeds_out k' l e ends new = rw new (record { size = size; fits = ends.fits fits; line = fresh-small; reads = by })
        where
          by : (before : List ℕ) → Reads plan before crossed r → Reads plan (before ++ (b ∷ [])) crossed (record { kept = k'; line = fresh })
          by before (going {seen} f w k is) =
              decided ends.bad
              (λ rest.
              subst (λ (x : List ℕ). Keeps plan x crossed k')
              (sym (shift before (b ∷ []) rest ∙ is (b ∷ rest) ∙ ap (λ (x : List ℕ). seen ++ x) (rest_out r.line b rest e)))
              (ends.keeps plan seen crossed w k (0 ∷ []) (omega arith) (omega arith)))
          by before (decided f k) = absurd (true≢false (sym f ∙ good))

      pub feeds_end : (crossed' : List ℕ) (k' : Kept) (l : Line) → step_of r.line b ≡ End →
          Adds plan r.line.older r.line.newer r.line.value crossed r.kept crossed' k' → l ≡ fresh →
          Feeds plan (b ∷ []) crossed r crossed' (record { kept = k'; line = l })
      feeds_end crossed' k' l e adds new = rw new (record { size = adds.size; fits = adds.fits; line = fresh-small; reads = by })
        where
          line-is : (seen before rest : List ℕ) → ((rest : List ℕ) → capture_of (before ++ rest) ≡ seen ++ rest_of r.line rest) →
              capture_of ((before ++ (b ∷ [])) ++ rest) ≡
              (seen ++ r.line.older ∷ r.line.newer ∷ r.line.value ∷ []) ++ rest_of fresh rest
          line-is seen before rest is =
              shift before (b ∷ []) rest ∙ is (b ∷ rest) ∙ ap (λ (x : List ℕ). seen ++ x) (rest_end r.line b rest e)
              ∙ sym (append_assoc seen (r.line.older ∷ r.line.newer ∷ r.line.value ∷ []) (rest_of fresh rest))

          split : (seen before : List ℕ) (t : Bool) → k'.bad ≡ t → Whole seen → Keeps plan seen crossed r.kept →
              ((rest : List ℕ) → capture_of (before ++ rest) ≡ seen ++ rest_of r.line rest) →
              Reads plan (before ++ (b ∷ [])) crossed' (record { kept = k'; line = fresh })
          split seen before false f w k is =
              going f (whole-more seen r.line.older r.line.newer r.line.value w) (adds.keeps seen w k)
              (λ rest. line-is seen before rest is)
          split seen before true f w k is =
              let triple = r.line.older ∷ r.line.newer ∷ r.line.value ∷ [] in
              decided f
              (λ rest.
              subst (λ (x : List ℕ). Keeps plan x crossed' k') (sym (line-is seen before rest is))
              (keeps-more plan (seen ++ triple) crossed' k' (adds.keeps seen w k)
              (whole-more seen r.line.older r.line.newer r.line.value w) f (rest_of fresh rest)))

          by : (before : List ℕ) → Reads plan before crossed r → Reads plan (before ++ (b ∷ [])) crossed' (record { kept = k'; line = fresh })
          by before (going {seen} f w k is) = split seen before k'.bad refl w k is
          by before (decided f k) = absurd (true≢false (sym f ∙ good))

  -- a loop that has read the first i bytes of a piece reads the next one
  pub feeds_more : (piece : List ℕ) (i : ℕ) (c c₁ c₂ : List ℕ) (r r₁ r₂ : Reading) (b : ℕ) → i < length piece → b ≡ get_or piece i 0 →
      Feeds plan (take i piece) c r c₁ r₁ → Feeds plan (b ∷ []) c₁ r₁ c₂ r₂ → Feeds plan (take (i + 1) piece) c r c₂ r₂
  feeds_more piece i c c₁ c₂ r r₁ r₂ b h is p q =
      let more : take (i + 1) piece ≡ take i piece ++ (b ∷ []) = rw (add-one, is, take-suc piece i 0) in
      record {
        size = q.size;
        fits = q.fits;
        line = q.line;
        reads =
            λ before known.
            subst (λ (x : List ℕ). Reads plan x c₂ r₂) (append_assoc before (take i piece) (b ∷ []) ∙ ap (λ (x : List ℕ). before ++ x) (sym
            more))
            (q.reads (before ++ take i piece) (p.reads before known));
      }

  pub feeds_all : (piece : List ℕ) (i : ℕ) (c c' : List ℕ) (r r' : Reading) → length piece ≤ i →
      Feeds plan (take i piece) c r c' r' → Feeds plan piece c r c' r'
  feeds_all piece i c c' r r' h p = rw (take_all i piece h) at p

-- the text has ended
module _ (r : Reading) where
  at-end : (plan : Plan) (text crossed : List ℕ) (k : Kept) → Keeps plan (capture_of (text ++ [])) crossed k →
      Keeps plan (capture_of text) crossed k
  at-end plan text crossed k h = rw (append-nil text) at h

  pub ends-bad : r.kept.bad ≡ true → Finishes r r.kept
  ends-bad e plan text crossed (going f w k is) = absurd (true≢false (sym e ∙ f))
  ends-bad e plan text crossed (decided f k) = at-end plan text crossed r.kept (k [])

  rest-fresh : is_fresh r.line ≡ true → rest_of r.line [] ≡ []
  unfolding rest_of
  rest-fresh e = rw e

  rest_midst : is_fresh r.line ≡ false → rest_of r.line [] ≡ 0 ∷ []
  unfolding rest_of
  rest_midst e = rw e

  module _ (good : r.kept.bad ≡ false) where
    pub ends_fresh : is_fresh r.line ≡ true → Finishes r r.kept
    ends_fresh e plan text crossed (going {seen} f w k is) =
        at-end plan text crossed r.kept
        (subst (λ (x : List ℕ). Keeps plan x crossed r.kept)
        (sym (is [] ∙ ap (λ (x : List ℕ). seen ++ x) (rest-fresh e) ∙ append-nil seen)) k)
    ends_fresh e plan text crossed (decided f k) = absurd (true≢false (sym f ∙ good))

    pub ends_midst : (k' : Kept) → is_fresh r.line ≡ false → Ends r.kept k' → Finishes r k'
    ends_midst k' e ends plan text crossed (going {seen} f w k is) =
        at-end plan text crossed k'
        (subst (λ (x : List ℕ). Keeps plan x crossed k') (sym (is [] ∙ ap (λ (x : List ℕ). seen ++ x) (rest_midst e)))
        (ends.keeps plan seen crossed w k (0 ∷ []) (omega arith) (omega arith)))
    ends_midst k' e ends plan text crossed (decided f k) = absurd (true≢false (sym f ∙ good))
