-- What the replay program prints for the first 65 lines of an input, or for its first 650 bytes or more, it prints for the whole input.
use Prim.Native.Nat.{ℕ, zero, suc, ◌+◌, ◌^◌, ◌≤◌, ◌<◌}
use mathlib.Core.Path.{◌≡◌, refl, sym, ◌∙◌, ap}
use mathlib.Core.Bool.{Bool, true, false, cond}
use mathlib.Core.List.{List, [], ◌∷◌}
use native.Mathlib.Omega.{arith}
use lib.ListN.{length, take}
use lib.Dec.{ltb, eqb}
use borrow.Author.Tests.{ltb-true}
use Rattle.scope.specs.declared.Fields.{Fields}
use Rattle.scope.proofs.Outcomes.{not-both}
use Rattle.scope.specs.declared.Refusal.{Refusal}
use Rattle.scope.specs.Outcome.{Outcome, gives, refused, refuse, and_then, room}
use Rattle.scope.specs.Fields.{opening, edition, step, width}
use Rattle.scope.specs.Row.{walk_from, walk_row}
use Rattle.scope.specs.Plan.{plan_of, at, links_at, link_count, first_link}
use Rattle.scope.specs.Rules.{rules}
use Rattle.scope.specs.Cuts.{check_cuts}
use Rattle.scope.specs.Cycle.{event_row, arrivals}
use Rattle.scope.specs.Questions.{judge, replay}
use Rattle.scope.specs.Lines.{cuts_from, cuts_of, listing, refused_line}
use Rattle.cut_lines.proofs.Enough.{enough, enough-cuts}

-- a row whose fields are in form has at most 64 links
walk_more : (s : Fields) (i v : ℕ) (vs : List ℕ) (n : ℕ) → walk_from s i (v ∷ vs) ≡ gives n → (v < 2 ^ width s) ×
    (walk_from (step s v) (i + 1) vs ≡ gives n)
unfolding walk_from
walk_more s i v vs n h = by (eqb (width s) 0) (ltb v (2 ^ width s)) refl h
  where
    by : (t u : Bool) → ltb v (2 ^ width s) ≡ u →
        cond t (refuse 4 i) (cond u (walk_from (step s v) (i + 1) vs) (refuse 3 i)) ≡ gives n →
        (v < 2 ^ width s) × (walk_from (step s v) (i + 1) vs ≡ gives n)
    by true u p h = not-both h
    by false true p h = (ltb-true v (2 ^ width s) p, h)
    by false false p h = not-both h

few-first : (row : List ℕ) (n : ℕ) → walk_row row ≡ gives n → at row 2 < 64
unfolding walk_row walk_from
few-first [] n h = not-both h
few-first (e ∷ []) n h = omega arith
few-first (e ∷ v ∷ []) n h = omega arith
few-first (e ∷ v ∷ l ∷ row) n h = by (eqb e edition) h
  where
    by : (t : Bool) → cond t (walk_from opening 1 (v ∷ l ∷ row)) (refuse 1 0) ≡ gives n → l < 64
    by true h = (walk_more (step opening v) 2 l row n (walk_more opening 1 v (l ∷ row) n h).1).0
    by false h = not-both h

count-links : (row : List ℕ) (i n : ℕ) → length (links_at row i n) ≡ n
unfolding links_at
count-links row i zero = refl
count-links row i (suc n) = ap suc (count-links row (i + 2) n)

pub few-links : (row : List ℕ) (n : ℕ) → judge row ≡ gives n → length (plan_of row).links ≤ 64
unfolding judge plan_of
few-links row n h = by (walk_row row) refl h
  where
    by : (o : Outcome) → walk_row row ≡ o → and_then o (λ n. and_then (rules (plan_of row)) (λ _. gives n)) ≡ gives n →
        length (links_at row first_link (link_count row)) ≤ 64
    by (gives m) e h =
        let l = few-first row m e in
        let c = count-links row first_link (link_count row) in
        omega arith
    by (refused r) e h = not-both h

-- the text of a replay of a row, from the outcome of its check of the cuts on
finish : List ℕ → ℕ → List ℕ → Outcome → List ℕ
finish row lent cuts o =
    listing (and_then o (λ _. and_then (room (length (event_row (plan_of row) cuts)) lent) (λ _. gives (arrivals (plan_of row) cuts))))
    (plan_of row) (event_row (plan_of row) cuts)

-- it is the same for cuts that are refused, whatever they are
finish_refused : (row : List ℕ) (lent : ℕ) (c d : List ℕ) (r : Refusal) → finish row lent c (refused r) ≡ finish row lent d (refused r)
unfolding finish listing
finish_refused row lent c d r = refl

-- the text of a replay
abbrev text_of : List ℕ → ℕ → List ℕ → List ℕ
text_of row lent cuts = listing (replay row cuts lent) (plan_of row) (event_row (plan_of row) cuts)

text-refused : (row : List ℕ) (lent : ℕ) (cuts : List ℕ) (r : Refusal) → judge row ≡ refused r → text_of row lent cuts ≡ refused_line r
unfolding replay listing
text-refused row lent cuts r e = rw e

text_given : (row : List ℕ) (lent : ℕ) (cuts : List ℕ) (n : ℕ) → judge row ≡ gives n →
    text_of row lent cuts ≡ finish row lent cuts (check_cuts (plan_of row) cuts)
unfolding replay finish
text_given row lent cuts n e = rw e

module _ (row input : List ℕ) (lent m : ℕ) (enough_bytes : 650 ≤ m) where
  alike : length (plan_of row).links ≤ 64 → (o : Outcome) → check_cuts (plan_of row) (cuts_of input) ≡ o →
      finish row lent (cuts_from 65 (take m input) 0) (check_cuts (plan_of row) (cuts_from 65 (take m input) 0)) ≡
      finish row lent (cuts_of input) (check_cuts (plan_of row) (cuts_of input))
  alike few (gives n) e =
      let same = enough-cuts (plan_of row) few input m n enough_bytes e in
      ap (λ (c : List ℕ). finish row lent c (check_cuts (plan_of row) c)) same
  alike few (refused r) e =
      ap (finish row lent (cuts_from 65 (take m input) 0)) (enough (plan_of row) few input m enough_bytes ∙ e)
      ∙ finish_refused row lent (cuts_from 65 (take m input) 0) (cuts_of input) r
      ∙ ap (finish row lent (cuts_of input)) (sym e)

  pub replay-enough :
      listing (replay row (cuts_from 65 (take m input) 0) lent) (plan_of row) (event_row (plan_of row) (cuts_from 65 (take m input) 0)) ≡
      listing (replay row (cuts_of input) lent) (plan_of row) (event_row (plan_of row) (cuts_of input))
  replay-enough = by (judge row) refl
    where
      by : (o : Outcome) → judge row ≡ o → text_of row lent (cuts_from 65 (take m input) 0) ≡ text_of row lent (cuts_of input)
      by (gives n) e =
          text_given row lent (cuts_from 65 (take m input) 0) n e
          ∙ alike (few-links row n e) (check_cuts (plan_of row) (cuts_of input)) refl
          ∙ sym (text_given row lent (cuts_of input) n e)
      by (refused r) e = text-refused row lent (cuts_from 65 (take m input) 0) r e ∙ sym (text-refused row lent (cuts_of input) r e)
