-- A walk over a capture, triple by triple: what is kept of those before the rest.
use Rattle.std.proofs.Common.{◌≡◌, ℕ, ◌<◌, true, List, [], ◌∷◌, ◌++◌, length, get_or, replicate, min, refl, sym, ◌∙◌, ap, append-nil, append_assoc, arith, length-append}
use Rattle.scope.specs.Limits.{crossed_size}
use Rattle.scope.specs.Plan.{Plan}
use Rattle.capture.specs.declared.Kept.{Kept}
use Rattle.capture.specs.Kept.{Keeps, Whole, Begins, Adds, Ends}
use Rattle.capture.proofs.Keeping.{keeps-more}

-- a list of three numbers, and one that is empty
three : (xs : List ℕ) → length xs ≡ 3 → xs ≡ get_or xs 0 0 ∷ get_or xs 1 0 ∷ get_or xs 2 0 ∷ []
three [] h = absurd (omega arith)
three (a ∷ []) h = absurd (omega arith)
three (a ∷ b ∷ []) h = absurd (omega arith)
three (a ∷ b ∷ c ∷ []) h = refl
three (a ∷ b ∷ c ∷ d ∷ xs) h = absurd (omega arith)

empty : (xs : List ℕ) → length xs ≡ 0 → xs ≡ []
empty [] h = refl
empty (a ∷ xs) h = absurd (omega arith)

module _ (plan : Plan) (capture : List ℕ) where
  -- the triples before the rest are kept
  pub record Walking (rest crossed : List ℕ) (k : Kept) : Type 0 where
    pub front : List ℕ
    pub joined : front ++ rest ≡ capture
    pub whole : Whole front
    pub keeps : Keeps plan front crossed k

  -- it begins, it goes on, the next triple is unfinished or bad
  pub walk_first : (rest crossed : List ℕ) (k : Kept) → rest ≡ capture → crossed ≡ replicate crossed_size 0 → Begins k → Walking rest crossed k
  walk_first rest crossed k all e b = record { front = []; joined = all; whole = refl; keeps = rw e (b.keeps plan) }

  module _ (rest crossed : List ℕ) (k : Kept) (w : Walking rest crossed k) (piece rest' crossed' : List ℕ) (r : Kept)
      (cut : rest ≡ piece ++ rest') where
    pub walk_next : (a b c : ℕ) → length piece ≡ 3 → a ≡ get_or piece 0 0 → b ≡ get_or piece 1 0 → c ≡ get_or piece 2 0 →
        Adds plan a b c crossed k crossed' r → Walking rest' crossed' r
    walk_next a b c h p q s adds =
        let e : piece ≡ a ∷ b ∷ c ∷ [] = rw (p, q, s) (three piece h) in record {
          front = w.front ++ piece;
          joined = append_assoc w.front piece rest' ∙ ap (λ xs. w.front ++ xs) (sym cut) ∙ w.joined;
          whole = omega (arith, w.whole, length-append w.front piece);
          keeps = rw e (adds.keeps w.front w.whole w.keeps);
        }

    pub walk_end : length piece ≡ min 3 (length rest) → 0 < length rest → length piece < 3 → Ends k r → Keeps plan capture crossed r
    walk_end least some few ends =
        let none : rest' ≡ [] = empty rest' (omega (arith, ap length cut, length-append piece rest')) in
        let all : rest ≡ piece = cut ∙ rw none (append-nil piece) in
        let end : Keeps plan (w.front ++ piece) crossed r = ends.keeps plan w.front crossed w.whole w.keeps piece (omega (arith, ap length all)) few in
        rw (ap (λ xs. w.front ++ xs) (sym all) ∙ w.joined) at end

  pub walk_bad : (rest crossed : List ℕ) (k : Kept) → Walking rest crossed k → k.bad ≡ true → Keeps plan capture crossed k
  walk_bad rest crossed k w h = rw w.joined at (keeps-more plan w.front crossed k w.keeps w.whole h rest)
