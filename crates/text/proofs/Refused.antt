-- Laws of a refusal's text: with a place and a step, and without; and how long it can be.
use Prim.Native.Nat.{ℕ, ◌≤◌}
use mathlib.Core.Path.{◌≡◌, refl, ap}
use mathlib.Core.Bool.{Bool, true, false, cond}
use mathlib.Core.List.{List, [], ◌∷◌, ◌++◌}
use native.Mathlib.Omega.{arith}
use lib.ListN.{length, length-append}
use Rattle.scope.specs.declared.Refusal.{Refusal}
use Rattle.scope.specs.Outcome.{names_link}
use Rattle.scope.specs.Lines.{decimal, space, path_text, refused_text}
use Rattle.text.proofs.Decimal.{decimal-all}

-- a space before each of two numbers
abbrev pub spaced_two : ℕ → ℕ → List ℕ
spaced_two p s = space ++ (decimal p ++ (space ++ decimal s))

module _ (r : Refusal) where
  pub path_none : names_link r.no ≡ false → path_text r ≡ []
  path_none e = ap (λ (t : Bool). cond t (spaced_two r.at r.step) []) e

  pub path_both : names_link r.no ≡ true → path_text r ≡ spaced_two r.at r.step
  path_both e = ap (λ (t : Bool). cond t (spaced_two r.at r.step) []) e

  path_size : length (path_text r) ≤ 42
  path_size = by (names_link r.no) refl
    where
      by : (t : Bool) → names_link r.no ≡ t → length (path_text r) ≤ 42
      by true e =
          let p = decimal-all r.at in
          let s = decimal-all r.step in
          let a = length-append (decimal r.at) (space ++ decimal r.step) in
          let l = ap length (path_both e) in
          omega arith
      by false e = let l = ap length (path_none e) in omega arith

  pub refused_text_size : length (refused_text r) ≤ 97
  refused_text_size =
      let n = decimal-all r.no in
      let p = decimal-all r.place in
      let path = path_size in
      let a = length-append (decimal r.no) ((32 ∷ 112 ∷ 108 ∷ 97 ∷ 99 ∷ 101 ∷ 32 ∷ []) ++ (decimal r.place ++ path_text r)) in
      let b = length-append (decimal r.place) (path_text r) in
      omega arith
