-- A loop that changes an array in place, element by element: the first j are done, the rest are as they were.
use Prim.Native.Nat.{ℕ, ◌+◌, ◌≤◌, ◌<◌}
use mathlib.Core.Path.{◌≡◌, refl, sym, ◌∙◌, subst}
use mathlib.Core.Bool.{Bool, true, false}
use mathlib.Core.List.{List}
use native.Mathlib.Omega.{arith}
use lib.ListN.{length, get_or, set, length-set}
use lib.Seq.{get_or-set_same, get_or-set_other}
use lib.Dec.{eqb}
use borrow.Author.Tests.{eqb-true, eqb-false}

module _ {A : Type 0} (d : A) (P : ℕ → A → A → Type 0) where
  pub record Walk (j : ℕ) (old new : List A) : Type 0 where
    pub long : length new ≡ length old
    pub done : (k : ℕ) → k < j → P k (get_or old k d) (get_or new k d)
    pub rest : (k : ℕ) → j ≤ k → get_or new k d ≡ get_or old k d

  pub walk_none : (old : List A) → Walk 0 old old
  walk_none old = record { long = refl; done = λ k h. absurd (omega arith); rest = λ k h. refl }

  pub walk_more : (j : ℕ) (old new : List A) (v : A) → Walk j old new → j < length old → P j (get_or new j d) v → Walk (j + 1) old (set new j v)
  walk_more j old new v w h p =
      record {
        long = length-set new j v ∙ w.long;
        done = λ k l. by k l (eqb k j) refl;
        rest = λ k l. get_or-set_other new j k v d (λ e. omega arith) ∙ w.rest k (omega arith);
      }
    where
      here : P j (get_or old j d) (get_or (set new j v) j d)
      here =
          let l : j < length new = omega (arith, w.long) in
          rw (get_or-set_same new j v d l, ← w.rest j (omega arith)) p

      by : (k : ℕ) → k < j + 1 → (b : Bool) → eqb k j ≡ b → P k (get_or old k d) (get_or (set new j v) k d)
      by k l true e = subst (λ i. P i (get_or old i d) (get_or (set new j v) i d)) (sym (eqb-true k j e)) here
      by k l false e =
          let n : k ≡ j → ⊥ = eqb-false k j e in
          rw (get_or-set_other new j k v d n) (w.done k (omega (arith, n)))
