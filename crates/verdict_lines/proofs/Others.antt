-- Numbers with a space between them, as the code lays them: none, or the first and each of the others after a space.
use Rattle.std.proofs.Common.{◌≡◌, ℕ, ◌-◌, ◌≤◌, ◌<◌, List, [], ◌∷◌, ◌++◌, length, get_or, take, drop, refl, arith, length-drop, take_all}
use Rattle.scope.specs.Lines.{decimal, spaced, parted}
use Rattle.text.specs.Text.{Told, Puts}
use Rattle.text.proofs.Laid.{told-first, told-rest, then, puts_none}

pub none-parted : (ns b : List ℕ) (i : ℕ) → length ns < 1 → Puts (parted ns) b b i i
unfolding parted
none-parted [] b i h = puts_none b i
none-parted (n ∷ ns) b i h = absurd (omega arith)

parted-some : (ns : List ℕ) → 1 ≤ length ns → parted ns ≡ decimal (get_or ns 0 0) ++ spaced (drop 1 ns)
unfolding parted
parted-some [] h = absurd (omega arith)
parted-some (n ∷ ns) h = refl

module _ (ns : List ℕ) (h : 1 ≤ length ns) where
  others : take (length ns - 1) (drop 1 ns) ≡ drop 1 ns
  others = take_all (length ns - 1) (drop 1 ns) (let l = length-drop 1 ns in omega arith)

  module _ {i : ℕ} (told : Told i (parted ns)) where
    told' : Told i (decimal (get_or ns 0 0) ++ spaced (drop 1 ns))
    told' = rw (parted-some ns h) at told

    pub first-told : Told i (decimal (get_or ns 0 0))
    first-told = told-first _ _ told'

    pub others-told : {b c : List ℕ} {j : ℕ} → Puts (decimal (get_or ns 0 0)) b c i j → Told j (spaced (take (length ns - 1) (drop 1 ns)))
    others-told p = rw others (told-rest p _ told')

  pub some-parted : {b c d : List ℕ} {i j k : ℕ} → Puts (decimal (get_or ns 0 0)) b c i j →
      Puts (spaced (take (length ns - 1) (drop 1 ns))) c d j k → Puts (parted ns) b d i k
  some-parted p q = rw (parted-some ns h) (then p (rw others at q))
