-- Of a plan file, one byte more than the longest has decides: a longer file is refused as its front is.
use Prim.Native.Nat.{ℕ, ◌<◌}
use mathlib.Core.Path.{◌≡◌, refl, ◌∙◌, subst}
use mathlib.Core.Bool.{Bool, true, false}
use mathlib.Core.List.{List}
use native.Mathlib.Omega.{arith}
use lib.ListN.{length, take}
use lib.Seq.{take_all}
use lib.Dec.{ltb}
use borrow.Author.Tests.{ltb-true, ltb-false}
use Rattle.scope.specs.declared.Refusal.{Refusal}
use Rattle.scope.specs.Limits.{longest_file, longest_row, plan_room}
use Rattle.scope.specs.Outcome.{Outcome, gives, refused}
use Rattle.scope.specs.File.{walk_file}
use Rattle.scope.specs.Questions.{read_file}
use Rattle.forms.proofs.Theorems.{file-most, front_decides}

form-refused : (file : List ℕ) (r : Refusal) → walk_file file ≡ refused r → read_file file longest_row ≡ refused r
unfolding read_file
form-refused file r e = rw e

-- so what holds of the front holds of the file, if it goes from one to the other where both are refused alike
pub from_front : (P : List ℕ → Type 0) (file : List ℕ) →
    ((r : Refusal) → read_file (take plan_room file) longest_row ≡ refused r → read_file file longest_row ≡ refused r →
    P (take plan_room file) → P file) →
    P (take plan_room file) → P file
from_front P file both h = by (ltb longest_file (length file)) refl
  where
    long : longest_file < length file → (o : Outcome) → walk_file file ≡ o → P file
    long l (gives end) e = absurd (let m = file-most file end e in omega arith)
    long l (refused r) e = both r (form-refused (take plan_room file) r (front_decides file l ∙ e)) (form-refused file r e) h

    by : (t : Bool) → ltb longest_file (length file) ≡ t → P file
    by true e = long (ltb-true longest_file (length file) e) (walk_file file) refl
    by false e =
        let l = ltb-false longest_file (length file) e in
        subst P (take_all plan_room file (omega arith)) h
