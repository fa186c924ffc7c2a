-- The links that are to be tried, and those that are not.
use mathlib.Core.Path.{◌≡◌, refl, sym}
use mathlib.Core.Bool.{Bool, true, false, not, ◌&&◌, ◌||◌, true≢false}

-- a link that is not to be tried is closed, or crossed later or, where all are named, not named
pub not_open : {P : Type 0} (closed unseen all named : Bool) → (not closed && (unseen && (not all || named))) ≡ false → (closed ≡ true → P) →
    (unseen ≡ false → P) → (all ≡ true → named ≡ false → P) → P
not_open true unseen all named e shut later other = shut refl
not_open false false all named e shut later other = later refl
not_open false true true true e shut later other = absurd (true≢false e)
not_open false true true false e shut later other = other refl refl
not_open false true false named e shut later other = absurd (true≢false e)

-- one that is to be tried is not closed
pub open_whole : (closed rest : Bool) → (not closed && rest) ≡ true → closed ≡ false
open_whole true rest e = absurd (true≢false (sym e))
open_whole false rest e = refl
