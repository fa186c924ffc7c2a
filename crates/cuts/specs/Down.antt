-- What is down in a slot, one byte a link: what a slot is lent, and how a cut list becomes it.
use Rattle.std.specs.Prelude.{ℕ, ◌≡◌, Bool, cond, ◌&&◌, ◌||◌, List, length, get_or, set, ltb, leb, eqb}
use Rattle.scope.specs.Limits.{most_links}
use Rattle.scope.specs.Lowest.{some}
use Rattle.scope.specs.Cuts.{pairs, cut_slot, cut_link}
use Rattle.cables.specs.Others.{other_in}

-- link e is down: its byte is not 0, and a link past the list is whole
abbrev pub is_down : List ℕ → ℕ → Bool
is_down down e = ltb 0 (get_or down e 0)

-- one more link is down
abbrev pub with_link : List ℕ → ℕ → List ℕ
with_link down e = set down e 1

-- and the other way of it
abbrev pub with_cable : List ℕ → List ℕ → ℕ → List ℕ
with_cable others down e = with_link (with_link down e) (other_in others e)

-- one more pair, of slot `at`: if it is not later than slot i, its cable is down
abbrev pub with_pair : List ℕ → List ℕ → ℕ → ℕ → ℕ → List ℕ
with_pair others down at link i = cond (leb at i) (with_cable others down link) down

-- link e, or the link whose other way it is, is named by a pair that is not later than slot i
abbrev pub cut_in : List ℕ → List ℕ → ℕ → ℕ → Bool
cut_in others cuts i e =
    some (λ j. (eqb (cut_link cuts j) e || eqb (other_in others (cut_link cuts j)) e) && leb (cut_slot cuts j) i) (pairs cuts)

-- of the links that a plan can have, those that a list cuts in slot i
abbrev pub cut_below : List ℕ → List ℕ → ℕ → ℕ → Bool
cut_below others cuts i e = ltb e most_links && cut_in others cuts i e

-- they are what is down
pub record DownIn (others cuts : List ℕ) (i : ℕ) (down : List ℕ) : Type 0 where
  pub long : length down ≡ most_links
  pub is : (e : ℕ) → is_down down e ≡ cut_below others cuts i e
