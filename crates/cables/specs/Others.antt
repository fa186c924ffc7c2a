-- The other way of each link, as a list with a byte a link.
use Rattle.std.specs.Prelude.{ℕ, ◌<◌, ◌≡◌, cond, List, length, map, get_or, ltb}
use Rattle.std.specs.List.{range_with_len}
use Rattle.scope.specs.Limits.{most_links}
use Rattle.scope.specs.Plan.{Plan}
use Rattle.scope.specs.Cables.{other_way}

-- the other way of link e; a link past the list is its own
abbrev pub other_in : List ℕ → ℕ → ℕ
other_in others e = get_or others e e

-- a byte for each link that a plan can have, each of them such a link
pub record AreLinks (others : List ℕ) : Type 0 where
  pub size : length others ≡ most_links
  pub below : (e : ℕ) → e < most_links → other_in others e < most_links

-- the list of a plan: of bytes past its links no more is said
pub record OtherWays (plan : Plan) (others : List ℕ) : Type 0 where
  pub bytes : AreLinks others
  pub is : (e : ℕ) → e < length plan.links → other_in others e ≡ other_way plan e

-- for every link that a plan can have, 1 where it is the higher one of its cable, else 0
unfoldable pub higher_of : List ℕ → List ℕ
higher_of others = map (λ e. cond (ltb (other_in others e) e) 1 0) (range_with_len 0 most_links)
