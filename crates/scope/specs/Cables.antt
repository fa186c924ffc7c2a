-- Document 02, [3]: "A cable goes both ways." Which two links are one cable, and which of them is its name.
use Rattle.std.specs.Prelude.{ℕ, Bool, cond, ◌&&◌, length, ltb, eqb}
use Rattle.scope.specs.Lowest.{lowest, some}
use Rattle.scope.specs.Plan.{Plan, Link, link_of}

-- "the same ends reversed"
abbrev pub reversed_ends : Link → Link → Bool
reversed_ends a b = eqb a.from b.to && eqb a.to b.from

-- link e goes back where link d came from
abbrev pub goes_back : Plan → ℕ → ℕ → Bool
goes_back plan d e = reversed_ends (link_of plan d) (link_of plan e)

-- the other link of link d's cable, "if the plan has one", or else link d itself
unfoldable pub other_way : Plan → ℕ → ℕ
other_way plan d = cond (some (goes_back plan d) (length plan.links)) (lowest (goes_back plan d) (length plan.links)) d

-- "A pair names the lower-numbered of the two, so that a cable has one name": link d is the other one
abbrev pub is_higher : Plan → ℕ → Bool
is_higher plan d = ltb (other_way plan d) d
