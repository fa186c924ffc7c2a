-- The lowest link with each two ends, as a list of bytes: that link plus one, or 0 where there is none.
use Rattle.std.specs.Prelude.{ℕ, ◌+◌, ◌-◌, ◌*◌, ◌<◌, ◌≡◌, Bool, cond, Option, Some, None, List, length, get_or, replicate, ltb}
use Rattle.scope.specs.Limits.{most_vertices, most_links, ends_size}
use Rattle.scope.specs.Lowest.{seek}
use Rattle.scope.specs.Plan.{Plan, link_of, link_count, plan_of}
use Rattle.scope.specs.Cables.{reversed_ends, other_way}
use Rattle.rows.specs.Lies.{PlanLies}

-- link e leads from vertex a to vertex b: its ends are those of a link from b to a, reversed
abbrev pub leads : Plan → ℕ → ℕ → ℕ → Bool
leads plan a b e = reversed_ends (record { from = b; to = a }) (link_of plan e)

-- the lowest from link e on that does
abbrev pub lowest_from : Plan → ℕ → ℕ → ℕ → Option ℕ
lowest_from plan a b e =
    let n = length plan.links in
    let d = seek (leads plan a b) (n - e) e in
    cond (ltb d n) (Some d) None

-- as a byte
abbrev pub end_byte : Option ℕ → ℕ
end_byte None = 0
end_byte (Some e) = e + 1

-- where the list has two ends
abbrev pub ends_index : ℕ → ℕ → ℕ
ends_index a b = a * most_vertices + b

-- it has those from link e on
pub record EndsFrom (plan : Plan) (e : ℕ) (table : List ℕ) : Type 0 where
  pub size : length table ≡ ends_size
  pub is : (a b : ℕ) → a < most_vertices → b < most_vertices → get_or table (ends_index a b) 0 ≡ end_byte (lowest_from plan a b e)

pub record MayPut (row table : List ℕ) : Type 0 where
  pub lies : PlanLies row
  pub clear : table ≡ replicate ends_size 0

pub record MayFind (row table : List ℕ) (e : ℕ) : Type 0 where
  pub lies : PlanLies row
  pub ends : EndsFrom (plan_of row) 0 table
  pub there : e < link_count row

-- a byte that is the other way of link e
pub record IsOther (plan : Plan) (e r : ℕ) : Type 0 where
  pub is : r ≡ other_way plan e
  pub below : r < most_links
