-- Request [1] of document 02, "Tell the planner which rule a path broke": the eight rules of paths by name, and how a refusal names the first
-- link at fault.
use Rattle.std.specs.Prelude.{ℕ, ◌+◌, Bool, cond, not, ◌&&◌, List, ◌∷◌, length, get_or, take, ltb, eqb}
use Rattle.scope.specs.Lowest.{lowest, some}
use Rattle.scope.specs.Outcome.{Outcome, refuse_on}
use Rattle.scope.specs.Plan.{Plan, Link, Place, link_of, path_of, place_of}
use Rattle.scope.specs.Good.{has, visited, links_of, head_of, last_of, end_of}

-- the link of step s of a path, and the vertices visited before that step, after the first one
abbrev pub link_in : Plan → List ℕ → ℕ → Link
link_in plan es s = link_of plan (get_or es s 0)

abbrev pub before : Plan → List ℕ → ℕ → List ℕ
before plan es s = visited plan (take s es)

-- What a link of a path can be at fault for, the link of step s.

-- "a link not below E"
abbrev pub no_link : Plan → List ℕ → ℕ → Bool
no_link plan es s = not (ltb (get_or es s 0) (length plan.links))

-- "links that don't join", "a wrong beginning or join": it does not begin where the one before ended, the first one not at vertex v
abbrev pub apart : Plan → ℕ → List ℕ → ℕ → Bool
apart plan v es s = not (eqb (link_in plan es s).from (last_of v (before plan es s)))

-- "a vertex met twice": it leads to one that is met already, and vertex v, where the path begins, is
abbrev pub again : Plan → ℕ → List ℕ → ℕ → Bool
again plan v es s = has (link_in plan es s).to (v ∷ before plan es s)

-- "a wrong end": it is the last link and does not lead to vertex `end`
abbrev pub astray : Plan → ℕ → List ℕ → ℕ → Bool
astray plan end es s = eqb (s + 1) (length es) && not (eqb (link_in plan es s).to end)

-- "a start with the replaced link": it is the first link, and this one
abbrev pub replaced : ℕ → List ℕ → ℕ → Bool
replaced link es s = eqb s 0 && eqb (get_or es s 0) link

-- A rule as it is asked of a plan's paths: how many links there are at place p of message m, and whether it is broken there in step s.
pub record PathRule : Type 0 where
  pub links : ℕ → ℕ → ℕ
  pub broken : ℕ → ℕ → ℕ → Bool

-- "on a first path the step is the place"
abbrev pub on_first : Plan → (List ℕ → ℕ → Bool) → PathRule
on_first plan fault =
    record {
      links = λ m p. length (path_of plan m);
      broken = λ m p s. eqb s p && fault (links_of (path_of plan m)) s;
    }

-- on a second path the place is the one that it starts from
abbrev pub on_second : Plan → (ℕ → Place → ℕ → Bool) → PathRule
on_second plan fault =
    record {
      links = λ m p. length (place_of plan m p).second;
      broken = λ m p s. fault m (place_of plan m p) s;
    }

-- the vertices where a path of its own begins, and where a place of a first path stands
abbrev pub begins_at : Plan → List ℕ → ℕ
begins_at plan es = (link_of plan (head_of es)).from

abbrev pub stands_at : Plan → Place → ℕ
stands_at plan p = (link_of plan p.link).from

-- "Number 7 keeps only a link not below E; 14 is links that don't join, 15 a vertex met twice."
abbrev pub first_no_link : Plan → PathRule
first_no_link plan = on_first plan (no_link plan)

abbrev pub first_apart : Plan → PathRule
first_apart plan = on_first plan (λ es. apart plan (begins_at plan es) es)

abbrev pub first_again : Plan → PathRule
first_again plan = on_first plan (λ es. again plan (begins_at plan es) es)

-- "Number 10 likewise keeps the bad link; 16 is a wrong beginning or join, 17 a wrong end, 18 a vertex met twice, 19 a start with the
-- replaced link."
abbrev pub second_no_link : Plan → PathRule
second_no_link plan = on_second plan (λ m p. no_link plan p.second)

abbrev pub second_apart : Plan → PathRule
second_apart plan = on_second plan (λ m p. apart plan (stands_at plan p) p.second)

abbrev pub second_astray : Plan → PathRule
second_astray plan = on_second plan (λ m p. astray plan (end_of plan (links_of (path_of plan m))) p.second)

abbrev pub second_again : Plan → PathRule
second_again plan = on_second plan (λ m p. again plan (stands_at plan p) p.second)

abbrev pub second_replaced : Plan → PathRule
second_replaced plan = on_second plan (λ m p. replaced p.link p.second)

-- a message breaks a rule at a place, and at some place
abbrev pub breaks_at : PathRule → ℕ → ℕ → Bool
breaks_at rule m p = some (rule.broken m p) (rule.links m p)

abbrev pub breaks_it : Plan → PathRule → ℕ → Bool
breaks_it plan rule m = some (breaks_at rule m) (length (path_of plan m))

-- the place and the step at which a message breaks a rule
abbrev pub place_broken : Plan → PathRule → ℕ → ℕ
place_broken plan rule m = lowest (breaks_at rule m) (length (path_of plan m))

abbrev pub step_broken : Plan → PathRule → ℕ → ℕ
step_broken plan rule m =
    let p = place_broken plan rule m in
    lowest (rule.broken m p) (rule.links m p)

-- "the earliest that applies to any path is given, for its lowest message, then place, then step": refusal k of a rule, or else what comes
-- after it
abbrev pub unless_on : Plan → ℕ → PathRule → Outcome → Outcome
unless_on plan k rule after =
    let n = length plan.messages in
    let m = lowest (breaks_it plan rule) n in
    cond (ltb m n) (refuse_on k m (place_broken plan rule m) (step_broken plan rule m)) after
