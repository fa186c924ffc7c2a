-- "A plan is good if": the rules of a good plan. specs/Rules has their refusals in their order.
use Rattle.std.specs.Prelude.{ℕ, ◌+◌, Bool, true, false, not, ◌&&◌, ◌||◌, List, [], ◌∷◌, map, length, ltb, eqb}
use Rattle.scope.specs.Lowest.{some}
use Rattle.scope.specs.Plan.{Plan, Link, Place, link_of, path_of}

-- a number stands in a list
unfoldable pub has : ℕ → List ℕ → Bool
has x [] = false
has x (y ∷ ys) = eqb x y || has x ys

-- no number stands twice in a list
unfoldable pub different : List ℕ → Bool
different [] = true
different (x ∷ xs) = not (has x xs) && different xs

-- "both ends of each link are below V and differ"
abbrev pub bad_ends : Plan → ℕ → Bool
bad_ends plan e =
    not
    (ltb (link_of plan e).from plan.vertices &&
    ltb (link_of plan e).to plan.vertices &&
    not (eqb (link_of plan e).from (link_of plan e).to))

-- "no two links have the same ends in the same direction": an earlier link has this one's ends
abbrev pub same_ends : Link → Link → Bool
same_ends a b = eqb a.from b.from && eqb a.to b.to

abbrev pub repeats : Plan → ℕ → Bool
repeats plan e = some (λ d. same_ends (link_of plan d) (link_of plan e)) e

-- "uses links below E"
unfoldable pub are_links : Plan → List ℕ → Bool
are_links plan [] = true
are_links plan (e ∷ es) = ltb e (length plan.links) && are_links plan es

-- "each beginning where the last ended", the first at vertex v
unfoldable pub joins : Plan → ℕ → List ℕ → Bool
joins plan v [] = true
joins plan v (e ∷ es) = eqb (link_of plan e).from v && joins plan (link_of plan e).to es

-- the vertices visited after the first one
unfoldable pub visited : Plan → List ℕ → List ℕ
visited plan [] = []
visited plan (e ∷ es) = (link_of plan e).to ∷ visited plan es

-- a path from vertex v: links below E that join up, "with no vertex visited twice"
abbrev pub is_path_from : Plan → ℕ → List ℕ → Bool
is_path_from plan v es = are_links plan es && joins plan v es && different (v ∷ visited plan es)

-- the links of a first path, its first link, and the vertices where it begins and ends
abbrev pub links_of : List Place → List ℕ
links_of ps = map (λ p. p.link) ps

abbrev pub head_of : List ℕ → ℕ
head_of [] = 0
head_of (x ∷ xs) = x

abbrev pub last_of : ℕ → List ℕ → ℕ
last_of x [] = x
last_of x (y ∷ ys) = last_of y ys

abbrev pub end_of : Plan → List ℕ → ℕ
end_of plan es = (link_of plan (last_of 0 es)).to

-- "a first path breaks a rule other than that of slots"
abbrev pub bad_first_path : Plan → ℕ → Bool
bad_first_path plan m =
    let es = links_of (path_of plan m) in
    not (is_path_from plan (link_of plan (head_of es)).from es)

-- "its slots rise strictly and lie below t", all of them from `least` on
unfoldable pub slots_rise : ℕ → ℕ → List Place → Bool
slots_rise t least [] = true
slots_rise t least (p ∷ ps) = not (ltb p.slot least) && ltb p.slot t && slots_rise t (p.slot + 1) ps

-- refusal 8: "slots don't rise, or one is not below t"
abbrev pub bad_slots : Plan → ℕ → Bool
bad_slots plan m = not (slots_rise plan.timeout 0 (path_of plan m))

-- a first path holds a link in a slot
unfoldable pub holds : ℕ → ℕ → List Place → Bool
holds e i [] = false
holds e i (p ∷ ps) = (eqb p.link e && eqb p.slot i) || holds e i ps

-- a lower message holds the link and slot of some place
unfoldable pub taken : Plan → ℕ → List Place → Bool
taken plan m [] = false
taken plan m (p ∷ ps) = some (λ j. holds p.link p.slot (path_of plan j)) m || taken plan m ps

-- refusal 9: "a lower message holds the same link and slot"
abbrev pub bad_table : Plan → ℕ → Bool
bad_table plan m = taken plan m (path_of plan m)

-- the second path from a place of a first path that ends at vertex `end`: it "begins at the vertex where its place stands, joins up, visits
-- no vertex twice, ends where the first path ends, and does not begin with the link it replaces"
abbrev pub good_second : Plan → ℕ → Place → Bool
good_second plan end p =
    is_path_from plan (link_of plan p.link).from p.second &&
    eqb (end_of plan p.second) end &&
    not (eqb (head_of p.second) p.link)

-- a place without a second path breaks no rule of second paths
abbrev pub good_place : Plan → ℕ → Place → List ℕ → Bool
good_place plan end p [] = true
good_place plan end p (e ∷ es) = good_second plan end p

unfoldable pub good_seconds : Plan → ℕ → List Place → Bool
good_seconds plan end [] = true
good_seconds plan end (p ∷ ps) = good_place plan end p p.second && good_seconds plan end ps

-- "a second path breaks a rule"
abbrev pub bad_second_path : Plan → ℕ → Bool
bad_second_path plan m = not (good_seconds plan (end_of plan (links_of (path_of plan m))) (path_of plan m))

-- "A plan is good if": none of these rules is broken
unfoldable pub is_good : Plan → Bool
is_good plan =
    let e = length plan.links in
    let m = length plan.messages in
    not (some (bad_ends plan) e) &&
    not (some (repeats plan) e) &&
    not (some (bad_first_path plan) m) &&
    not (some (bad_slots plan) m) &&
    not (some (bad_table plan) m) &&
    not (some (bad_second_path plan) m)
