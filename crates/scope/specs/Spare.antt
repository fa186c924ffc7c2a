-- "Spare slots of a second path": a(e), b(m, e), D and the slack.
use Rattle.std.specs.Prelude.{ℕ, ◌+◌, Bool, true, false, cond, ◌&&◌, ◌||◌, List, [], ◌∷◌, ℤ, ltb, eqb}
use Rattle.std.proofs.Math.IntN.{sub_ℕ}
use Rattle.scope.specs.Plan.{Plan, Place}
use Rattle.scope.specs.Good.{has}

-- how many entries a first path has on link e
unfoldable pub entries_of : ℕ → List Place → ℕ
entries_of e [] = 0
entries_of e (p ∷ ps) = cond (eqb p.link e) 1 0 + entries_of e ps

-- a(e): "the number of entries that the whole table has on e, m's own included"
unfoldable pub entries : ℕ → List (List Place) → ℕ
entries e [] = 0
entries e (path ∷ paths) = entries_of e path + entries e paths

-- a message has "at least one second path through e"
unfoldable pub has_second_through : ℕ → List Place → Bool
has_second_through e [] = false
has_second_through e (p ∷ ps) = has e p.second || has_second_through e ps

-- b(m, e): "the number of messages lower than m with at least one second path through e", among message j and those after it
unfoldable pub lower_through : (ℕ → ℕ) → ℕ → ℕ → ℕ → List (List Place) → ℕ
lower_through rank m e j [] = 0
lower_through rank m e j (path ∷ paths) =
    cond (ltb (rank j) (rank m) && has_second_through e path) 1 0 + lower_through rank m e (j + 1) paths

-- D: "the sum over that path's links e of 1 + a(e) + b(m, e)"
unfoldable pub delay : (ℕ → ℕ) → List (List Place) → ℕ → List ℕ → ℕ
delay rank paths m [] = 0
delay rank paths m (e ∷ es) = 1 + entries e paths + lower_through rank m e 0 paths + delay rank paths m es

-- "The slack is t less the slot of that place less D"
abbrev pub slack_of : (ℕ → ℕ) → Plan → ℕ → Place → ℤ
slack_of rank plan m p = sub_ℕ plan.timeout (p.slot + delay rank plan.messages m p.second)

-- refusal 11: "for slack, no such message, place or second path"
abbrev pub no_second : List ℕ → Bool
no_second [] = true
no_second (e ∷ es) = false
