-- "One slot": the table of kinds, for one message. Stated over what is down in the slot, so that a cut list is one instance.
use Rattle.std.specs.Prelude.{ℕ, ◌+◌, ◌-◌, Bool, true, false, cond, List, [], ◌∷◌, ltb, eqb}
use Rattle.scope.specs.Plan.{Place}

-- a position is what is left: the places of the first path, or the links of the second path it has turned to. Nothing left: at its target
pub data Position : Type 0 where
  on_first : List Place → Position
  on_second : List ℕ → Position

pub record Event : Type 0 where
  pub kind : ℕ
  pub number : ℕ

pub record Moved : Type 0 where
  pub next : Position
  pub event : Event

abbrev pub moved : Position → ℕ → ℕ → Moved
moved p k n = record { next = p; event = record { kind = k; number = n } }

abbrev pub at_target : Position → Bool
at_target (on_first []) = true
at_target (on_first (p ∷ ps)) = false
at_target (on_second []) = true
at_target (on_second (e ∷ es)) = false

-- "A message on its first path whose next link is cut turns to the second path of that place in that same slot, and never returns."
-- `ps` is the first path that is left and `es` the second path of its first place: without one, it stays on its first path
abbrev pub turned : List Place → List ℕ → Position
turned ps [] = on_first ps
turned ps (e ∷ es) = on_second (e ∷ es)

abbrev pub turn : (ℕ → Bool) → Position → Position
turn down (on_first []) = on_first []
turn down (on_first (p ∷ ps)) = cond (down p.link) (turned (p ∷ ps) p.second) (on_first (p ∷ ps))
turn down (on_second es) = on_second es

-- "It tries the next link of that path if that link is whole": the link after its turn, plus one; 0 where it tries none
abbrev pub tries : (ℕ → Bool) → Position → ℕ
tries down (on_first ps) = 0
tries down (on_second []) = 0
tries down (on_second (e ∷ es)) = cond (down e) 0 (e + 1)

-- the next link of the second path that it is on, or 0 where there is none
abbrev pub next_second : Position → ℕ
next_second (on_first ps) = 0
next_second (on_second []) = 0
next_second (on_second (e ∷ es)) = e

-- the tests of a message with a link e of its second path before it, and es after that, "in the order 7, 4, 5, 3". `entry` is the message to
-- which the table gives that link and slot, plus one, or 0 for nobody; `held` says that a lower message also tries the link, and `first`
-- is the lowest one that does
abbrev pub on_second_path : Bool → ℕ → Bool → ℕ → ℕ → List ℕ → Moved
on_second_path cut entry held first e es =
    cond cut (moved (on_second (e ∷ es)) 7 e)
    (cond (ltb 0 entry) (moved (on_second (e ∷ es)) 4 (entry - 1))
    (cond held (moved (on_second (e ∷ es)) 5 first)
    (moved (on_second es) 3 e)))

-- on the first path, after its turn: a cut next link has no second path (6); else it crosses in its own slot (2) and waits in another (1)
abbrev pub on_first_path : Bool → ℕ → Place → List Place → Moved
on_first_path cut slot p ps =
    cond cut (moved (on_first (p ∷ ps)) 6 p.link)
    (cond (eqb p.slot slot) (moved (on_first ps) 2 p.link)
    (moved (on_first (p ∷ ps)) 1 p.link))

-- what a message does in a slot, once it has turned if it must
abbrev pub act : (ℕ → Bool) → ℕ → ℕ → Bool → ℕ → Position → Moved
act down slot entry held first (on_first []) = moved (on_first []) 0 0
act down slot entry held first (on_first (p ∷ ps)) = on_first_path (down p.link) slot p ps
act down slot entry held first (on_second []) = moved (on_second []) 0 0
act down slot entry held first (on_second (e ∷ es)) = on_second_path (down e) entry held first e es
