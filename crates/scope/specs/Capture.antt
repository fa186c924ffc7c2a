-- "Which cuts explain this capture?" (document 02, [7]): refusal 23, the crossings of a replay and of a capture, and the first list that
-- explains one. Nothing here says how it is found.
use Rattle.std.specs.Prelude.{ℕ, ◌+◌, ◌-◌, ◌*◌, ◌/◌, ◌≤◌, ◌<◌, ◌≡◌, Bool, true, not, ◌&&◌, ◌||◌, List, length, get_or, ltb, eqb}
use Rattle.scope.specs.Lowest.{some}
use Rattle.scope.specs.Outcome.{Outcome, gives, unless_some}
use Rattle.scope.specs.Plan.{Plan}
use Rattle.scope.specs.Cuts.{pairs, pair_before, is_cut_list}
use Rattle.scope.specs.Cycle.{event_row}
use Rattle.scope.specs.Verdict.{First}

-- how many triples a capture has, an unfinished last one counted
abbrev pub triples : List ℕ → ℕ
triples capture = (length capture + 2) / 3

abbrev pub seen_slot : List ℕ → ℕ → ℕ
seen_slot capture j = get_or capture (3 * j) 0

abbrev pub seen_link : List ℕ → ℕ → ℕ
seen_link capture j = get_or capture (3 * j + 1) 0

abbrev pub seen_message : List ℕ → ℕ → ℕ
seen_message capture j = get_or capture (3 * j + 2) 0

-- by slot, then by link, then by message: the triple a, b, c comes before the triple d, e, f
abbrev pub triple_before : ℕ → ℕ → ℕ → ℕ → ℕ → ℕ → Bool
triple_before a b c d e f = ltb a d || (eqb a d && pair_before b c e f)

-- "rising strictly": triple j does not come after the one before it
abbrev pub falls_back : List ℕ → ℕ → Bool
falls_back capture j =
    ltb 0 j &&
    not (triple_before (seen_slot capture (j - 1)) (seen_link capture (j - 1)) (seen_message capture (j - 1))
    (seen_slot capture j) (seen_link capture j) (seen_message capture j))

-- "out of form, range or order": triple j is unfinished, names a slot, link or message that the plan has not, or does not rise
abbrev pub bad_triple : Plan → List ℕ → ℕ → Bool
bad_triple plan capture j =
    ltb (length capture) (3 * j + 3) ||
    not (ltb (seen_slot capture j) plan.timeout) ||
    not (ltb (seen_link capture j) (length plan.links)) ||
    not (ltb (seen_message capture j) (length plan.messages)) ||
    falls_back capture j

-- refusal 23, with the index of the first bad triple, or how many triples there are
unfoldable pub check_capture : Plan → List ℕ → Outcome
check_capture plan capture = unless_some 23 (bad_triple plan capture) (triples capture) (gives (triples capture))

-- "triples slot, link, message for every crossing": a capture has that message m crossed link e in slot i
unfoldable pub is_captured : List ℕ → ℕ → ℕ → ℕ → Bool
is_captured capture i e m =
    some (λ j. eqb (seen_slot capture j) i && eqb (seen_link capture j) e && eqb (seen_message capture j) m) (triples capture)

-- "(kinds 2 and 3)": an event of this kind and number is the crossing of link e
abbrev pub is_crossing : ℕ → ℕ → ℕ → Bool
is_crossing kind number e = (eqb kind 2 || eqb kind 3) && eqb number e

-- message m crosses link e in slot i of the replay under a cut list, by the row of events
unfoldable pub has_crossing : Plan → List ℕ → ℕ → ℕ → ℕ → Bool
has_crossing plan cuts i e m =
    let j = i * length plan.messages + m in
    is_crossing (get_or (event_row plan cuts) (2 * j) 0) (get_or (event_row plan cuts) (2 * j + 1) 0) e

-- "whose replay has exactly these crossings": whatever slot, link and message, the replay has it if and only if the capture has it
unfoldable pub Explains : Plan → List ℕ → List ℕ → Type 0
Explains plan capture cuts =
    (i e m : ℕ) → i < plan.timeout → m < length plan.messages → has_crossing plan cuts i e m ≡ is_captured capture i e m

-- "the first cut list, in the verdict's order"
abbrev pub FirstExplaining : Plan → ℕ → List ℕ → List ℕ → Type 0
FirstExplaining plan k capture = First plan (Explains plan capture) k

-- "exactly if no list of at most k pairs has that replay"
unfoldable pub Unexplained : Plan → ℕ → List ℕ → Type 0
Unexplained plan k capture = (cuts : List ℕ) → is_cut_list plan cuts ≡ true → pairs cuts ≤ k → Explains plan capture cuts → ⊥
