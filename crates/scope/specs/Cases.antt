-- "Examples": the cases that document 01 marks P, as rows of one table. What it says of a row is `Holds`, and proofs/Cases.antt proves the
-- table.
use Rattle.std.specs.Prelude.{ℕ, ◌+◌, ◌-◌, ◌*◌, ◌≡◌, Bool, true, false, ◌&&◌, List, [], ◌∷◌, length, get_or, ℤ, pos, negsuc, eqb}
use Rattle.scope.specs.Limits.{longest_events}
use Rattle.scope.specs.Outcome.{Outcome, gives, refuse, refuse_on}
use Rattle.scope.specs.File.{row_of, file_of}
use Rattle.scope.specs.Plan.{plan_of}
use Rattle.scope.specs.Cuts.{is_cut}
use Rattle.scope.specs.Slot.{on_second, at_target}
use Rattle.scope.specs.Cycle.{order_of, table_of, start, positions, events, event_row}
use Rattle.scope.specs.Verdict.{FirstFailing}
use Rattle.scope.specs.Capture.{FirstExplaining}
use Rattle.scope.specs.Game.{figures}
use Rattle.scope.specs.Questions.{judge, read_file, write_file, replay, may_judge, figure_of, figures_of, may_explain, slack, may_spare}
use Rattle.scope.specs.Shelf.{Shelved, shelf_text}

-- Plan B: "links 0→1, 0→2, 2→1 and t = 4. Both messages have first path link 0, message 0 in slot 0 and message 1 in slot 1, and second path
-- links 1, 2."
abbrev pub row_b : List ℕ
row_b =
    1 ∷ 2 ∷ 2 ∷ 1 ∷ 3 ∷ 0 ∷ 1 ∷ 0 ∷ 2 ∷ 2 ∷ 1 ∷ 0 ∷ 0 ∷ 0 ∷ 1 ∷ 1 ∷ 1 ∷ 2 ∷ 0 ∷ 0 ∷ 1 ∷ 1 ∷ 1 ∷ 1 ∷ 2 ∷ []

-- "Its file, 17 bytes in hex", with any first and last byte
abbrev pub file_with : ℕ → ℕ → List ℕ
file_with front back =
    front ∷ 0x82 ∷ 0x08 ∷ 0x60 ∷ 0x02 ∷ 0x00 ∷ 0x41 ∷ 0x02 ∷ 0x00 ∷ 0x01 ∷ 0x10 ∷ 0x42 ∷ 0x00 ∷ 0x01 ∷ 0x88 ∷ 0x21 ∷ back ∷ []

abbrev pub file_b : List ℕ
file_b = file_with 0x10 0x00

-- Plan A: "links 0→1, 1→3, 0→2, 2→3 and t = 4. Message 0: links 0, 1 in slots 0, 1, second path 2, 3 from place 0. Message 1: links 2, 3 in
-- slots 0, 1, second path 0, 1 from place 0."
abbrev pub row_a : List ℕ
row_a =
    1 ∷ 3 ∷ 3 ∷ 1 ∷ 3 ∷
    0 ∷ 1 ∷ 1 ∷ 3 ∷ 0 ∷ 2 ∷ 2 ∷ 3 ∷
    1 ∷ 0 ∷ 0 ∷ 1 ∷ 1 ∷ 2 ∷ 3 ∷ 1 ∷ 1 ∷ 0 ∷
    1 ∷ 2 ∷ 0 ∷ 1 ∷ 1 ∷ 0 ∷ 1 ∷ 3 ∷ 1 ∷ 0 ∷ []

-- Plans of our own, where the cases marked P let a wrong rule of "Plausible and wrong" through (docs/DECISIONS.md).

-- plan B with message 1 in slot 2 and t = 3: no cut before the cycle does harm, and one in slot 2 does
abbrev pub row_late : List ℕ
row_late = 1 ∷ 2 ∷ 2 ∷ 1 ∷ 2 ∷ 0 ∷ 1 ∷ 0 ∷ 2 ∷ 2 ∷ 1 ∷ 0 ∷ 0 ∷ 0 ∷ 1 ∷ 1 ∷ 1 ∷ 2 ∷ 0 ∷ 0 ∷ 2 ∷ 1 ∷ 1 ∷ 1 ∷ 2 ∷ []

-- the same with a link 3 from 1 to 3 and a message 2 on it in slot 0: a cut in slot 0 of link 3, and one in slot 2 of link 0, each lose one
abbrev pub row_order : List ℕ
row_order =
    1 ∷ 3 ∷ 3 ∷ 2 ∷ 2 ∷ 0 ∷ 1 ∷ 0 ∷ 2 ∷ 2 ∷ 1 ∷ 1 ∷ 3 ∷ 0 ∷ 0 ∷ 0 ∷ 1 ∷ 1 ∷ 1 ∷ 2 ∷ 0 ∷ 0 ∷ 2 ∷ 1 ∷ 1 ∷ 1 ∷ 2 ∷ 0 ∷ 3 ∷ 0 ∷ 0 ∷ []

-- links 0→1, 1→3, 0→2, 2→1; one message: links 0, 1 in slots 0, 2, second path 2, 3, 1 from place 0, which meets its own entry on link 1
abbrev pub row_own : List ℕ
row_own = 1 ∷ 3 ∷ 3 ∷ 0 ∷ 3 ∷ 0 ∷ 1 ∷ 1 ∷ 3 ∷ 0 ∷ 2 ∷ 2 ∷ 1 ∷ 1 ∷ 0 ∷ 0 ∷ 1 ∷ 2 ∷ 2 ∷ 3 ∷ 1 ∷ 1 ∷ 2 ∷ 0 ∷ []

-- links 0→1, 1→2, 0→3, 3→2, 1→3 and t = 8; message 0 has two second paths through link 3, and message 1 has one
abbrev pub row_twice : List ℕ
row_twice =
    1 ∷ 3 ∷ 4 ∷ 1 ∷ 7 ∷
    0 ∷ 1 ∷ 1 ∷ 2 ∷ 0 ∷ 3 ∷ 3 ∷ 2 ∷ 1 ∷ 3 ∷
    1 ∷ 0 ∷ 0 ∷ 1 ∷ 1 ∷ 2 ∷ 3 ∷ 1 ∷ 1 ∷ 1 ∷ 1 ∷ 4 ∷ 3 ∷
    1 ∷ 0 ∷ 1 ∷ 1 ∷ 1 ∷ 2 ∷ 3 ∷ 1 ∷ 2 ∷ 0 ∷ []

-- plan B with a message 2, which has link 0 in slot 2: under a cut in slot 1 it is held by message 1, and message 0 is at its target
abbrev pub row_three : List ℕ
row_three =
    1 ∷ 2 ∷ 2 ∷ 2 ∷ 3 ∷ 0 ∷ 1 ∷ 0 ∷ 2 ∷ 2 ∷ 1 ∷ 0 ∷ 0 ∷ 0 ∷ 1 ∷ 1 ∷ 1 ∷ 2 ∷ 0 ∷ 0 ∷ 1 ∷ 1 ∷ 1 ∷ 1 ∷ 2 ∷ 0 ∷ 0 ∷ 2 ∷ 1 ∷ 1 ∷ 1 ∷ 2 ∷ []

-- what plan B's capture is where link 0 is cut in slot 1: message 0 crosses it, and message 1 goes round
abbrev pub seen_b : List ℕ
seen_b = 0 ∷ 0 ∷ 0 ∷ 1 ∷ 1 ∷ 1 ∷ 2 ∷ 2 ∷ 1 ∷ []

-- links 0→1, 1→2, 2→3, 1→0, 0→2, 2→1, t = 8, and these messages, so many and one
abbrev pub on_net : ℕ → List ℕ → List ℕ
on_net m messages = 1 ∷ 3 ∷ 5 ∷ m ∷ 7 ∷ 0 ∷ 1 ∷ 1 ∷ 2 ∷ 2 ∷ 3 ∷ 1 ∷ 0 ∷ 0 ∷ 2 ∷ 2 ∷ 1 ∷ messages

-- one link, one message, one slot: the only cut that does harm is in force in the slot in which it is picked
abbrev pub row_one : List ℕ
row_one = 1 ∷ 1 ∷ 0 ∷ 0 ∷ 0 ∷ 0 ∷ 1 ∷ 0 ∷ 0 ∷ 0 ∷ 0 ∷ []

-- two links, and on each a message in slot 0 that has no second path: both are lost if both are cut in one turn
abbrev pub row_two : List ℕ
row_two = 1 ∷ 3 ∷ 1 ∷ 1 ∷ 0 ∷ 0 ∷ 1 ∷ 2 ∷ 3 ∷ 0 ∷ 0 ∷ 0 ∷ 0 ∷ 0 ∷ 1 ∷ 0 ∷ 0 ∷ []

-- links 0→1, 1→0 and t = 2: one cable, and a message each way in slot 0
abbrev pub row_both_ways : List ℕ
row_both_ways = 1 ∷ 1 ∷ 1 ∷ 1 ∷ 1 ∷ 0 ∷ 1 ∷ 1 ∷ 0 ∷ 0 ∷ 0 ∷ 0 ∷ 0 ∷ 0 ∷ 1 ∷ 0 ∷ 0 ∷ []

-- links 1→2, 0→1, 0→2, 2→1 and t = 4; one message: link 1 in slot 0, second path 2, 3; link 3 is the other way of link 0, which nobody has
abbrev pub row_goes_back : List ℕ
row_goes_back = 1 ∷ 2 ∷ 3 ∷ 0 ∷ 3 ∷ 1 ∷ 2 ∷ 0 ∷ 1 ∷ 0 ∷ 2 ∷ 2 ∷ 1 ∷ 0 ∷ 1 ∷ 0 ∷ 1 ∷ 1 ∷ 2 ∷ 3 ∷ []

-- link 0 is down in slot 0 and whole again from slot 1 on: no cut list does this, and a message once turned stays turned
abbrev pub brief : ℕ → ℕ → Bool
brief i e = eqb i 0 && eqb e 0

-- message m is at its target at a time
abbrev pub there_at : List ℕ → List ℕ → ℕ → ℕ → Bool
there_at row cuts m time =
    at_target (get_or (positions (order_of (plan_of row)) (is_cut (plan_of row) cuts) (table_of (plan_of row)) 0 time
    (start (plan_of row))) m (on_second (0 ∷ [])))

-- a row of the table: a question with its answer
pub data Case : Type 0 where
  -- a row and the outcome of judging it
  judges : List ℕ → Outcome → Case
  -- a file, the room lent, and the outcome of reading it
  reads : List ℕ → ℕ → Outcome → Case
  -- a file and a row that give each other, read and written with exactly the room needed
  same : List ℕ → List ℕ → Case
  -- a row, a cut list, the arrivals and the events
  plays : List ℕ → List ℕ → ℕ → List ℕ → Case
  -- a row, a cut list, and what is refused of them, whatever room is lent
  plays_not : List ℕ → List ℕ → Outcome → Case
  -- a row, a cut list, a message, and the time at which it arrives
  arrives : List ℕ → List ℕ → ℕ → ℕ → Case
  -- a row, what is down in which slot, and the events
  comes_and_goes : List ℕ → (ℕ → ℕ → Bool) → List ℕ → Case
  -- a row, a message, a place, and the slack
  spares : List ℕ → ℕ → ℕ → ℤ → Case
  -- a row, k, l, and the list that the verdict answers, with exactly the room needed
  fails : List ℕ → ℕ → ℕ → List ℕ → Case
  -- a row, k, a capture, and the first list that explains it, with exactly the room needed
  explains : List ℕ → ℕ → List ℕ → List ℕ → Case
  -- a row, k, a capture, the room lent, and what is refused of them
  refuses : List ℕ → ℕ → List ℕ → ℕ → Outcome → Case
  -- a row, k, and its figures up to k, with exactly the room needed
  rates : List ℕ → ℕ → List ℕ → Case
  -- a row, k, the room lent, and what is refused of one figure and of all
  rates_not : List ℕ → ℕ → ℕ → Outcome → Outcome → Case
  -- the names that are read, what their files hold, and what is printed
  shelves : List ℕ → List Shelved → List ℕ → Case

abbrev pub Holds : Case → Type 0
Holds (judges row says) = judge row ≡ says
Holds (reads file lent says) = read_file file lent ≡ says
Holds (same file row) =
    (row_of file ≡ row) × (file_of row ≡ file) × (read_file file (length row) ≡ gives (length row)) ×
    (write_file row (length file) ≡ gives (length file))
Holds (plays row cuts n told) =
    (replay row cuts (length told) ≡ gives n) × (event_row (plan_of row) cuts ≡ told)
Holds (plays_not row cuts says) = (replay row cuts 0 ≡ says) × (replay row cuts longest_events ≡ says)
Holds (arrives row cuts m time) = (there_at row cuts m (time - 1) ≡ false) × (there_at row cuts m time ≡ true)
Holds (comes_and_goes row down told) =
    events (order_of (plan_of row)) down (table_of (plan_of row)) 0 (plan_of row).timeout (start (plan_of row)) ≡ told
Holds (spares row m p z) = (may_spare row m p ≡ gives 0) × (slack row m p ≡ z)
Holds (fails row k l cuts) = (may_judge row k l (2 * k) ≡ gives (2 * k)) × FirstFailing (plan_of row) k l cuts
Holds (explains row k capture cuts) = (may_explain row k capture (2 * k) ≡ gives (2 * k)) × FirstExplaining (plan_of row) k capture cuts
Holds (refuses row k capture lent says) = may_explain row k capture lent ≡ says
Holds (rates row k told) = (figures_of row k (k + 1) ≡ gives (k + 1)) × (figures (plan_of row) 0 (k + 1) ≡ told)
Holds (rates_not row k lent one all) = (figure_of row k ≡ one) × (figures_of row k lent ≡ all)
Holds (shelves input shelf text) = shelf_text input shelf ≡ text

-- the cases marked P
abbrev pub table : List Case
table =
    same file_b row_b ∷
    reads (file_with 0x10 0x01) 25 (refuse 4 129) ∷
    reads [] 25 (refuse 2 0) ∷
    reads (file_with 0x20 0x00) 25 (refuse 1 0) ∷
    plays row_b (0 ∷ 0 ∷ []) 2
    (3 ∷ 1 ∷ 5 ∷ 0 ∷ 3 ∷ 2 ∷ 3 ∷ 1 ∷ 0 ∷ 0 ∷ 3 ∷ 2 ∷ 0 ∷ 0 ∷ 0 ∷ 0 ∷ []) ∷
    plays row_b (1 ∷ 0 ∷ []) 2
    (2 ∷ 0 ∷ 1 ∷ 0 ∷ 0 ∷ 0 ∷ 3 ∷ 1 ∷ 0 ∷ 0 ∷ 3 ∷ 2 ∷ 0 ∷ 0 ∷ 0 ∷ 0 ∷ []) ∷
    spares row_b 0 0 (pos 2) ∷
    spares row_b 1 0 (negsuc 0) ∷
    arrives row_b (0 ∷ 0 ∷ []) 1 3 ∷
    plays row_a [] 2
    (2 ∷ 0 ∷ 2 ∷ 2 ∷ 2 ∷ 1 ∷ 2 ∷ 3 ∷ 0 ∷ 0 ∷ 0 ∷ 0 ∷ 0 ∷ 0 ∷ 0 ∷ 0 ∷ []) ∷
    plays row_a (0 ∷ 0 ∷ []) 2
    (4 ∷ 1 ∷ 2 ∷ 2 ∷ 3 ∷ 2 ∷ 2 ∷ 3 ∷ 3 ∷ 3 ∷ 0 ∷ 0 ∷ 0 ∷ 0 ∷ 0 ∷ 0 ∷ []) ∷
    arrives row_a (0 ∷ 0 ∷ []) 0 3 ∷
    plays row_a (1 ∷ 1 ∷ []) 1
    (2 ∷ 0 ∷ 2 ∷ 2 ∷ 6 ∷ 1 ∷ 2 ∷ 3 ∷ 6 ∷ 1 ∷ 0 ∷ 0 ∷ 6 ∷ 1 ∷ 0 ∷ 0 ∷ []) ∷
    plays row_a (0 ∷ 0 ∷ 0 ∷ 2 ∷ []) 0
    (7 ∷ 2 ∷ 7 ∷ 0 ∷ 7 ∷ 2 ∷ 7 ∷ 0 ∷ 7 ∷ 2 ∷ 7 ∷ 0 ∷ 7 ∷ 2 ∷ 7 ∷ 0 ∷ []) ∷
    fails row_a 2 1 (0 ∷ 0 ∷ 0 ∷ 2 ∷ []) ∷
    []

-- the cases of our own
abbrev pub own_table : List Case
own_table =
    fails row_late 1 2 (2 ∷ 0 ∷ []) ∷
    fails row_order 1 3 (0 ∷ 3 ∷ []) ∷
    plays row_own (0 ∷ 0 ∷ []) 1 (3 ∷ 2 ∷ 3 ∷ 3 ∷ 4 ∷ 0 ∷ 3 ∷ 1 ∷ []) ∷
    spares row_own 0 0 (pos 0) ∷
    comes_and_goes row_b brief
    (3 ∷ 1 ∷ 5 ∷ 0 ∷ 3 ∷ 2 ∷ 3 ∷ 1 ∷ 0 ∷ 0 ∷ 3 ∷ 2 ∷ 0 ∷ 0 ∷ 0 ∷ 0 ∷ []) ∷
    spares row_twice 1 0 (pos 3) ∷
    plays row_three (1 ∷ 0 ∷ []) 3
    (2 ∷ 0 ∷ 1 ∷ 0 ∷ 1 ∷ 0 ∷ 0 ∷ 0 ∷ 3 ∷ 1 ∷ 5 ∷ 1 ∷ 0 ∷ 0 ∷ 3 ∷ 2 ∷ 3 ∷ 1 ∷ 0 ∷ 0 ∷ 0 ∷ 0 ∷ 3 ∷ 2 ∷ []) ∷
    explains row_b 2 seen_b (1 ∷ 0 ∷ []) ∷
    refuses row_b 4 (4 ∷ []) 0 (refuse 11 0) ∷
    refuses row_b 2 (1 ∷ 1 ∷ 1 ∷ 1 ∷ 0 ∷ 1 ∷ []) 0 (refuse 23 1) ∷
    refuses row_b 2 (1 ∷ 1 ∷ 1 ∷ 1 ∷ 1 ∷ 1 ∷ []) 0 (refuse 23 1) ∷
    refuses row_b 2 (0 ∷ 0 ∷ 0 ∷ 1 ∷ 1 ∷ 2 ∷ []) 0 (refuse 23 1) ∷
    refuses row_b 2 (0 ∷ 0 ∷ 0 ∷ 1 ∷ 1 ∷ []) 0 (refuse 23 1) ∷
    refuses row_b 2 [] 3 (refuse 13 4) ∷
    []

-- request [1], on the net of on_net: each number of a rule of paths, and which of two that apply is given
abbrev pub path_table : List Case
path_table =
    -- links 0, 1, 2; from place 0 links 4, 2, and from place 1 links 3, 4, 2, back over the vertex where the first path begins: all is well
    judges (on_net 0 (2 ∷ 0 ∷ 0 ∷ 1 ∷ 1 ∷ 4 ∷ 2 ∷ 1 ∷ 1 ∷ 1 ∷ 2 ∷ 3 ∷ 4 ∷ 2 ∷ 2 ∷ 2 ∷ 0 ∷ [])) (gives 34) ∷
    -- links 0, 9, of six
    judges (on_net 0 (1 ∷ 0 ∷ 0 ∷ 0 ∷ 9 ∷ 1 ∷ 0 ∷ [])) (refuse_on 7 0 1 1) ∷
    -- links 0, 2, 0: neither of the last two begins where the one before ended
    judges (on_net 0 (2 ∷ 0 ∷ 0 ∷ 0 ∷ 2 ∷ 1 ∷ 0 ∷ 0 ∷ 2 ∷ 0 ∷ [])) (refuse_on 14 0 1 1) ∷
    -- links 0, 1, 5, 3: vertices 0, 1, 2, 1, 0
    judges (on_net 0 (3 ∷ 0 ∷ 0 ∷ 0 ∷ 1 ∷ 1 ∷ 0 ∷ 5 ∷ 2 ∷ 0 ∷ 3 ∷ 3 ∷ 0 ∷ [])) (refuse_on 15 0 2 2) ∷
    -- links 0, 3: back to where the path begins
    judges (on_net 0 (1 ∷ 0 ∷ 0 ∷ 0 ∷ 3 ∷ 1 ∷ 0 ∷ [])) (refuse_on 15 0 1 1) ∷
    -- 14 of message 0, 7 of message 1
    judges (on_net 1 (1 ∷ 0 ∷ 0 ∷ 0 ∷ 2 ∷ 1 ∷ 0 ∷ 1 ∷ 0 ∷ 0 ∷ 0 ∷ 9 ∷ 1 ∷ 0 ∷ [])) (refuse_on 7 1 1 1) ∷
    -- links 0, 3, 2: 15 in step 1, 14 in step 2
    judges (on_net 0 (2 ∷ 0 ∷ 0 ∷ 0 ∷ 3 ∷ 1 ∷ 0 ∷ 2 ∷ 2 ∷ 0 ∷ [])) (refuse_on 14 0 2 2) ∷
    -- 8 of message 0, 15 of message 1
    judges (on_net 1 (1 ∷ 0 ∷ 1 ∷ 0 ∷ 1 ∷ 0 ∷ 0 ∷ 1 ∷ 0 ∷ 2 ∷ 0 ∷ 3 ∷ 3 ∷ 0 ∷ [])) (refuse_on 15 1 1 1) ∷
    -- 10 of message 0, 9 of message 1
    judges (on_net 1 (0 ∷ 0 ∷ 0 ∷ 1 ∷ 0 ∷ 9 ∷ 0 ∷ 0 ∷ 0 ∷ 0 ∷ [])) (refuse 9 1) ∷
    -- 16 of message 0; 10 of message 1, whose links are 0, 1, from place 0 links 4, 9
    judges (on_net 1 (0 ∷ 0 ∷ 0 ∷ 1 ∷ 0 ∷ 1 ∷ 1 ∷ 0 ∷ 1 ∷ 1 ∷ 1 ∷ 4 ∷ 9 ∷ 1 ∷ 2 ∷ 0 ∷ [])) (refuse_on 10 1 0 1) ∷
    -- links 0, 1; from place 1, which stands at vertex 1, link 4
    judges (on_net 0 (1 ∷ 0 ∷ 0 ∷ 0 ∷ 1 ∷ 1 ∷ 1 ∷ 0 ∷ 4 ∷ [])) (refuse_on 16 0 1 0) ∷
    -- links 0, 1, 2; from place 0 links 4, 1, 2: 16 in step 1; from place 1 link 2: 16 in step 0
    judges (on_net 0 (2 ∷ 0 ∷ 0 ∷ 1 ∷ 2 ∷ 4 ∷ 1 ∷ 2 ∷ 1 ∷ 1 ∷ 1 ∷ 0 ∷ 2 ∷ 2 ∷ 2 ∷ 0 ∷ [])) (refuse_on 16 0 0 1) ∷
    -- links 0, 1; from place 0 links 4, 2, which end at vertex 3 and not at 2
    judges (on_net 0 (1 ∷ 0 ∷ 0 ∷ 1 ∷ 1 ∷ 4 ∷ 2 ∷ 1 ∷ 1 ∷ 0 ∷ [])) (refuse_on 17 0 0 1) ∷
    -- links 0, 1; from place 0 links 4, 5, 3, 0, vertices 0, 2, 1, 0, 1: 18 in step 2, 17 in step 3
    judges (on_net 0 (1 ∷ 0 ∷ 0 ∷ 1 ∷ 3 ∷ 4 ∷ 5 ∷ 3 ∷ 0 ∷ 1 ∷ 1 ∷ 0 ∷ [])) (refuse_on 17 0 0 3) ∷
    -- links 0, 1, 2; from place 0 links 4, 5, 1, 2: vertices 0, 2, 1, 2, 3
    judges (on_net 0 (2 ∷ 0 ∷ 0 ∷ 1 ∷ 3 ∷ 4 ∷ 5 ∷ 1 ∷ 2 ∷ 1 ∷ 1 ∷ 0 ∷ 2 ∷ 2 ∷ 0 ∷ [])) (refuse_on 18 0 0 2) ∷
    -- 19 of message 0; 18 of message 1, whose link is 4, from place 0 links 0, 3, 4
    judges (on_net 1 (0 ∷ 0 ∷ 0 ∷ 1 ∷ 0 ∷ 0 ∷ 0 ∷ 4 ∷ 0 ∷ 1 ∷ 2 ∷ 0 ∷ 3 ∷ 4 ∷ [])) (refuse_on 18 1 0 1) ∷
    -- links 0, 1, 2; from place 1, whose link is 1, links 1, 2
    judges (on_net 0 (2 ∷ 0 ∷ 0 ∷ 0 ∷ 1 ∷ 1 ∷ 1 ∷ 1 ∷ 1 ∷ 2 ∷ 2 ∷ 2 ∷ 0 ∷ [])) (refuse_on 19 0 1 0) ∷
    []

-- request [2]: figures, and sheets. `b` is plan B, and `x` is not there
abbrev pub shelf_b : List Shelved
shelf_b = record { name = 98 ∷ []; file = file_b } ∷ record { name = 120 ∷ []; file = [] } ∷ []

abbrev pub shelf_table : List Case
shelf_table =
    rates row_a 2 (2 ∷ 1 ∷ 0 ∷ []) ∷
    rates row_b 3 (2 ∷ 2 ∷ 0 ∷ 0 ∷ []) ∷
    rates row_late 1 (2 ∷ 1 ∷ []) ∷
    rates row_one 2 (1 ∷ 0 ∷ 0 ∷ []) ∷
    rates row_two 2 (2 ∷ 1 ∷ 0 ∷ []) ∷
    rates_not row_b 4 0 (refuse 11 0) (refuse 11 0) ∷
    rates_not row_one 1 1 (gives 0) (refuse 13 2) ∷
    -- b, line feed, x: `2 2 0 0 b`, `refused 2 place 0 x`, `0 1 0`, `1 1 0`, `2 0 2`, `3 0 2`
    shelves (98 ∷ 10 ∷ 120 ∷ []) shelf_b
    (50 ∷ 32 ∷ 50 ∷ 32 ∷ 48 ∷ 32 ∷ 48 ∷ 32 ∷ 98 ∷ 10 ∷
    114 ∷ 101 ∷ 102 ∷ 117 ∷ 115 ∷ 101 ∷ 100 ∷ 32 ∷ 50 ∷ 32 ∷ 112 ∷ 108 ∷ 97 ∷ 99 ∷ 101 ∷ 32 ∷ 48 ∷ 32 ∷ 120 ∷ 10 ∷
    48 ∷ 32 ∷ 49 ∷ 32 ∷ 48 ∷ 10 ∷ 49 ∷ 32 ∷ 49 ∷ 32 ∷ 48 ∷ 10 ∷ 50 ∷ 32 ∷ 48 ∷ 32 ∷ 50 ∷ 10 ∷ 51 ∷ 32 ∷ 48 ∷ 32 ∷ 50 ∷ 10 ∷ []) ∷
    -- no name: `0 0 0` to `3 0 0`
    shelves [] []
    (48 ∷ 32 ∷ 48 ∷ 32 ∷ 48 ∷ 10 ∷ 49 ∷ 32 ∷ 48 ∷ 32 ∷ 48 ∷ 10 ∷ 50 ∷ 32 ∷ 48 ∷ 32 ∷ 48 ∷ 10 ∷ 51 ∷ 32 ∷ 48 ∷ 32 ∷ 48 ∷ 10 ∷ []) ∷
    -- b, line feed, line feed: an empty name in line 1, `refused 24 place 1`
    shelves (98 ∷ 10 ∷ 10 ∷ []) []
    (114 ∷ 101 ∷ 102 ∷ 117 ∷ 115 ∷ 101 ∷ 100 ∷ 32 ∷ 50 ∷ 52 ∷ 32 ∷ 112 ∷ 108 ∷ 97 ∷ 99 ∷ 101 ∷ 32 ∷ 49 ∷ 10 ∷ []) ∷
    []

-- request [3]: one cut takes both ways of a cable, and the lower link alone names it
abbrev pub cable_table : List Case
cable_table =
    plays row_both_ways (0 ∷ 0 ∷ []) 0 (6 ∷ 0 ∷ 6 ∷ 1 ∷ 6 ∷ 0 ∷ 6 ∷ 1 ∷ []) ∷
    plays row_both_ways (1 ∷ 0 ∷ []) 2 (2 ∷ 0 ∷ 2 ∷ 1 ∷ 0 ∷ 0 ∷ 0 ∷ 0 ∷ []) ∷
    plays_not row_both_ways (0 ∷ 1 ∷ []) (refuse 12 0) ∷
    plays_not row_both_ways (0 ∷ 0 ∷ 0 ∷ 1 ∷ []) (refuse 12 1) ∷
    fails row_both_ways 1 1 (0 ∷ 0 ∷ []) ∷
    rates row_both_ways 1 (2 ∷ 0 ∷ []) ∷
    -- the message turns in slot 0, has two slots to spare, and finds link 3 cut, by the pair that names link 0
    spares row_goes_back 0 0 (pos 2) ∷
    plays row_goes_back (0 ∷ 0 ∷ 0 ∷ 1 ∷ []) 0 (3 ∷ 2 ∷ 7 ∷ 3 ∷ 7 ∷ 3 ∷ 7 ∷ 3 ∷ []) ∷
    fails row_goes_back 2 1 (0 ∷ 0 ∷ 0 ∷ 1 ∷ []) ∷
    []

-- every row of a table holds
abbrev pub All : List Case → Type 0
All [] = Unit {0}
All (c ∷ cs) = Holds c × All cs
