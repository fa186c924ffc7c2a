-- "V switches and hosts ("vertices", 1 to 64), E directed links (1 to 64), M messages (1 to 32) and a timeout t (1 to 64)", and what
-- follows from these sizes. src/limits.rt has the same for code.
use Rattle.std.specs.Prelude.{ℕ}

abbrev pub most_vertices : ℕ
most_vertices = 64

abbrev pub most_links : ℕ
most_links = 64

abbrev pub most_messages : ℕ
most_messages = 32

abbrev pub most_slots : ℕ
most_slots = 64

-- the links of a path: their number less one has 4 bits
abbrev pub most_places : ℕ
most_places = 16

-- a number for each slot and link, slot by slot
abbrev pub table_size : ℕ
table_size = 4096

-- a byte for each two ends of a link
abbrev pub ends_size : ℕ
ends_size = 4096

-- a byte for each link and message, link by link
abbrev pub seconds_size : ℕ
seconds_size = 2048

-- a byte for each slot and message, slot by slot
abbrev pub crossed_size : ℕ
crossed_size = 2048

-- a number for each slot and link, slot by slot, and a row of links behind the last slot
abbrev pub plane_size : ℕ
plane_size = 4160

-- three weights for each, one after another
abbrev pub weights_size : ℕ
weights_size = 12480

-- a number for each count of messages, from 0 on; and that for each slot
abbrev pub front_size : ℕ
front_size = 33

abbrev pub fronts_size : ℕ
fronts_size = 2112

-- the most of each weight for each slot, and those after them
abbrev pub tops_size : ℕ
tops_size = 2304

-- "The longest file is 7,348 bytes"; "the plan's row, at most 10,405 numbers"
abbrev pub longest_file : ℕ
longest_file = 7348

abbrev pub longest_row : ℕ
longest_row = 10405

-- the bits of the fields of the longest file
abbrev pub longest_bits : ℕ
longest_bits = 58779

-- "2 × t × M numbers"
abbrev pub longest_events : ℕ
longest_events = 4096

-- those of one slot
abbrev pub slot_events : ℕ
slot_events = 64

-- "k (0 to 3)"
abbrev pub most_cuts : ℕ
most_cuts = 3

-- a byte more than the longest file, so that a longer one is seen to be too long
abbrev pub plan_room : ℕ
plan_room = 7349

-- a byte more than 65 cut lines can have: a list of more than 64 pairs names a link twice, so no more can matter
abbrev pub cuts_room : ℕ
cuts_room = 651

-- "names of plan files, one a line, at most 250, each of 1 to 255 bytes"; and a byte more than these lines can have
abbrev pub most_names : ℕ
most_names = 250

abbrev pub longest_name : ℕ
longest_name = 255

abbrev pub names_room : ℕ
names_room = 64001
