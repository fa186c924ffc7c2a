-- "Programs": the lines that they read and print. A text is a list of bytes, in ASCII.
use Rattle.std.specs.Prelude.{ℕ, zero, suc, ◌+◌, ◌-◌, ◌*◌, ◌/◌, ◌%◌, ◌≡◌, Bool, cond, ◌&&◌, List, [], ◌∷◌, ◌++◌, length, get_or, ℤ, pos, negsuc, ltb, leb, eqb}
use Rattle.scope.specs.Limits.{longest_row, longest_events}
use Rattle.scope.specs.declared.Refusal.{Refusal}
use Rattle.scope.specs.Outcome.{Outcome, gives, refused, names_link}
use Rattle.scope.specs.File.{row_of}
use Rattle.scope.specs.Plan.{Plan, Place, plan_of}
use Rattle.scope.specs.Questions.{read_file, replay, may_explain}
use Rattle.scope.specs.Cycle.{arrivals, event_row, order_of}
use Rattle.scope.specs.Spare.{slack_of}
use Rattle.scope.specs.Verdict.{Resistant, FirstFailing}
use Rattle.scope.specs.Capture.{FirstExplaining, Unexplained}

-- "Single spaces part words and numbers"
abbrev pub space : List ℕ
space = 32 ∷ []

abbrev pub line_feed : List ℕ
line_feed = 10 ∷ []

-- a number "in decimal without needless zeros", if it has at most so many digits
unfoldable pub digits : ℕ → ℕ → List ℕ
digits zero n = []
digits (suc most) n = cond (ltb n 10) ((48 + n) ∷ []) (digits most (n / 10) ++ ((48 + n % 10) ∷ []))

-- no number that is printed has more than 20 digits
abbrev pub decimal : ℕ → List ℕ
decimal n = digits 20 n

-- below zero with a minus sign
abbrev pub signed : ℤ → List ℕ
signed (pos n) = decimal n
signed (negsuc n) = 45 ∷ decimal (suc n)

-- The cuts that the replay program reads.

-- `cut `
abbrev pub cut_word : List ℕ
cut_word = 99 ∷ 117 ∷ 116 ∷ 32 ∷ []

-- "a line is `cut `, the slot, one space, the link and a line feed"
abbrev pub cut_line : ℕ → ℕ → List ℕ
cut_line i e = cut_word ++ (decimal i ++ (space ++ (decimal e ++ line_feed)))

-- the byte at an index of a text; past its end 0, which no line has
abbrev pub byte_at : List ℕ → ℕ → ℕ
byte_at text i = get_or text i 0

abbrev pub is_digit : ℕ → Bool
is_digit b = leb 48 b && leb b 57

-- the word `cut ` stands at index i
abbrev pub has_word : List ℕ → ℕ → Bool
has_word text i =
    eqb (byte_at text i) 99 && eqb (byte_at text (i + 1)) 117 && eqb (byte_at text (i + 2)) 116 && eqb (byte_at text (i + 3)) 32

-- "in decimal without needless zeros, each number at most 63": what two digits say, what the number at index i says, and how many
-- bytes it has, 0 where no such number stands there
abbrev pub two_digits : List ℕ → ℕ → ℕ
two_digits text i = (byte_at text i - 48) * 10 + (byte_at text (i + 1) - 48)

abbrev pub number_at : List ℕ → ℕ → ℕ
number_at text i = cond (is_digit (byte_at text (i + 1))) (two_digits text i) (byte_at text i - 48)

abbrev pub number_size : List ℕ → ℕ → ℕ
number_size text i =
    cond (is_digit (byte_at text i))
    (cond (is_digit (byte_at text (i + 1))) (cond (ltb 48 (byte_at text i) && leb (two_digits text i) 63) 2 0) 1)
    0

-- where the slot, the space, the link and the line feed of the line at index i stand
abbrev pub slot_index : ℕ → ℕ
slot_index i = i + 4

abbrev pub space_index : List ℕ → ℕ → ℕ
space_index text i = slot_index i + number_size text (slot_index i)

abbrev pub link_index : List ℕ → ℕ → ℕ
link_index text i = space_index text i + 1

abbrev pub feed_index : List ℕ → ℕ → ℕ
feed_index text i = link_index text i + number_size text (link_index text i)

-- a line of the right form stands at index i
abbrev pub is_cut_line : List ℕ → ℕ → Bool
is_cut_line text i =
    has_word text i &&
    ltb 0 (number_size text (slot_index i)) &&
    eqb (byte_at text (space_index text i)) 32 &&
    ltb 0 (number_size text (link_index text i)) &&
    eqb (byte_at text (feed_index text i)) 10

-- the cuts of at most so many lines from index i on. "A line of another form is refusal 12": it ends the list with a lone number, which is a
-- bad pair at that line's index; "no line at all is the list without cuts"
unfoldable pub cuts_from : ℕ → List ℕ → ℕ → List ℕ
cuts_from zero text i = []
cuts_from (suc lines) text i =
    cond (ltb i (length text))
    (cond (is_cut_line text i)
    (number_at text (slot_index i) ∷ number_at text (link_index text i) ∷ cuts_from lines text (feed_index text i + 1))
    (0 ∷ []))
    []

-- a text has no more lines than bytes
abbrev pub cuts_of : List ℕ → List ℕ
cuts_of text = cuts_from (length text) text 0

-- the lines of a list of cuts
unfoldable pub cut_lines : List ℕ → List ℕ
cut_lines [] = []
cut_lines (i ∷ []) = []
cut_lines (i ∷ e ∷ cuts) = cut_line i e ++ cut_lines cuts

-- The capture that the program `explain` reads (document 02, [7]).

-- "lines of three decimals with single spaces": slot, link and message
abbrev pub triple_line : ℕ → ℕ → ℕ → List ℕ
triple_line i e m = decimal i ++ (space ++ (decimal e ++ (space ++ (decimal m ++ line_feed))))

-- the index behind the number at index i, and where the second number, the third and the line feed of the line at index i stand
abbrev pub past_number : List ℕ → ℕ → ℕ
past_number text i = i + number_size text i

abbrev pub second_number : List ℕ → ℕ → ℕ
second_number text i = past_number text i + 1

abbrev pub third_number : List ℕ → ℕ → ℕ
third_number text i = past_number text (second_number text i) + 1

abbrev pub end_of_triple : List ℕ → ℕ → ℕ
end_of_triple text i = past_number text (third_number text i)

-- a line of the right form stands at index i
abbrev pub is_triple_line : List ℕ → ℕ → Bool
is_triple_line text i =
    ltb 0 (number_size text i) &&
    eqb (byte_at text (past_number text i)) 32 &&
    ltb 0 (number_size text (second_number text i)) &&
    eqb (byte_at text (past_number text (second_number text i))) 32 &&
    ltb 0 (number_size text (third_number text i)) &&
    eqb (byte_at text (end_of_triple text i)) 10

-- the capture of at most so many lines from index i on. A line out of form ends it with a lone number, which is an unfinished triple at that
-- line's index: refusal 23
unfoldable pub capture_from : ℕ → List ℕ → ℕ → List ℕ
capture_from zero text i = []
capture_from (suc lines) text i =
    cond (ltb i (length text))
    (cond (is_triple_line text i)
    (number_at text i ∷ number_at text (second_number text i) ∷ number_at text (third_number text i) ∷
    capture_from lines text (end_of_triple text i + 1))
    (0 ∷ []))
    []

-- a text has no more lines than bytes
abbrev pub capture_of : List ℕ → List ℕ
capture_of text = capture_from (length text) text 0

-- What the programs print.

-- "the printed refusal ends with both": the place and the step, of a refusal that has them
abbrev pub path_text : Refusal → List ℕ
path_text r = cond (names_link r.no) (space ++ (decimal r.at ++ (space ++ decimal r.step))) []

-- `refused N place P`, and of a rule of paths `refused N place MESSAGE PLACE STEP`, without the end of the line
abbrev pub refused_text : Refusal → List ℕ
refused_text r =
    (114 ∷ 101 ∷ 102 ∷ 117 ∷ 115 ∷ 101 ∷ 100 ∷ 32 ∷ []) ++
    (decimal r.no ++ ((32 ∷ 112 ∷ 108 ∷ 97 ∷ 99 ∷ 101 ∷ 32 ∷ []) ++ (decimal r.place ++ path_text r)))

abbrev pub refused_line : Refusal → List ℕ
refused_line r = refused_text r ++ line_feed

-- `slot message kind number`
abbrev pub header : List ℕ
header =
    115 ∷ 108 ∷ 111 ∷ 116 ∷ 32 ∷ 109 ∷ 101 ∷ 115 ∷ 115 ∷ 97 ∷ 103 ∷ 101 ∷ 32 ∷ 107 ∷ 105 ∷ 110 ∷ 100 ∷ 32 ∷ 110 ∷ 117 ∷ 109 ∷
    98 ∷ 101 ∷ 114 ∷ 10 ∷ []

-- "one line an event": slot, message, kind and number
abbrev pub event_line : ℕ → ℕ → ℕ → ℕ → List ℕ
event_line i m k n = decimal i ++ (space ++ (decimal m ++ (space ++ (decimal k ++ (space ++ (decimal n ++ line_feed))))))

-- n lines of an event row, from its event j on, where a slot has so many messages
unfoldable pub event_lines : ℕ → List ℕ → ℕ → ℕ → List ℕ
event_lines messages row j zero = []
event_lines messages row j (suc n) =
    event_line (j / messages) (j % messages) (get_or row (2 * j) 0) (get_or row (2 * j + 1) 0) ++ event_lines messages row (j + 1) n

-- `arrived N of M`
abbrev pub arrived_line : ℕ → ℕ → List ℕ
arrived_line n m =
    (97 ∷ 114 ∷ 114 ∷ 105 ∷ 118 ∷ 101 ∷ 100 ∷ 32 ∷ []) ++ (decimal n ++ ((32 ∷ 111 ∷ 102 ∷ 32 ∷ []) ++ (decimal m ++ line_feed)))

-- the listing of a replay, or "`refused N place P` alone"
unfoldable pub listing : Outcome → Plan → List ℕ → List ℕ
listing (gives n) plan row =
    header ++ (event_lines (length plan.messages) row 0 (plan.timeout * length plan.messages) ++ arrived_line n (length plan.messages))
listing (refused r) plan row = refused_line r

-- what the replay program prints for a plan file and an input: the plan's refusal comes before the cuts'
unfoldable pub replay_text : List ℕ → List ℕ → List ℕ
replay_text file input = said (read_file file longest_row)
  where
    said : Outcome → List ℕ
    said (refused r) = refused_line r
    said (gives n) =
        listing (replay (row_of file) (cuts_of input) longest_events) (plan_of (row_of file)) (event_row (plan_of (row_of file)) (cuts_of input))

-- `k l resistant`
abbrev pub resistant_line : ℕ → ℕ → List ℕ
resistant_line k l =
    decimal k ++ (space ++ (decimal l ++ (32 ∷ 114 ∷ 101 ∷ 115 ∷ 105 ∷ 115 ∷ 116 ∷ 97 ∷ 110 ∷ 116 ∷ 10 ∷ [])))

-- "or `k l` and the pairs' numbers"
unfoldable pub spaced : List ℕ → List ℕ
spaced [] = []
spaced (n ∷ ns) = space ++ (decimal n ++ spaced ns)

abbrev pub failing_line : ℕ → ℕ → List ℕ → List ℕ
failing_line k l cuts = decimal k ++ (space ++ (decimal l ++ (spaced cuts ++ line_feed)))

-- the line of a verdict
pub data VerdictLine (plan : Plan) (k l : ℕ) : List ℕ → Type 0 where
  resistant : Resistant plan k l → VerdictLine plan k l (resistant_line k l)
  failing : {cuts : List ℕ} → FirstFailing plan k l cuts → VerdictLine plan k l (failing_line k l cuts)

-- "its pairs' numbers on one line"
unfoldable pub parted : List ℕ → List ℕ
parted [] = []
parted (n ∷ ns) = decimal n ++ spaced ns

-- `unexplained`
abbrev pub unexplained_line : List ℕ
unexplained_line = 117 ∷ 110 ∷ 101 ∷ 120 ∷ 112 ∷ 108 ∷ 97 ∷ 105 ∷ 110 ∷ 101 ∷ 100 ∷ 10 ∷ []

-- "its pairs' numbers on one line, then its listing"
abbrev pub explained_lines : Plan → List ℕ → List ℕ
explained_lines plan cuts = parted cuts ++ (line_feed ++ listing (gives (arrivals plan cuts)) plan (event_row plan cuts))

-- what is said of a capture
pub data Explanation (plan : Plan) (k : ℕ) (capture : List ℕ) : List ℕ → Type 0 where
  unexplained : Unexplained plan k capture → Explanation plan k capture unexplained_line
  explained : {cuts : List ℕ} → FirstExplaining plan k capture cuts → Explanation plan k capture (explained_lines plan cuts)

-- what the program `explain` prints for a plan file and an input: it "uses k 2"
unfoldable pub ExplainText : List ℕ → List ℕ → List ℕ → Type 0
ExplainText file input text = Said (read_file file longest_row)
  where
    Asked : Outcome → Type 0
    Asked (refused r) = text ≡ refused_line r
    Asked (gives n) = Explanation (plan_of (row_of file)) 2 (capture_of input) text

    Said : Outcome → Type 0
    Said (refused r) = text ≡ refused_line r
    Said (gives n) = Asked (may_explain (row_of file) 2 (capture_of input) 4)

-- "it goes up to k 3 if E × t is at most 64, else to k 1"
abbrev pub highest_k : Plan → ℕ
highest_k plan = cond (leb (length plan.links * plan.timeout) 64) 3 1

-- `slack`, message, place and slack
abbrev pub slack_line : ℕ → ℕ → ℤ → List ℕ
slack_line m p z =
    (115 ∷ 108 ∷ 97 ∷ 99 ∷ 107 ∷ 32 ∷ []) ++ (decimal m ++ (space ++ (decimal p ++ (space ++ (signed z ++ line_feed)))))

-- the slack lines of a message from place p on: "for each message and place with a second path, in order"
abbrev pub slack_line_of : Plan → ℕ → ℕ → Place → List ℕ → List ℕ
slack_line_of plan m p here [] = []
slack_line_of plan m p here (e ∷ es) = slack_line m p (slack_of (order_of plan) plan m here)

unfoldable pub message_slacks : Plan → ℕ → ℕ → List Place → List ℕ
message_slacks plan m p [] = []
message_slacks plan m p (here ∷ ps) = slack_line_of plan m p here here.second ++ message_slacks plan m (p + 1) ps

unfoldable pub slack_lines : Plan → ℕ → List (List Place) → List ℕ
slack_lines plan m [] = []
slack_lines plan m (path ∷ paths) = message_slacks plan m 0 path ++ slack_lines plan (m + 1) paths

-- n lines under k, from l on, and then what Rest allows
unfoldable pub UnderK : Plan → ℕ → (List ℕ → Type 0) → ℕ → ℕ → List ℕ → Type 0
UnderK plan k Rest l zero text = Rest text
UnderK plan k Rest l (suc n) text =
    (line : List ℕ) × (more : List ℕ) × VerdictLine plan k l line × (text ≡ line ++ more) × UnderK plan k Rest (l + 1) n more

-- "for k rising and under each k for l from 0 to M one line", for the n numbers from k on; "then" the slack lines
unfoldable pub VerdictLines : Plan → ℕ → ℕ → List ℕ → Type 0
VerdictLines plan k zero text = text ≡ slack_lines plan 0 plan.messages
VerdictLines plan k (suc n) text = UnderK plan k (VerdictLines plan (k + 1) n) 0 (length plan.messages + 1) text

-- what the verdict program prints for a plan file
unfoldable pub VerdictText : List ℕ → List ℕ → Type 0
VerdictText file text = Said (read_file file longest_row)
  where
    Said : Outcome → Type 0
    Said (refused r) = text ≡ refused_line r
    Said (gives n) = VerdictLines (plan_of (row_of file)) 0 (1 + highest_k (plan_of (row_of file))) text
