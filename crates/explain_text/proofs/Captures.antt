-- Laws of the text of a capture: by the answer that explains it, of the capture that an input is, and of a plan file.
use Prim.Native.Nat.{ℕ, ◌+◌, ◌-◌, ◌*◌, ◌≤◌, ◌<◌, min}
use mathlib.Core.Path.{◌≡◌, refl, sym, ◌∙◌, ap}
use mathlib.Core.Bool.{true}
use mathlib.Core.List.{List, [], ◌++◌, append_assoc}
use native.Mathlib.Omega.{arith}
use native.Mathlib.Nat.{mul_assoc, mul-le-mul, min-le_right}
use lib.ListN.{length, get_or, take, length-append, length-take, replicate}
use borrow.Rule.Slice.PartMut.{mid_of, put_mid}
use borrow.Author.Tests.{le-leb}
use Rattle.scope.specs.Outcome.{Answer}
use Rattle.std.specs.Prelude.{Some, None, Ok, Err}
use Rattle.scope.specs.declared.Refusal.{Refusal}
use Rattle.scope.specs.Limits.{longest_row, longest_events, crossed_size}
use Rattle.scope.specs.Outcome.{Outcome, outcome_of, gives, refused, refuse}
use Rattle.scope.specs.File.{row_of}
use Rattle.scope.specs.Plan.{plan_of}
use Rattle.scope.specs.Lowest.{some}
use Rattle.scope.specs.Cuts.{pairs, bad_pair, is_cut_list, check_cuts}
use Rattle.scope.specs.Cycle.{arrivals, event_row}
use Rattle.scope.specs.Questions.{read_file, replay, may_explain}
use Rattle.scope.specs.Lines.{capture_of, explained_lines, unexplained_line, refused_line, listing, Explanation, unexplained, explained}
use Rattle.scope.specs.Lines.{parted, line_feed, ExplainText}
use Rattle.scope.proofs.Bools.{not-true}
use Rattle.scope.proofs.Cuts.{even}
use Rattle.rows.proofs.Walked.{walked}
use Rattle.rows.proofs.Parts.{message-count, timeout-is}
use Rattle.plan.specs.Answers.{GoodRow}
use Rattle.plan.proofs.Theorems.{judged}
use Rattle.cut_replay.proofs.Ways.{numbers-needed}
use Rattle.capture.specs.declared.Kept.{Kept}
use Rattle.capture.specs.Kept.{Keeps, Small}
use Rattle.capture_lines.specs.Reads.{Starts, Feeds, Finishes}
use Rattle.capture_lines.specs.declared.Reading.{Reading}
use Rattle.explanations.specs.Explained.{Explanation as Answer-of}
use Rattle.explanations.specs.Explained.{Answered, IsUnexplained, IsListed, IsRefused}
use Rattle.listing.specs.Prints.{Says, Prints}
use Rattle.listing.proofs.Printing.{prints_as, says_given, says-refused, says_as}
use Rattle.listing.proofs.Room.{listing-room}
use Rattle.text.specs.Text.{Puts}
use Rattle.replay_text.specs.Text.{text_of}
use Rattle.replay_text.proofs.Low.{event-numbers}
use Rattle.explain_text.proofs.Line.{line-size}
use Rattle.explain_text.proofs.Behind.{both_given, both-refused, count_given, count-refused}
use Rattle.explain_text.specs.Text.{list_line, CaptureText, may_tell, SaysOne, MayList}

-- the sizes of a good row
module _ (row : List ℕ) (good : GoodRow row) where
  pub good-small : Small row
  good-small = let lies = walked row good.form in record { timeout = lies.timeout; links = lies.links; messages = lies.messages }

  -- a cut list is replayed
  checks : (cuts : List ℕ) → is_cut_list (plan_of row) cuts ≡ true → check_cuts (plan_of row) cuts ≡ gives (pairs cuts)
  unfolding check_cuts
  checks cuts h = rw (not-true (some (bad_pair (plan_of row) cuts) (pairs cuts)) h)

  fits : (cuts : List ℕ) → length (event_row (plan_of row) cuts) ≤ longest_events
  fits cuts =
      let lies = walked row good.form in
      let time : (plan_of row).timeout ≤ 64 = rw (timeout-is row) lies.timeout in
      let many : length (plan_of row).messages ≤ 32 = rw (message-count row) lies.messages in
      let all : (plan_of row).timeout * length (plan_of row).messages ≤ 64 * 32 = mul-le-mul time many in
      rw (numbers-needed (plan_of row) cuts, mul_assoc 2 (plan_of row).timeout (length (plan_of row).messages)) (omega arith)

  replays : (cuts : List ℕ) → is_cut_list (plan_of row) cuts ≡ true → replay row cuts longest_events ≡ gives (arrivals (plan_of row) cuts)
  unfolding replay
  replays cuts h = rw (judged row good, checks cuts h, le-leb (length (event_row (plan_of row) cuts)) longest_events (fits cuts))

  module _ (cuts : List ℕ) (h : is_cut_list (plan_of row) cuts ≡ true) where
    pub listing-is : text_of row cuts ≡ listing (gives (arrivals (plan_of row) cuts)) (plan_of row) (event_row (plan_of row) cuts)
    listing-is = ap (λ (o : Outcome). listing o (plan_of row) (event_row (plan_of row) cuts)) (replays cuts h)

    pub lines_are : explained_lines (plan_of row) cuts ≡ list_line cuts ++ text_of row cuts
    lines_are =
        ap (λ (x : List ℕ). parted cuts ++ (line_feed ++ x)) (sym listing-is) ∙ sym (append_assoc (parted cuts) line_feed (text_of row cuts))

    pub listing-some : 0 < length (text_of row cuts)
    unfolding listing
    listing-some = rw listing-is (simp length-append (omega arith))

    pub listing-short : length (text_of row cuts) ≤ 36942
    listing-short =
        let lies = walked row good.form in
        let m = message-count row in
        let few = lies.messages in
        let time : (plan_of row).timeout ≤ 64 = rw (timeout-is row) lies.timeout in
        let small : (i : ℕ) → get_or (event_row (plan_of row) cuts) i 0 < 65536 = λ i. omega (arith, event-numbers row lies cuts i) in
        listing-room (replay row cuts longest_events) (plan_of row) (event_row (plan_of row) cuts) (omega arith) (omega arith) time small

    pub listed : {out out' : List ℕ} {r : Answer} → Says (replay row cuts longest_events) (text_of row cuts) out out' r →
        Prints (text_of row cuts) out out' r
    listed s = let p = says_as (replays cuts h) refl s in record { answer = p.answer; buffer = p.buffer }

-- the line and the listing behind it
module _ (row list : List ℕ) (good : GoodRow row) (may : MayList row list) (b entry tail : List ℕ) (n from : ℕ) (a : Answer) (first : Puts (list_line list) [] b 0 n)
    (is : from ≡ min n (length (b ++ entry)))
    (s : Says (replay row list longest_events) (text_of row list) (mid_of from (length (b ++ entry) - from) (b ++ entry)) tail a) where
  p : Prints (text_of row list) (mid_of from (length (b ++ entry) - from) (b ++ entry)) tail a
  p = listed row good list may.list s

  some-text : 0 < length (text_of row list)
  some-text = listing-some row good list may.list

  pub lines_given : (m k : ℕ) (exit : List ℕ) → a ≡ Ok m →
      Puts (list_line list) (put_mid from (length (b ++ entry) - from) (b ++ entry) tail) exit 0 k →
      Prints (explained_lines (plan_of row) list) entry exit (Ok (n + m))
  lines_given m k exit e q =
      prints_as (sym (lines_are row good list may.list))
      (both_given (list_line list) (text_of row list) b entry tail n from a some-text first is p m k exit e q)

  pub lines_refused : (r : Refusal) (c : Answer) → a ≡ Err r → outcome_of c ≡ refuse 13 (n + r.place) →
      Prints (explained_lines (plan_of row) list) entry (put_mid from (length (b ++ entry) - from) (b ++ entry) tail) c
  lines_refused r c e o =
      prints_as (sym (lines_are row good list may.list))
      (both-refused (list_line list) (text_of row list) b entry tail n from a some-text first is p r c e o)

  short : length (list_line list) + length (text_of row list) ≤ 37047
  short = omega (arith, line-size list may.few, listing-short row good list may.list)

  pub given_short : (m : ℕ) → a ≡ Ok m → n + m ≤ 37047
  given_short m e = omega (arith, short, count_given (list_line list) (text_of row list) b entry tail n from a some-text first is p m e)

  pub refused-short : (r : Refusal) → a ≡ Err r → n + r.place ≤ 37047
  refused-short r e = omega (arith, short, count-refused (list_line list) (text_of row list) b entry tail n from a some-text first is p r e)

-- the text of a capture by what is refused of it
module _ (row capture : List ℕ) where
  kind-refused : (r : Refusal) → may_explain row 2 capture 4 ≡ refused r → CaptureText row capture (refused_line r)
  unfolding CaptureText
  kind-refused r e = rw e refl

  kind_given : (n : ℕ) (text : List ℕ) → may_explain row 2 capture 4 ≡ gives n → Explanation (plan_of row) 2 capture text →
      CaptureText row capture text
  unfolding CaptureText
  kind_given n text e x = rw e x

  module _ (entry exit : List ℕ) (a : Answer-of) (four : length entry ≡ 4) (h : Answered row 2 capture entry exit a) where
    pub says-unexplained : a ≡ (Ok None) → {out out' : List ℕ} {r : Answer} → Prints unexplained_line out out' r →
        SaysOne (may_explain row 2 capture 4) (CaptureText row capture) out out' r
    says-unexplained e p =
        let is : IsUnexplained row 2 capture entry exit = rw e at h in
        let may : may_explain row 2 capture 4 ≡ gives 4 = rw four at is.may in
        record { text = unexplained_line; kind = kind_given 4 unexplained_line may (unexplained is.unexplained); says = says_given 4 may p }

    listed-is : (n : ℕ) → a ≡ Ok (Some n) → IsListed row 2 capture entry exit n
    listed-is n e = rw e at h

    pub listed-few : (n : ℕ) → a ≡ Ok (Some n) → n ≤ 2
    listed-few n e = let is = listed-is n e in let c = is.count in let f = is.list.few in omega arith

    pub listed-good : (n : ℕ) → a ≡ Ok (Some n) → is_cut_list (plan_of row) (take (2 * n) exit) ≡ true
    listed-good n e = (listed-is n e).list.good

    pub listed-long : (n : ℕ) → a ≡ Ok (Some n) → length (take (2 * n) exit) ≡ 2 * n
    listed-long n e =
        even (plan_of row) (take (2 * n) exit) (listed-good n e) ∙ ap (λ (x : ℕ). 2 * x) (listed-is n e).count

    pub listed-fits : (n : ℕ) → a ≡ Ok (Some n) → 2 * n ≤ length exit
    listed-fits n e =
        let l = listed-long n e in
        let m : length (take (2 * n) exit) ≡ min (2 * n) (length exit) = length-take (2 * n) exit in
        omega (arith, min-le_right (2 * n) (length exit))

    pub listed-may : (n : ℕ) → a ≡ Ok (Some n) → MayList row (take (2 * n) exit)
    listed-may n e = record { list = listed-good n e; few = omega (arith, listed-long n e, listed-few n e) }

    pub says-listed : (n : ℕ) → a ≡ Ok (Some n) → {out out' : List ℕ} {r : Answer} →
        Prints (explained_lines (plan_of row) (take (2 * n) exit)) out out' r →
        SaysOne (may_explain row 2 capture 4) (CaptureText row capture) out out' r
    says-listed n e p =
        let is = listed-is n e in
        let may : may_explain row 2 capture 4 ≡ gives 4 = rw four at is.may in
        let text = explained_lines (plan_of row) (take (2 * n) exit) in
        record { text = text; kind = kind_given 4 text may (explained is.list); says = says_given 4 may p }

    pub says_no : (r : Refusal) → a ≡ Err r → (out : List ℕ) →
        SaysOne (may_explain row 2 capture 4) (CaptureText row capture) out out (Err r)
    says_no r e out =
        let is : IsRefused row 2 capture entry exit r = rw e at h in
        let may : may_explain row 2 capture 4 ≡ refused r = rw four at is.may in
        record { text = refused_line r; kind = kind-refused r may; says = says-refused (refused_line r) out r may }

-- an input that was read whole
module _ (row input crossed : List ℕ) (r r' : Reading) (starts : Starts r)
    (fed : Feeds (plan_of row) input (replicate crossed_size 0) r crossed r') where
  pub input-kept : (kept : Kept) → Finishes r' kept → Keeps (plan_of row) (capture_of input) crossed kept
  input-kept kept finish = finish (plan_of row) input crossed (fed.reads [] (starts.reads (plan_of row)))

-- the text of a plan file
module _ (file input : List ℕ) where
  module _ (r : Refusal) (e : read_file file longest_row ≡ refused r) where
    pub may-refused : may_tell file input ≡ refused r
    unfolding may_tell
    may-refused = rw e refl

    pub text-refused : (text : List ℕ) → text ≡ refused_line r → ExplainText file input text
    unfolding ExplainText
    text-refused text is = rw e is

    pub back-refused : (text : List ℕ) → ExplainText file input text → text ≡ refused_line r
    unfolding ExplainText
    back-refused text x = rw e at x

    pub file-refused : (out : List ℕ) → SaysOne (may_tell file input) (ExplainText file input) out out (Err r)
    file-refused out =
        record { text = refused_line r; kind = text-refused (refused_line r) refl; says = says-refused (refused_line r) out r may-refused }

  module _ (n : ℕ) (e : read_file file longest_row ≡ gives n) where
    pub may-is : may_explain (row_of file) 2 (capture_of input) 4 ≡ may_tell file input
    unfolding may_tell
    may-is = sym (rw e refl)

    pub text-is : (text : List ℕ) → CaptureText (row_of file) (capture_of input) text → ExplainText file input text
    unfolding ExplainText CaptureText
    text-is text k = by (may_explain (row_of file) 2 (capture_of input) 4) refl
      where
        by : (o : Outcome) → may_explain (row_of file) 2 (capture_of input) 4 ≡ o → ExplainText file input text
        by (gives m) d = rw (e, d) (rw d at k)
        by (refused r) d = rw (e, d) (rw d at k)

    pub text-back : (text : List ℕ) → ExplainText file input text → CaptureText (row_of file) (capture_of input) text
    unfolding ExplainText CaptureText
    text-back text k = by (may_explain (row_of file) 2 (capture_of input) 4) refl
      where
        by : (o : Outcome) → may_explain (row_of file) 2 (capture_of input) 4 ≡ o → CaptureText (row_of file) (capture_of input) text
        by (gives m) d = rw d (rw (e, d) at k)
        by (refused r) d = rw d (rw (e, d) at k)

    pub file_given : (row : List ℕ) → row ≡ row_of file → {out out' : List ℕ} {r : Answer} →
        SaysOne (may_explain row 2 (capture_of input) 4) (CaptureText row (capture_of input)) out out' r →
        SaysOne (may_tell file input) (ExplainText file input) out out' r
    file_given row is {out} {out'} {r} s =
        let k : CaptureText (row_of file) (capture_of input) s.text = rw is at s.kind in
        let may : may_explain row 2 (capture_of input) 4 ≡ may_tell file input =
        ap (λ (x : List ℕ). may_explain x 2 (capture_of input) 4) is ∙ may-is in
        record { text = s.text; kind = text-is s.text k; says = says_as may refl s.says }
