-- What holds of the text that the program `explain` prints: a plan file and an input have one text, it has room in 36,954 bytes, the first
-- 7,349 bytes of the file decide it, and a call of `explain_text` allows one outcome.
use Prim.Native.Nat.{ℕ, zero, suc, ◌+◌, ◌*◌, ◌/◌, ◌%◌, ◌≤◌, ◌<◌}
use mathlib.Core.Path.{◌≡◌, refl, sym, ◌∙◌, ap}
use mathlib.Core.Bool.{true}
use mathlib.Core.List.{List}
use native.Mathlib.Omega.{arith}
use lib.ListN.{length, get_or, take, length-append}
use Rattle.scope.specs.Outcome.{Answer}
use Rattle.std.specs.Prelude.{Ok, Err}
use Rattle.scope.specs.declared.Refusal.{Refusal}
use Rattle.scope.specs.Limits.{longest_row, plan_room}
use Rattle.scope.specs.Outcome.{Outcome, gives, refused}
use Rattle.scope.specs.File.{row_of}
use Rattle.scope.specs.Plan.{Plan, plan_of}
use Rattle.scope.specs.Cuts.{pairs, is_cut_list}
use Rattle.scope.specs.Capture.{Explains, Unexplained}
use Rattle.scope.specs.Questions.{read_file, may_explain}
use Rattle.scope.specs.Lines.{capture_of, refused_line, explained_lines, Explanation, unexplained, explained, ExplainText}
use Rattle.scope.proofs.Order.{first_once_lem}
use Rattle.scope.proofs.Cuts.{slot-below, link-below, even}
use Rattle.rows.proofs.Walked.{walked}
use Rattle.rows.proofs.Parts.{link-count, timeout-is}
use Rattle.plan.specs.Answers.{GoodRow}
use Rattle.plan.proofs.Reading.{read-good}
use Rattle.listing.proofs.Lines.{refused-size}
use Rattle.listing.specs.Prints.{Prints, Front, PrintedOne}
use Rattle.listing.proofs.Printing.{says-only, printed, printed_given, printed-refused}
use Rattle.listing.proofs.Fronts.{from_front}
use Rattle.explain_text.specs.Room.{explain_room}
use Rattle.explain_text.specs.Text.{list_line, CaptureText, may_tell, SaysOne}
use Rattle.explain_text.proofs.Line.{line_small}
use Rattle.explain_text.proofs.Captures.{lines_are, listing-short, text-is, text-back, text-refused, back-refused}

-- a capture has one explanation
unexplained_or_explained : (plan : Plan) (k : ℕ) (capture cuts : List ℕ) → Unexplained plan k capture → is_cut_list plan cuts ≡ true →
    pairs cuts ≤ k →
    Explains plan capture cuts → ⊥
unfolding Unexplained
unexplained_or_explained plan k capture cuts none good few does = none cuts good few does

pub explanation_once : (plan : Plan) (k : ℕ) (capture a b : List ℕ) → Explanation plan k capture a → Explanation plan k capture b → a ≡ b
explanation_once plan k capture _ _ (unexplained x) (unexplained y) = refl
explanation_once plan k capture _ _ (unexplained x) (explained {cuts} y) =
    absurd (unexplained_or_explained plan k capture cuts x y.good y.few y.answers)
explanation_once plan k capture _ _ (explained {cuts} x) (unexplained y) =
    absurd (unexplained_or_explained plan k capture cuts y x.good x.few x.answers)
explanation_once plan k capture _ _ (explained {cuts} x) (explained {cuts = others} y) =
    ap (explained_lines plan) (first_once_lem plan (Explains plan capture) k cuts others x y)

captured_once : (row capture a b : List ℕ) → CaptureText row capture a → CaptureText row capture b → a ≡ b
unfolding CaptureText
captured_once row capture a b x y = by (may_explain row 2 capture 4) refl
  where
    by : (o : Outcome) → may_explain row 2 capture 4 ≡ o → a ≡ b
    by (refused r) e = (rw e at x) ∙ sym (rw e at y)
    by (gives n) e = explanation_once (plan_of row) 2 capture a b (rw e at x) (rw e at y)

-- a plan file and an input have one text
pub text_once : (file input a b : List ℕ) → ExplainText file input a → ExplainText file input b → a ≡ b
text_once file input a b x y = by (read_file file longest_row) refl
  where
    by : (o : Outcome) → read_file file longest_row ≡ o → a ≡ b
    by (refused r) e = back-refused file input r e a x ∙ sym (back-refused file input r e b y)
    by (gives n) e = captured_once (row_of file) (capture_of input) a b (text-back file input n e a x) (text-back file input n e b y)

-- so two outcomes that the promise of `explain_text` allows are equal
pub one_text : (file input entry exit exit' : List ℕ) (r r' : Answer) → SaysOne (may_tell file input) (ExplainText file input) entry exit r →
    SaysOne (may_tell file input) (ExplainText file input) entry exit' r' → (r ≡ r') × (exit ≡ exit')
one_text file input entry exit exit' r r' p q =
    let same : q.text ≡ p.text = text_once file input q.text p.text q.kind p.kind in
    says-only p.says (rw same at q.says)

-- the numbers of a cut list have two digits
module _ (row : List ℕ) (good : GoodRow row) (cuts : List ℕ) (h : is_cut_list (plan_of row) cuts ≡ true) where
  small : (i : ℕ) → i < length cuts → get_or cuts i 0 < 100
  small i l =
      let lies = walked row good.form in
      let time : (plan_of row).timeout ≤ 64 = rw (timeout-is row) lies.timeout in
      let many : length (plan_of row).links ≤ 64 = rw (link-count row) lies.links in
      let n = even (plan_of row) cuts h in
      let j : i / 2 < pairs cuts = omega arith in
      by (i % 2) refl (slot-below (plan_of row) cuts h (i / 2) j) (link-below (plan_of row) cuts h (i / 2) j) time many
    where
      by : (r : ℕ) → i % 2 ≡ r → get_or cuts (2 * (i / 2)) 0 < (plan_of row).timeout → get_or cuts (2 * (i / 2) + 1) 0 < length (plan_of row).links →
          (plan_of row).timeout ≤ 64 → length (plan_of row).links ≤ 64 → get_or cuts i 0 < 100
      by zero e s l time many =
          let is : 2 * (i / 2) ≡ i = omega arith in
          let s' : get_or cuts i 0 < (plan_of row).timeout = rw is at s in
          omega arith
      by (suc zero) e s l time many =
          let is : 2 * (i / 2) + 1 ≡ i = omega arith in
          let l' : get_or cuts i 0 < length (plan_of row).links = rw is at l in
          omega arith
      by (suc (suc r)) e s l time many = absurd (omega arith)

  lines_room : pairs cuts ≤ 2 → length (explained_lines (plan_of row) cuts) ≤ explain_room
  lines_room few =
      let n = even (plan_of row) cuts h in
      let a = line_small cuts (omega arith) small in
      let b = listing-short row good cuts h in
      omega (arith, ap length (lines_are row good cuts h) ∙ length-append (list_line cuts) _)

captured-room : (row capture text : List ℕ) → GoodRow row → CaptureText row capture text → length text ≤ explain_room
unfolding CaptureText
captured-room row capture text good k = by (may_explain row 2 capture 4) refl
  where
    told : (t : List ℕ) → Explanation (plan_of row) 2 capture t → length t ≤ explain_room
    told _ (unexplained x) = omega arith
    told _ (explained {cuts} x) = lines_room row good cuts x.good x.few

    by : (o : Outcome) → may_explain row 2 capture 4 ≡ o → length text ≤ explain_room
    by (refused r) e = let is : text ≡ refused_line r = rw e at k in omega (arith, refused-size r, ap length is)
    by (gives n) e = told text (rw e at k)

-- every text has room
pub text-room : (file input text : List ℕ) → ExplainText file input text → length text ≤ explain_room
text-room file input text x = by (read_file file longest_row) refl
  where
    by : (o : Outcome) → read_file file longest_row ≡ o → length text ≤ explain_room
    by (refused r) e = omega (arith, refused-size r, ap length (back-refused file input r e text x))
    by (gives n) e =
        captured-room (row_of file) (capture_of input) text (read-good file (row_of file) longest_row n e refl) (text-back file input n e text x)

-- the first bytes of a plan file decide its text
pub front-text : (file input text : List ℕ) → ExplainText (take plan_room file) input text → ExplainText file input text
front-text file input text x =
    from_front (λ (f : List ℕ). ExplainText f input text) file
    (λ r front whole given.
    text-refused file input r whole text (back-refused (take plan_room file) input r front text x)) x

-- What a program prints that lends as many bytes: the text, or the line of its refusal.
module _ (row capture entry exit : List ℕ) (good : GoodRow row) (a : Answer) (room : length entry ≡ explain_room)
    (s : SaysOne (may_explain row 2 capture 4) (CaptureText row capture) entry exit a) where
  fits : length s.text ≤ length entry
  fits = omega (arith, captured-room row capture s.text good s.kind)

  line : (r : Refusal) → may_explain row 2 capture 4 ≡ refused r → s.text ≡ refused_line r
  unfolding CaptureText
  line r e = rw e at s.kind

  pub prints_given : (n : ℕ) → a ≡ Ok n → PrintedOne (CaptureText row capture) entry exit (Ok n)
  prints_given n e = record {
    text = s.text;
    kind = s.kind;
    printed = printed_given s.text entry fits (may_explain row 2 capture 4) s.text refl a s.says n e;
  }

  pub prints-refused : (r : Refusal) → a ≡ Err r → {exit' : List ℕ} {b : Answer} → Prints (refused_line r) exit exit' b →
      PrintedOne (CaptureText row capture) entry exit' b
  prints-refused r e p = record {
    text = s.text;
    kind = s.kind;
    printed = printed-refused s.text entry fits (may_explain row 2 capture 4) s.text refl a s.says r e line p;
  }

-- for the whole of a plan file of which a front was read
module _ (plan : List ℕ) (p : ℕ) (file : List ℕ) (l : length plan ≡ plan_room) (f : Front plan p file) where
  front-is : take p plan ≡ take plan_room file
  front-is = f ∙ ap (λ (n : ℕ). take n file) l

  whole-text : (input text : List ℕ) → ExplainText (take p plan) input text → ExplainText file input text
  whole-text input text x = front-text file input text (rw front-is at x)

  pub shown-refused : (r : Refusal) → read_file (take p plan) longest_row ≡ refused r → {entry exit : List ℕ} {a : Answer} →
      length entry ≡ explain_room → Prints (refused_line r) entry exit a → (input : List ℕ) → PrintedOne (ExplainText file input) entry exit a
  shown-refused r e {entry} room q input = record {
    text = refused_line r;
    kind = whole-text input (refused_line r) (text-refused (take p plan) input r e (refused_line r) refl);
    printed = printed (refused_line r) entry (omega (arith, refused-size r)) q;
  }

  pub shown_given : (n : ℕ) → read_file (take p plan) longest_row ≡ gives n → (row : List ℕ) → row ≡ row_of (take p plan) →
      {entry exit : List ℕ} {a : Answer} (input : List ℕ) → PrintedOne (CaptureText row (capture_of input)) entry exit a →
      PrintedOne (ExplainText file input) entry exit a
  shown_given n e row is input q =
      let k : CaptureText (row_of (take p plan)) (capture_of input) q.text = rw is at q.kind in
      record { text = q.text; kind = whole-text input q.text (text-is (take p plan) input n e q.text k); printed = q.printed }
