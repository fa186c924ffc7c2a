-- What holds of the texts that the programs `verdict` and `deep` print: a file has one text, every text has room in 34,700 bytes, the first
-- 7,349 bytes of a file decide it, and a call that prints it allows one outcome. It is said once, of how high k goes.
use Prim.Native.Nat.{ℕ, zero, suc, ◌+◌, ◌*◌, ◌≤◌, ◌<◌}
use mathlib.Core.Path.{◌≡◌, refl, sym, ◌∙◌, ap, ap₂, subst}
use mathlib.Core.Bool.{Bool, true, false, cond}
use mathlib.Core.List.{List, [], ◌++◌}
use native.Mathlib.Omega.{arith}
use lib.ListN.{length, take, length-append}
use lib.Dec.{leb}
use borrow.Author.Tests.{le-leb}
use Rattle.scope.specs.Outcome.{Answer}
use Rattle.std.specs.Prelude.{Ok}
use Rattle.scope.specs.declared.Refusal.{Refusal}
use Rattle.scope.specs.Outcome.{Outcome, gives, refused, outcome_of}
use Rattle.scope.specs.File.{row_of}
use Rattle.scope.specs.Plan.{Plan, plan_of}
use Rattle.scope.specs.Questions.{read_file}
use Rattle.scope.specs.Lines.{VerdictLine, resistant, failing, failing_line, UnderK, VerdictLines, VerdictText, slack_lines, refused_line}
use Rattle.scope.specs.Verdict.{Fails}
use Rattle.scope.proofs.Order.{first_once_lem, resistant_or_failing}
use Rattle.scope.specs.Limits.{longest_row, plan_room}
use Rattle.text.specs.Text.{laid}
use Rattle.listing.proofs.Lines.{refused-size}
use Rattle.listing.specs.Prints.{Prints, Front, PrintedOne}
use Rattle.listing.proofs.Printing.{prints_as, says-only, printed}
use Rattle.listing.proofs.Fronts.{from_front}
use Rattle.plan.proofs.Reading.{read-good}
use Rattle.verdict_text.specs.Texts.{DeepText, highest_or, TextUpTo}
use Rattle.verdict_text.specs.Layout.{verdict_room, LinesUnder, Lays, PrintsOne}
use Rattle.verdict_text.proofs.Composing.{highest_few, lays-prints}
use Rattle.verdict_text.proofs.Verdicts.{few-messages}
use Rattle.verdict_text.proofs.Room.{resistant-size, failing-size, slacks_size}

-- a verdict has one line
line_once : (plan : Plan) (k l : ℕ) (a b : List ℕ) → VerdictLine plan k l a → VerdictLine plan k l b → a ≡ b
line_once plan k l _ _ (resistant x) (resistant y) = refl
line_once plan k l _ _ (resistant x) (failing {cuts} y) = absurd (resistant_or_failing plan k l cuts x y)
line_once plan k l _ _ (failing {cuts} x) (resistant y) = absurd (resistant_or_failing plan k l cuts y x)
line_once plan k l _ _ (failing {cuts} x) (failing {cuts = others} y) = ap (failing_line k l) (first_once_lem plan (Fails plan l) k cuts others x y)

under_once : (plan : Plan) (k : ℕ) (Rest : List ℕ → Type 0) → ((a b : List ℕ) → Rest a → Rest b → a ≡ b) → (l n : ℕ) (a b : List ℕ) →
    UnderK plan k Rest l n a → UnderK plan k Rest l n b → a ≡ b
unfolding UnderK
under_once plan k Rest once l zero a b u v = once a b u v
under_once plan k Rest once l (suc n) a b u v =
    u.3 ∙ ap₂ ◌++◌ (line_once plan k l u.0 v.0 u.2 v.2)
    (under_once plan k Rest once (l + 1) n u.1 v.1 u.4 v.4) ∙ sym v.3

lines_once : (plan : Plan) (k n : ℕ) (a b : List ℕ) → VerdictLines plan k n a → VerdictLines plan k n b → a ≡ b
unfolding VerdictLines
lines_once plan k zero a b u v = u ∙ sym v
lines_once plan k (suc n) a b u v =
    under_once plan k (VerdictLines plan (k + 1) n) (lines_once plan (k + 1) n) 0 (length plan.messages + 1) a b u v

-- so a call of `lines_under` allows one outcome
pub one_lines : (plan : Plan) (k most at next next' : ℕ) (entry exit exit' : List ℕ) → Lays (LinesUnder plan k) most entry exit at next →
    Lays (LinesUnder plan k) most entry exit' at next' → (next ≡ next') × (exit ≡ exit')
one_lines plan k most at next next' entry exit exit' p q =
    let same : p.text ≡ q.text =
    under_once plan k (λ (rest : List ℕ). rest ≡ []) (λ a b e f. e ∙ sym f) 0 (length plan.messages + 1) p.text q.text
    p.kind q.kind in (
      p.puts.ends ∙ ap (λ (t : List ℕ). at + length t) same ∙ sym q.puts.ends,
      p.puts.buffer ∙ ap (laid entry at) same ∙ sym q.puts.buffer,
    )

-- the text by what reading the file gives
module _ (large : ℕ) where
  pub text-refused : (file text : List ℕ) (r : Refusal) → read_file file longest_row ≡ refused r → text ≡ refused_line r → TextUpTo large file text
  unfolding TextUpTo
  text-refused file text r e is = rw e is

  pub text_given : (file row text : List ℕ) (n : ℕ) → read_file file longest_row ≡ gives n → row ≡ row_of file →
      VerdictLines (plan_of row) 0 (1 + highest_or large (plan_of row)) text → TextUpTo large file text
  unfolding TextUpTo
  text_given file row text n e is lines =
      rw e (subst (λ (r : List ℕ). VerdictLines (plan_of r) 0 (1 + highest_or large (plan_of r)) text) is lines)

  back-refused : (file text : List ℕ) (r : Refusal) → read_file file longest_row ≡ refused r → TextUpTo large file text → text ≡ refused_line r
  unfolding TextUpTo
  back-refused file text r e v = rw e at v

  back_given : (file text : List ℕ) (n : ℕ) → read_file file longest_row ≡ gives n → TextUpTo large file text →
      VerdictLines (plan_of (row_of file)) 0 (1 + highest_or large (plan_of (row_of file))) text
  unfolding TextUpTo
  back_given file text n e v = rw e at v

  -- what is printed for a file
  pub prints-refused : (file entry exit : List ℕ) (a : Answer) (r : Refusal) → read_file file longest_row ≡ refused r →
      Prints (refused_line r) entry exit a →
      PrintsOne (TextUpTo large file) entry exit a
  prints-refused file entry exit a r e prints = record {
    text = refused_line r;
    kind =
        text-refused file (refused_line r) r e refl;
    prints = prints;
  }

  pub prints_given : (file row entry exit : List ℕ) (n count : ℕ) → read_file file longest_row ≡ gives n → row ≡ row_of file →
      verdict_room ≤ length entry →
      Lays (VerdictLines (plan_of row) 0 (1 + highest_or large (plan_of row))) verdict_room entry exit 0 count →
      PrintsOne (TextUpTo large file) entry exit (Ok count)
  prints_given file row entry exit n count e is room lays =
      let p = lays-prints room lays in
      record { text = p.text; kind = text_given file row p.text n e is p.kind; prints = p.prints }

-- a program's texts are those that go so high
pub record GoesTo (large : ℕ) (Kind : List ℕ → List ℕ → Type 0) : Type 0 where
  pub few : large ≤ 3
  pub to : (file text : List ℕ) → TextUpTo large file text → Kind file text
  pub back : (file text : List ℕ) → Kind file text → TextUpTo large file text

pub any_text : (large : ℕ) → large ≤ 3 → GoesTo large (TextUpTo large)
any_text large few = record { few = few; to = λ file text t. t; back = λ file text t. t }

verdict_to : (file text : List ℕ) (o : Outcome) → read_file file longest_row ≡ o → TextUpTo 1 file text → VerdictText file text
unfolding TextUpTo VerdictText
verdict_to file text (refused r) e v = rw e (rw e at v)
verdict_to file text (gives n) e v = rw e (rw e at v)

verdict_back : (file text : List ℕ) (o : Outcome) → read_file file longest_row ≡ o → VerdictText file text → TextUpTo 1 file text
unfolding TextUpTo VerdictText
verdict_back file text (refused r) e v = rw e (rw e at v)
verdict_back file text (gives n) e v = rw e (rw e at v)

pub verdict_text_lem : GoesTo 1 VerdictText
verdict_text_lem =
    record {
      few = omega arith;
      to = λ file text. verdict_to file text (read_file file longest_row) refl;
      back = λ file text. verdict_back file text (read_file file longest_row) refl;
    }

same_either : (t : Bool) (n : ℕ) → cond t n n ≡ n
same_either true n = refl
same_either false n = refl

always_three : (plan : Plan) → highest_or 3 plan ≡ 3
always_three plan = same_either (leb (length plan.links * plan.timeout) 64) 3

deep_to : (file text : List ℕ) (o : Outcome) → read_file file longest_row ≡ o → TextUpTo 3 file text → DeepText file text
unfolding TextUpTo DeepText
deep_to file text (refused r) e v = rw e (rw e at v)
deep_to file text (gives n) e v =
    rw e (subst (λ (x : ℕ). VerdictLines (plan_of (row_of file)) 0 (1 + x) text) (always_three (plan_of (row_of file))) (rw e at v))

deep_back : (file text : List ℕ) (o : Outcome) → read_file file longest_row ≡ o → DeepText file text → TextUpTo 3 file text
unfolding TextUpTo DeepText
deep_back file text (refused r) e v = rw e (rw e at v)
deep_back file text (gives n) e v =
    rw e (subst (λ (x : ℕ). VerdictLines (plan_of (row_of file)) 0 (1 + x) text) (sym (always_three (plan_of (row_of file)))) (rw e at v))

pub deep_text_lem : GoesTo 3 DeepText
deep_text_lem =
    record {
      few = omega arith;
      to = λ file text. deep_to file text (read_file file longest_row) refl;
      back = λ file text. deep_back file text (read_file file longest_row) refl;
    }

-- how many bytes the lines have
verdict_size : (plan : Plan) (k l : ℕ) (line : List ℕ) → k ≤ 3 → l < 100 → VerdictLine plan k l line → length line ≤ 131
verdict_size plan k l _ h g (resistant x) = resistant-size k l (omega arith) g
verdict_size plan k l _ h g (failing {cuts} x) = failing-size k l cuts (omega arith) g (omega (arith, x.few))

under_size : (plan : Plan) (k most : ℕ) (Rest : List ℕ → Type 0) → k ≤ 3 → ((rest : List ℕ) → Rest rest → length rest ≤ most) →
    (l n : ℕ) (text : List ℕ) → l + n ≤ 100 → UnderK plan k Rest l n text → length text ≤ 131 * n + most
unfolding UnderK
under_size plan k most Rest h rest l zero text few u = omega (arith, rest text u)
under_size plan k most Rest h rest l (suc n) text few u =
    let a = verdict_size plan k l u.0 h (omega arith) u.2 in
    let b = under_size plan k most Rest h rest (l + 1) n u.1 (omega arith) u.4 in
    let e = ap length u.3 ∙ length-append u.0 u.1 in
    omega arith

lines_room : (plan : Plan) (k n : ℕ) (text : List ℕ) → k + n ≤ 4 → length plan.messages ≤ 32 →
    length (slack_lines plan 0 plan.messages) ≤ 17408 →
    VerdictLines plan k n text → length text ≤ 4323 * n + 17408
unfolding VerdictLines
lines_room plan k zero text h few slacks u = omega (arith, ap length u)
lines_room plan k (suc n) text h few slacks u =
    let r =
    under_size plan k (4323 * n + 17408) (VerdictLines plan (k + 1) n) (omega arith)
    (λ rest v. lines_room plan (k + 1) n rest (omega arith) few slacks v)
    0 (length plan.messages + 1) text (omega arith) u in
    omega arith

module _ (large : ℕ) (Kind : List ℕ → List ℕ → Type 0) (goes : GoesTo large Kind) where
  -- a file has one text
  pub text_once : (file a b : List ℕ) → Kind file a → Kind file b → a ≡ b
  text_once file a b u v = by (read_file file longest_row) refl
    where
      by : (o : Outcome) → read_file file longest_row ≡ o → a ≡ b
      by (refused r) e = back-refused large file a r e (goes.back file a u) ∙ sym (back-refused large file b r e (goes.back file b v))
      by (gives n) e =
          lines_once (plan_of (row_of file)) 0 (1 + highest_or large (plan_of (row_of file))) a b
          (back_given large file a n e (goes.back file a u))
          (back_given large file b n e (goes.back file b v))

  -- two outcomes that the promise of printing it allows are equal
  pub one_text : (file entry exit exit' : List ℕ) (r r' : Answer) →
      PrintsOne (Kind file) entry exit r → PrintsOne (Kind file) entry exit' r' → (r ≡ r') × (exit ≡ exit')
  one_text file entry exit exit' r r' p q =
      says-only (prints_as (text_once file p.text q.text p.kind q.kind) p.prints) q.prints

  -- every text has room in `ROOM` bytes
  pub text-room : (file text : List ℕ) → Kind file text → length text ≤ verdict_room
  text-room file text u = by (read_file file longest_row) refl
    where
      by : (o : Outcome) → read_file file longest_row ≡ o → length text ≤ verdict_room
      by (refused r) e = omega (arith, refused-size r, ap length (back-refused large file text r e (goes.back file text u)))
      by (gives n) e =
          let g = read-good file (row_of file) longest_row n e refl in
          let plan = plan_of (row_of file) in
          let high = highest_few large plan goes.few in
          let r =
          lines_room plan 0 (1 + highest_or large plan) text (omega arith) (few-messages (row_of file) g) (slacks_size (row_of file) g)
          (back_given large file text n e (goes.back file text u)) in
          omega arith

  -- so a call with so much room is never refused for room
  pub never_short : (file entry exit : List ℕ) (r : Answer) → verdict_room ≤ length entry → (p : PrintsOne (Kind file) entry exit r) →
      outcome_of r ≡ gives (length p.text)
  never_short file entry exit r room p =
      let fits : length p.text ≤ length entry = omega (arith, text-room file p.text p.kind) in
      p.prints.answer ∙ rw (le-leb (length p.text) (length entry) fits)

  -- the front of a file has the file's text, and so has what a program has read of it
  pub front-prints : (file text : List ℕ) → Kind (take plan_room file) text → Kind file text
  front-prints file text v =
      from_front (λ (f : List ℕ). Kind f text) file
      (λ r front whole u. goes.to file text
      (text-refused large file text r whole (back-refused large (take plan_room file) text r front (goes.back (take plan_room file) text u)))) v

  pub program_prints : (plan file entry exit : List ℕ) (p : ℕ) (r : Answer) → length plan ≡ plan_room → length entry ≡ verdict_room →
      PrintsOne (TextUpTo large (take p plan)) entry exit r → Front plan p file → PrintedOne (Kind file) entry exit r
  program_prints plan file entry exit p r l room one f =
      let is : take p plan ≡ take plan_room file = f ∙ ap (λ (n : ℕ). take n file) l in
      let front : Kind (take p plan) one.text = goes.to (take p plan) one.text one.kind in
      let kind : Kind file one.text = front-prints file one.text (subst (λ (t : List ℕ). Kind t one.text) is front) in
      let fits : length one.text ≤ length entry = omega (arith, text-room file one.text kind) in
      record { text = one.text; kind = kind; printed = printed one.text entry fits one.prints }

-- a program's text is printed by what goes so high
pub printed_as : (large : ℕ) (Kind : List ℕ → List ℕ → Type 0) → GoesTo large Kind → (file entry exit : List ℕ) (r : Answer) →
    PrintedOne (TextUpTo large file) entry exit r → PrintedOne (Kind file) entry exit r
printed_as large Kind goes file entry exit r one =
    record { text = one.text; kind = goes.to file one.text one.kind; printed = one.printed }
