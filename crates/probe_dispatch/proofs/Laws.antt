-- Laws of a line and its answer: the leading word, the numbers and bytes that were read, and what is said of them.
use Prim.Native.Nat.{ℕ, ◌+◌, ◌≤◌, ◌<◌}
use mathlib.Core.Path.{◌≡◌, refl, sym, ◌∙◌, ap, ap₂, subst}
use mathlib.Core.Bool.{Bool, true, false, cond, ◌&&◌}
use mathlib.Core.List.{List, []}
use Rattle.std.proofs.Common.{Result, Ok, Err}
use native.Mathlib.Omega.{arith}
use native.Mathlib.Numerals.{add-one}
use lib.ListN.{length, get_or, take, drop, drop_of_length-le}
use lib.Seq.{take_at, drop-cons}
use borrow.Author.Tests.{lt-ltb}
use Rattle.text.specs.Text.{Puts}
use Rattle.text.specs.Reading.{size_at, stands}
use Rattle.text.specs.declared.Number.{Number}
use Rattle.text.proofs.Laid.{laid-front}
use Rattle.probe_words.specs.Words.{is_number, number_next, number_value, numbers_from, are_all, last_word, is_bytes, bytes_in, Finds, Numbers, Bytes}
use Rattle.probe_lines.specs.Answers.{unknown_line}
use Rattle.probe_questions.specs.Asked.{read_answer, Lays}
use Rattle.probe_dispatch.specs.declared.Question.{Question}
use Rattle.probe_dispatch.specs.declared.Question.TheVariants.{Unknown}
use Rattle.probe_dispatch.specs.Line.{word_of, first_of, question_of, numbers_in, read_asked, Says, Answers}

-- the first of the questions from an index on has its word there, or one of those behind it
module _ (line : List ℕ) (qs : List Question) (i : ℕ) (q : Question) where
  pub word_is : i < length qs → stands line 0 (word_of (get_or qs i q)) ≡ true → first_of line (drop i qs) ≡ get_or qs i q
  word_is h e = rw (drop-cons qs i q h, e)

  pub word_not : i < length qs → stands line 0 (word_of (get_or qs i q)) ≡ false → first_of line (drop i qs) ≡ first_of line (drop (i + 1) qs)
  word_not h e = rw (drop-cons qs i q h, e, add-one)

pub word_none : (line : List ℕ) (qs : List Question) (i : ℕ) → length qs ≤ i → Unknown ≡ first_of line (drop i qs)
word_none line qs i h = rw (drop_of_length-le qs h)

-- the front of a buffer that a text was laid to
pub front-is : (text entry exit : List ℕ) (n : ℕ) → Puts text entry exit 0 n → n ≤ length entry → take n exit ≡ text
front-is text entry exit n p h =
    let long : length text ≡ n = let e = p.ends in omega arith in
    ap (take n) (p.buffer ∙ laid-front entry text (omega arith)) ∙ take_at text (drop (length text) entry) n long

module _ (line : List ℕ) (from : ℕ) (entry exit : List ℕ) (r : ℕ) (n : Numbers line from entry exit r) where
  abbrev all : List ℕ
  all = numbers_from (length entry) line from

  abbrev good : Bool
  good = are_all (length entry) line from

  by_good : (t : Bool) → good ≡ t → take r exit ≡ cond t all []
  by_good true e =
      let k : cond good (length all) 0 ≡ length all = rw e in
      let ends : r ≡ 0 + length all = let c = n.count ∙ k in omega arith in
      front-is all entry exit r (record { buffer = n.buffer.buffer; ends = ends }) n.few
  by_good false e =
      let k : cond good (length all) 0 ≡ 0 = rw e in
      ap (λ (j : ℕ). take j exit) (n.count ∙ k)

  pub numbers-are : take r exit ≡ numbers_in (length entry) line from
  numbers-are = by_good good refl

-- a file to read
pub read-unread : (lent : ℕ) (line : List ℕ) (file : ℕ) → number_next line 4 ≡ 4 → unknown_line ≡ read_asked lent file line
read-unread lent line file e = sym (rw (none (is_number line 4) refl))
  where
    none : (t : Bool) → is_number line 4 ≡ t → is_number line 4 ≡ false
    none true t = let n : number_next line 4 ≡ 4 + 1 + size_at 65535 line (4 + 1) = rw t in absurd (omega arith)
    none false t = t

module _ (lent : ℕ) (line : List ℕ) (room : Number) (f : Finds (number_value line) (number_next line) 65535 (length line) 4 room) where
  some_number : 4 < number_next line 4 → (t : Bool) → is_number line 4 ≡ t → is_number line 4 ≡ true
  some_number h true t = t
  some_number h false t = let n : number_next line 4 ≡ 4 = rw t in absurd (omega arith)

  module _ (h : 4 < number_next line 4) (word : List ℕ) (is : word ≡ last_word line room.next) (entry exit : List ℕ) (r : Result ℕ ℕ)
      (b : Bytes word entry exit r) where
    some : is_number line 4 ≡ true
    some = some_number h (is_number line 4) refl

    word_is_last : word ≡ last_word line (number_next line 4)
    word_is_last = is ∙ ap (last_word line) f.behind

    abbrev answer : List ℕ
    answer = read_answer lent (bytes_in (length entry) (last_word line (number_next line 4))) (number_value line 4)

    asked : (t : Bool) → is_bytes (length entry) word ≡ t → read_asked lent (length entry) line ≡ cond t answer unknown_line
    asked t e =
        let is : is_bytes (length entry) (last_word line (number_next line 4)) ≡ t =
        ap (is_bytes (length entry)) (sym word_is_last) ∙ e
        in
        ap₂ (λ (x y : Bool). cond (x && y) answer unknown_line) some is

    no_bytes : (n : ℕ) → r ≡ Err n → (t : Bool) → is_bytes (length entry) word ≡ t → is_bytes (length entry) word ≡ false
    no_bytes n g true e = let c : r ≡ Ok (length (bytes_in (length entry) word)) = rw e at b.count in absurd (cc)
    no_bytes n g false e = e

    some_bytes : (n : ℕ) → r ≡ Ok n → (t : Bool) → is_bytes (length entry) word ≡ t →
        (is_bytes (length entry) word ≡ true) × (n ≡ length (bytes_in (length entry) word))
    some_bytes n g true e = let c : r ≡ Ok (length (bytes_in (length entry) word)) = rw e at b.count in (e, (cc))
    some_bytes n g false e = let c : r ≡ Err (length (bytes_in (length entry) word)) = rw e at b.count in absurd (cc)

    pub read-bad : (n : ℕ) → r ≡ Err n → unknown_line ≡ read_asked lent (length entry) line
    read-bad n g = sym (asked false (no_bytes n g (is_bytes (length entry) word) refl))

    module _ (n : ℕ) (g : r ≡ Ok n) where
      bytes-are : (is_bytes (length entry) word ≡ true) × (n ≡ length (bytes_in (length entry) word))
      bytes-are = some_bytes n g (is_bytes (length entry) word) refl

      pub read-good : read_answer lent (take n exit) room.value ≡ read_asked lent (length entry) line
      read-good =
          let next : number_next line 4 ≡ 4 + 1 + size_at 65535 line (4 + 1) = rw some in
          let value : room.value ≡ number_value line 4 = f.is ∙ rw (lt-ltb 4 (number_next line 4) (omega arith)) in
          let front = front-is (bytes_in (length entry) word) entry exit (length (bytes_in (length entry) word)) b.buffer b.few in
          let file : take n exit ≡ bytes_in (length entry) (last_word line (number_next line 4)) =
          ap (λ (k : ℕ). take k exit) bytes-are.1 ∙ front ∙ ap (bytes_in (length entry)) word_is_last
          in
          ap₂ (read_answer lent) file value ∙ sym (asked true bytes-are.0)

-- what is said to a question, and to a line
pub says_is : (q is : Question) (line given : List ℕ) (lent file : ℕ) {text before after : List ℕ} {from next : ℕ} → q ≡ is →
    Says is line given lent file text → Puts text before after from next → Lays (Says q line given lent file) before after from next
says_is q is line given lent file {text} e s p =
    record { line = text; says = subst (λ (x : Question). Says x line given lent file text) (sym e) s; puts = p }

pub answered : (q : Question) (line given : List ℕ) (size lent file : ℕ) {before after : List ℕ} {from next : ℕ} → q ≡ question_of line →
    given ≡ numbers_in size line (length (word_of q)) → Lays (Says q line given lent file) before after from next →
    Lays (Answers line size lent file) before after from next
answered q line given size lent file {before} {after} {from} {next} e g l =
    subst (λ (x : Question). Lays (Says x line (numbers_in size line (length (word_of x))) lent file) before after from next) e
    (subst (λ (s : List ℕ). Lays (Says q line s lent file) before after from next) g l)
