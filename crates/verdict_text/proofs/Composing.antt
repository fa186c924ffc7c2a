-- One k after another, and then the slack lines, make the whole text.
use Prim.Native.Nat.{ℕ, zero, suc, ◌+◌, ◌-◌, ◌*◌, ◌≤◌, ◌<◌, ◌^◌}
use mathlib.Core.Path.{◌≡◌, refl, sym, ◌∙◌, ap, subst}
use mathlib.Core.Bool.{Bool, true, false, cond}
use mathlib.Core.List.{List, [], ◌++◌, append_assoc}
use native.Mathlib.Omega.{arith}
use lib.ListN.{length, length-append}
use lib.Dec.{leb}
use borrow.Author.Tests.{le-leb}
use Rattle.std.specs.Prelude.{Ok}
use Rattle.scope.specs.Plan.{Plan}
use Rattle.scope.specs.Questions.{after}
use Rattle.scope.specs.Lines.{UnderK, VerdictLines, slack_lines}
use Rattle.text.specs.Text.{Puts}
use Rattle.text.proofs.Laid.{then, laid_nil, laid-front, length-laid}
use Rattle.verdict_text.specs.Texts.{highest_or}
use Rattle.verdict_text.specs.Layout.{verdict_room, LinesUnder, Lays, LaidUntil, PrintsOne}

-- what follows the lines under k
under_then : (plan : Plan) (k : ℕ) (Rest : List ℕ → Type 0) (more : List ℕ) → Rest more → (l n : ℕ) (text : List ℕ) →
    UnderK plan k (λ (rest : List ℕ). rest ≡ []) l n text → UnderK plan k Rest l n (text ++ more)
unfolding UnderK
under_then plan k Rest more r l zero text u = subst Rest (ap (λ (t : List ℕ). t ++ more) (sym u)) r
under_then plan k Rest more r l (suc n) text u = (
  u.0,
  u.1 ++ more,
  u.2,
  ap (λ (t : List ℕ). t ++ more) u.3 ∙ append_assoc u.0 u.1 more,
  under_then plan k Rest more r (l + 1) n u.1 u.4,
)

module _ (plan : Plan) (n : ℕ) where
  pub laid-first : (before : List ℕ) → LaidUntil plan n 0 before before 0
  laid-first before =
      record {
        text = [];
        kind = λ more lines. subst (λ (x : ℕ). VerdictLines plan 0 x more) (omega arith) lines;
        short = omega arith;
        puts = record { buffer = sym (laid_nil before 0); ends = refl };
      }

  pub laid_more : {k i j : ℕ} {before now after : List ℕ} → k < n → LaidUntil plan n k before now i →
      Lays (LinesUnder plan k) 4323 now after i j →
      LaidUntil plan n (k + 1) before after j
  unfolding VerdictLines
  laid_more {k} {i} {j} {before} {now} {after} h a b =
      let e : n - k ≡ suc (n - (k + 1)) = omega arith in
      let s = a.short in
      let t = b.short in
      let l = length-append a.text b.text in
      record {
        text = a.text ++ b.text;
        kind = λ more lines.
            subst (VerdictLines plan 0 n) (sym (append_assoc a.text b.text more))
            (a.kind (b.text ++ more)
            (subst (λ (x : ℕ). VerdictLines plan k x (b.text ++ more)) (sym e)
            (under_then plan k (VerdictLines plan (k + 1) (n - (k + 1))) more lines 0 (length plan.messages + 1) b.text b.kind)));
        short = omega arith;
        puts = then a.puts b.puts;
      }

  pub laid_done : {k i : ℕ} {before after : List ℕ} → k ≤ n → n ≤ k → LaidUntil plan n k before after i → LaidUntil plan n n before after i
  laid_done {k} {i} {before} {after} few over a =
      let e : k ≡ n = omega arith in
      subst (λ (x : ℕ). LaidUntil plan n x before after i) e a

  -- the index after them can be told
  pub laid-small : {k i : ℕ} {before now : List ℕ} → k ≤ 4 → LaidUntil plan n k before now i → i < 2 ^ 32
  laid-small h a =
      let s = a.short in
      let p = a.puts.ends in
      omega arith

  -- and then the slack lines
  pub laid-all : {i j : ℕ} {before now after : List ℕ} → n ≤ 4 → length (slack_lines plan 0 plan.messages) ≤ 17408 →
      LaidUntil plan n n before now i →
      Puts (slack_lines plan 0 plan.messages) now after i j → Lays (VerdictLines plan 0 n) verdict_room before after 0 j
  unfolding VerdictLines
  laid-all {i} {j} {before} {now} {after} few size a p =
      let e : n - n ≡ zero = omega arith in
      let s = a.short in
      let l = length-append a.text (slack_lines plan 0 plan.messages) in
      record {
        text = a.text ++ slack_lines plan 0 plan.messages;
        kind =
            a.kind (slack_lines plan 0 plan.messages)
            (subst (λ (x : ℕ). VerdictLines plan n x (slack_lines plan 0 plan.messages)) (sym e) refl);
        short = omega arith;
        puts = then a.puts p;
      }

-- as a program does, from the highest k that it read
pub highest_few : (large : ℕ) (plan : Plan) → large ≤ 3 → highest_or large plan ≤ 3
highest_few large plan few = by (leb (length plan.links * plan.timeout) 64)
  where
    by : (t : Bool) → cond t 3 large ≤ 3
    by true = omega arith
    by false = few

module _ (plan : Plan) (large h : ℕ) (few : large ≤ 3) (is : h ≡ highest_or large plan) where
  pub few-high : h ≤ 3
  few-high = omega (arith, highest_few large plan few)

  pub laid-whole : {i j : ℕ} {before now after : List ℕ} → length (slack_lines plan 0 plan.messages) ≤ 17408 →
      LaidUntil plan (1 + h) (1 + h) before now i →
      Puts (slack_lines plan 0 plan.messages) now after i j → Lays (VerdictLines plan 0 (1 + highest_or large plan))
      verdict_room before after 0 j
  laid-whole {i} {j} {before} {now} {after} size a p =
      let high = few-high in
      subst (λ (x : ℕ). Lays (VerdictLines plan 0 (1 + x)) verdict_room before after 0 j) is (laid-all plan (1 + h) (omega arith) size a p)

pub lays-same : {Kind : List ℕ → Type 0} {most i j : ℕ} {before after : List ℕ} → Lays Kind most before after i j → length after ≡ length before
lays-same {Kind} {most} {i} {j} {before} {after} a = ap length a.puts.buffer ∙ length-laid before i a.text

-- a text that was laid at the front of a buffer with room for it
pub lays-prints : {Kind : List ℕ → Type 0} {most : ℕ} {entry exit : List ℕ} {n : ℕ} → most ≤ length entry → Lays Kind most entry exit 0 n →
    PrintsOne Kind entry exit (Ok n)
unfolding after
lays-prints {Kind} {most} {entry} {exit} {n} room a =
    let s = a.short in
    let e = a.puts.ends in
    let count : n ≡ length a.text = omega arith in
    let fits : length a.text ≤ length entry = omega arith in
    record {
      text = a.text;
      kind = a.kind;
      prints = record {
        answer = rw (count, le-leb (length a.text) (length entry) fits);
        buffer = a.puts.buffer ∙ laid-front entry a.text fits;
      };
    }
