-- The steps of a search: from what is known of the lists whose next pair has a lower code, what is known of more. The question that is
-- asked of a list is any.
use Prim.Native.Nat.{ℕ, zero, suc, ◌+◌, ◌*◌, ◌≤◌, ◌<◌}
use native.Mathlib.Omega.{arith}
use mathlib.Core.Path.{◌≡◌, refl, sym, ◌∙◌, ap, ap₂, subst}
use mathlib.Core.Bool.{Bool, true, false, true≢false}
use mathlib.Core.List.{List, [], ◌∷◌, ◌++◌, append_assoc, append-nil}
use lib.ListN.{length, length-append}
use lib.Dec.{ltb}
use borrow.Author.Tests.{ltb-true, ltb-false}
use Rattle.scope.specs.Limits.{most_links}
use Rattle.scope.specs.Plan.{Plan}
use Rattle.scope.specs.Cables.{is_higher}
use Rattle.scope.specs.Cuts.{cut_slot, cut_link, is_cut_list}
use Rattle.scope.specs.Verdict.{earlier}
use Rattle.scope.proofs.Order.{earlier_self}
use Rattle.order.specs.Search.{code, Chosen, Not, NoneOf, FirstOf, NoneIn, FirstFrom}
use Rattle.order.proofs.Parts.{slot_right, link_right}
use Rattle.order.proofs.Pairs.{Next, next_pair, one_more}
use Rattle.order.proofs.Before.{earlier_under, not_earlier}

-- pairs of the same code are the same
pub same_pair : (a b c d : ℕ) → b < most_links → d < most_links → code a b ≡ code c d → (a ≡ c) × (b ≡ d)
same_pair a b c d hb hd h = (omega arith, omega arith)

-- what holds if one number is below another, and if it is not
pub split : {P : Type 0} (a b : ℕ) → (a < b → P) → (b ≤ a → P) → P
split {P} a b lower other = by (ltb a b) refl
  where
    by : (t : Bool) → ltb a b ≡ t → P
    by true e = lower (ltb-true a b e)
    by false e = other (ltb-false a b e)

-- a list with one pair more, at the place where the next one is to be chosen
pub picked : (plan : Plan) → length plan.links ≤ most_links → (pre : List ℕ) (d lo s e : ℕ) → Chosen plan pre d lo →
    lo ≤ code s e → s < plan.timeout →
    e < length plan.links → ((j : ℕ) → j < d → cut_link pre j ≡ e → ⊥) → is_higher plan e ≡ false →
    Chosen plan (pre ++ s ∷ e ∷ []) (d + 1) (code s (e + 1))
picked plan small pre d lo s e c h hs he new low =
    let y : List ℕ = s ∷ e ∷ [] in
    let z : d + 0 ≡ d = omega arith in
    let sd : cut_slot (pre ++ y) d ≡ s = rw z at (slot_right pre y d c.long 0) in
    let ld : cut_link (pre ++ y) d ≡ e = rw z at (link_right pre y d c.long 0) in
    record {
      long = omega (arith, c.long, length-append pre y);
      good = one_more plan small pre d c.long s e c.good
          (record { slot = hs; link = he; new = new; rises = λ j g. omega (arith, c.next j g); low = low });
      none = λ g. absurd (omega arith);
      next = λ j g.
          let at : j ≡ d = omega arith in
          omega (arith, ap (cut_slot (pre ++ y)) at, ap (cut_link (pre ++ y)) at, sd, ld);
    }

module _ (plan : Plan) (Answers : List ℕ → Type 0) (pre : List ℕ) where
  -- no pair more
  pub nothing_more : (Answers pre → ⊥) → NoneOf plan Answers pre 0
  nothing_more h [] long good it = h (rw (append-nil pre) at it)
  nothing_more h (a ∷ x) long good it = absurd (omega arith)

  pub itself : is_cut_list plan pre ≡ true → Answers pre → FirstOf plan Answers pre 0 pre
  itself good it = record { rest = []; is = sym (append-nil pre); long = refl; good = good; answers = it; first = first }
    where
      first : (x : List ℕ) → length x ≡ 2 * 0 → earlier (pre ++ x) pre ≡ true → Not plan Answers (pre ++ x)
      first [] long e g it = absurd (true≢false (sym (rw (append-nil pre) at e) ∙ earlier_self pre))
      first (a ∷ x) long e g it = absurd (omega arith)

module _ (plan : Plan) (Answers : List ℕ → Type 0) (small : length plan.links ≤ most_links) (pre : List ℕ) (d start : ℕ)
    (chosen : Chosen plan pre d start)
    (k : ℕ) where
  pub after : (a b : ℕ) (x : List ℕ) → is_cut_list plan (pre ++ a ∷ b ∷ x) ≡ true → Next plan pre d a b
  after = next_pair plan small pre d chosen.long

  -- no list goes on with a pair before the place where the next one is to be chosen
  pub none_before : NoneIn plan Answers pre k 0 start
  none_before a b x long low high good it = by d refl
    where
      by : (n : ℕ) → d ≡ n → ⊥
      by zero e = omega (arith, chosen.none e)
      by (suc j) e = omega (arith, chosen.next j (omega arith), (after a b x good).rises j (omega arith))

  -- links passed over in a slot, none of which leads to a list that answers
  pub passed : (lo s e f : ℕ) → f ≤ most_links → NoneIn plan Answers pre k lo (code s e) →
      ((b : ℕ) → e ≤ b → b < f → (x : List ℕ) → length x ≡ 2 * k → Not plan Answers (pre ++ s ∷ b ∷ x)) →
      NoneIn plan Answers pre k lo (code s f)
  passed lo s e f h before here a b x long low high good =
      let n = after a b x good in
      split (code a b) (code s e) (λ less. before a b x long low less good)
      (λ more.
      let same : a ≡ s = omega (arith, n.link) in
      subst (λ (i : ℕ). Not plan Answers (pre ++ i ∷ b ∷ x)) (sym same) (here b (omega (arith, n.link)) (omega (arith, n.link)) x long) good)

  -- a link that is named already, and one that is no name
  pub cut_already : (s b j : ℕ) → j < d → cut_link pre j ≡ b → (x : List ℕ) → Not plan Answers (pre ++ s ∷ b ∷ x)
  cut_already s b j h same x good it = (after s b x good).new j h same

  pub no_name : (s b : ℕ) → is_higher plan b ≡ true → (x : List ℕ) → Not plan Answers (pre ++ s ∷ b ∷ x)
  no_name s b high x good it = true≢false (sym high ∙ (after s b x good).low)

  -- the lists that go on with one pair
  pub no_list_here : (s e : ℕ) → NoneOf plan Answers (pre ++ s ∷ e ∷ []) k → (x : List ℕ) → length x ≡ 2 * k →
      Not plan Answers (pre ++ s ∷ e ∷ x)
  no_list_here s e all x long =
      let same : (pre ++ s ∷ e ∷ []) ++ x ≡ pre ++ s ∷ e ∷ x = append_assoc pre (s ∷ e ∷ []) x in
      subst (Not plan Answers) same (all x long)

  -- so one link more of a slot is passed over
  pub passed_one : (lo s e : ℕ) → e < most_links → NoneIn plan Answers pre k lo (code s e) → NoneOf plan Answers (pre ++ s ∷ e ∷ []) k →
      NoneIn plan Answers pre k lo (code s (e + 1))
  passed_one lo s e h before all =
      passed lo s e (e + 1) (omega arith) before
      (λ b low high.
      let at : e ≡ b = omega arith in
      subst (λ (j : ℕ). (x : List ℕ) → length x ≡ 2 * k → Not plan Answers (pre ++ s ∷ j ∷ x)) at (no_list_here s e all))

  pub first-here : (lo s e : ℕ) (r : List ℕ) → e < most_links → lo ≤ code s e → NoneIn plan Answers pre k lo (code s e) →
      FirstOf plan Answers (pre ++ s ∷ e ∷ []) k r → FirstFrom plan Answers pre k lo r
  first-here lo s e r he h before f =
      let same : (x : List ℕ) → (pre ++ s ∷ e ∷ []) ++ x ≡ pre ++ s ∷ e ∷ x = λ x. append_assoc pre (s ∷ e ∷ []) x in
      record {
        slot = s;
        link = e;
        rest = f.rest;
        is = f.is ∙ same f.rest;
        long = f.long;
        good = f.good;
        answers = f.answers;
        first = λ a b x long low early good.
            let n = after a b x good in
            split (code a b) (code s e) (λ less. before a b x long low less good)
            (λ more. split (code s e) (code a b)
            (λ less.
            let late : earlier (pre ++ a ∷ b ∷ x) r ≡ false =
            ap (earlier (pre ++ a ∷ b ∷ x)) (f.is ∙ same f.rest) ∙ earlier_under pre (a ∷ b ∷ x) (s ∷ e ∷ f.rest) ∙
            not_earlier a b s e x f.rest (omega (arith, n.link)) he less in
            absurd (true≢false (sym early ∙ late)))
            (λ no_less.
            let two = same_pair a b s e (omega (arith, n.link)) he (omega arith) in
            let at : pre ++ a ∷ b ∷ x ≡ (pre ++ s ∷ e ∷ []) ++ x = ap₂ (λ (i j : ℕ). pre ++ i ∷ j ∷ x) two.0 two.1 ∙ sym (same x) in
            subst (Not plan Answers) (sym at) (f.first x long (rw at at early)) good));
      }

  -- the end of a slot
  pub slot_over : (lo s : ℕ) → NoneIn plan Answers pre k lo (code s (length plan.links)) → NoneIn plan Answers pre k lo (code (s + 1) 0)
  slot_over lo s before a b x long low high good = before a b x long low (omega (arith, (after a b x good).link)) good

  -- the next slot
  pub joined : (lo mid hi : ℕ) → NoneIn plan Answers pre k lo mid → NoneIn plan Answers pre k mid hi → NoneIn plan Answers pre k lo hi
  joined lo mid hi one two a b x long low high =
      split (code a b) mid (λ less. one a b x long low less) (λ more. two a b x long more high)

  pub first_in_slot : (lo mid : ℕ) (r : List ℕ) → NoneIn plan Answers pre k lo mid → FirstFrom plan Answers pre k mid r →
      FirstFrom plan Answers pre k lo r
  first_in_slot lo mid r before f =
      record {
        slot = f.slot;
        link = f.link;
        rest = f.rest;
        is = f.is;
        long = f.long;
        good = f.good;
        answers = f.answers;
        first = λ a b x long low early.
            split (code a b) mid (λ less. before a b x long low less) (λ more. f.first a b x long more early);
      }

  -- no list goes on from a place: each way to say so ends the search of this level
  pub no_more : (s e : ℕ) → NoneIn plan Answers pre k 0 (code s e) →
      ((a b : ℕ) (x : List ℕ) → length x ≡ 2 * k → code s e ≤ code a b → Not plan Answers (pre ++ a ∷ b ∷ x)) → NoneOf plan Answers pre (1 + k)
  no_more s e before rest [] long = absurd (omega arith)
  no_more s e before rest (a ∷ []) long = absurd (omega arith)
  no_more s e before rest (a ∷ b ∷ x) long =
      split (code a b) (code s e) (λ less. before a b x (omega arith) (omega arith) less) (λ more. rest a b x (omega arith) more)

  -- the end
  pub all_over : (s e : ℕ) → plan.timeout ≤ s → NoneIn plan Answers pre k 0 (code s e) → NoneOf plan Answers pre (1 + k)
  all_over s e h before =
      no_more s e before (λ a b x long low good it. let n = after a b x good in omega (arith, n.slot, n.link))

  pub first_of_all : (r : List ℕ) → FirstFrom plan Answers pre k 0 r → FirstOf plan Answers pre (1 + k) r
  first_of_all r f =
      record {
        rest = f.slot ∷ f.link ∷ f.rest;
        is = f.is;
        long = omega (arith, f.long);
        good = f.good;
        answers = f.answers;
        first = by;
      }
    where
      by : (x : List ℕ) → length x ≡ 2 * (1 + k) → earlier (pre ++ x) r ≡ true → Not plan Answers (pre ++ x)
      by [] long early = absurd (omega arith)
      by (a ∷ []) long early = absurd (omega arith)
      by (a ∷ b ∷ x) long early = f.first a b x (omega arith) (omega arith) early
