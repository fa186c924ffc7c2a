-- A plan of which nothing is refused breaks none of the six rules of a good plan, for no link and no message.
use Prim.Native.Nat.{ℕ, ◌<◌}
use mathlib.Core.Path.{◌≡◌, refl}
use mathlib.Core.Bool.{Bool, true, false, ◌&&◌}
use mathlib.Core.List.{List, [], ◌∷◌}
use lib.ListN.{length, get_or-eq_default}
use lib.Dec.{ltb}
use borrow.Author.Tests.{ltb-true, ltb-false, not-false}
use Rattle.scope.specs.Outcome.{gives}
use Rattle.scope.specs.Plan.{Plan, Place, link_of, path_of}
use Rattle.scope.specs.Good.{bad_ends, repeats, bad_first_path, bad_slots, bad_table, bad_second_path, slots_rise}
use Rattle.scope.specs.Rules.{rules}
use Rattle.scope.specs.Good.{are_links, joins, different, visited, is_path_from, links_of, head_of}
use Rattle.scope.proofs.Bools.{and_left}
use Rattle.scope.proofs.Some.{none_below}
use Rattle.scope.proofs.GoodAsBefore.{each_rule, good_as_before}

-- nothing below n breaks a rule
abbrev pub Keeps : (ℕ → Bool) → ℕ → Type 0
Keeps broken n = (m : ℕ) → m < n → broken m ≡ false

pub record KeepsRules (plan : Plan) : Type 0 where
  pub ends : Keeps (bad_ends plan) (length plan.links)
  pub once : Keeps (repeats plan) (length plan.links)
  pub first_paths : Keeps (bad_first_path plan) (length plan.messages)
  pub slots : Keeps (bad_slots plan) (length plan.messages)
  pub table : Keeps (bad_table plan) (length plan.messages)
  pub second_paths : Keeps (bad_second_path plan) (length plan.messages)

pub keeps-rules : (plan : Plan) → rules plan ≡ gives 0 → KeepsRules plan
keeps-rules plan h =
    let r = each_rule plan ((good_as_before plan).only h) in
    record {
      ends = none_below _ _ r.0;
      once = none_below _ _ r.1;
      first_paths = none_below _ _ r.2;
      slots = none_below _ _ r.3;
      table = none_below _ _ r.4;
      second_paths = none_below _ _ r.5;
    }

-- a message that is there, or one that is not, whose first path is empty
pub there_or_not : (plan : Plan) (P : List Place → Type 0) (m : ℕ) → (m < length plan.messages → P (path_of plan m)) → P [] →
    P (path_of plan m)
there_or_not plan P m there not_there = by (ltb m (length plan.messages)) refl
  where
    by : (b : Bool) → ltb m (length plan.messages) ≡ b → P (path_of plan m)
    by true h = there (ltb-true m (length plan.messages) h)
    by false h = rw (get_or-eq_default plan.messages [] (ltb-false m (length plan.messages) h)) not_there

pub good_rises : (plan : Plan) → rules plan ≡ gives 0 → (m : ℕ) → slots_rise plan.timeout 0 (path_of plan m) ≡ true
unfolding slots_rise
good_rises plan g m =
    there_or_not plan (λ (path : List Place). slots_rise plan.timeout 0 path ≡ true) m
    (λ h. not-false (slots_rise plan.timeout 0 (path_of plan m)) ((keeps-rules plan g).slots m h)) refl

pub good-links : (plan : Plan) → rules plan ≡ gives 0 → (m : ℕ) → are_links plan (links_of (path_of plan m)) ≡ true
unfolding are_links
good-links plan g m =
    there_or_not plan (λ (path : List Place). are_links plan (links_of path) ≡ true) m
    (λ h.
    let es = links_of (path_of plan m) in
    let v = (link_of plan (head_of es)).from in
    and_left (are_links plan es) (joins plan v es)
    (and_left (are_links plan es && joins plan v es) (different (v ∷ visited plan es))
    (not-false (is_path_from plan v es) ((keeps-rules plan g).first_paths m h)))) refl
