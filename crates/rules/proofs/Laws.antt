-- Laws of the loop that notes where messages stand, of rules asked one after another, and of the order of the rules of paths.
use Prim.Native.Nat.{ℕ, zero, suc, ◌+◌, ◌*◌, ◌^◌, ◌≤◌, ◌<◌}
use mathlib.Core.Path.{◌≡◌, refl, sym, ◌∙◌, ap, subst}
use mathlib.Core.Bool.{Bool, true, false, cond, ◌&&◌}
use mathlib.Core.List.{List}
use native.Mathlib.Omega.{arith}
use borrow.Author.Tests.{lt-ltb, le-ltb, ltb-true, ltb-false, eqb-true, eqb-false}
use lib.ListN.{length, get_or, set, length-set, replicate, length-replicate, get_or-replicate}
use lib.Seq.{get_or-set_same, get_or-set_other}
use lib.Dec.{ltb, eqb}
use Rattle.std.specs.declared.option.Option.{Option}
use Rattle.std.specs.declared.option.Option.TheVariants.{Some, None}
use Rattle.std.specs.declared.result.Result.{Result}
use Rattle.std.specs.declared.result.Result.TheVariants.{Ok, Err}
use Rattle.std.specs.Prelude.{⊤}
use Rattle.std.specs.Option.{MatchOption, IsSomeAnd}
use Rattle.scope.specs.declared.Refusal.{Refusal}
use Rattle.scope.specs.Lowest.{seek, lowest, some}
use Rattle.scope.specs.Outcome.{Outcome, gives, refused, refuse_on, refusal_at, refusal_on, unless_some}
use Rattle.scope.specs.Plan.{Plan, link_count, message_at, after_message, first_message, message_count, plan_of, path_of}
use Rattle.scope.specs.Good.{bad_ends, repeats, bad_slots, bad_table}
use Rattle.scope.specs.Rules.{rules}
use Rattle.scope.specs.PathRules.{PathRule, breaks_it, place_broken, step_broken, unless_on}
use Rattle.scope.specs.SecondPath.{message_index}
use Rattle.scope.specs.Cycle.{table_of}
use Rattle.scope.proofs.Some.{none}
use Rattle.rows.specs.View.{Is}
use Rattle.rows.specs.Lies.{MessageLies, PlanLies}
use Rattle.rows.proofs.Index.{messages_suc}
use Rattle.rows.proofs.Parts.{path_at, link-count, message-count}
use Rattle.paths.specs.declared.Fault.{Fault}
use Rattle.paths.specs.declared.Rule.{Rule}
use Rattle.paths.specs.declared.Rule.TheVariants.{NoLink, Apart, Astray, Again, Replaced}
use Rattle.paths.specs.Path.{order, order_of, message_of, at_of, step_of}
use Rattle.paths.proofs.Earliest.{earliest-none, earliest-next, either}
use Rattle.table.specs.Table.{Table}
use Rattle.faults.specs.Broken.{broken_slots, held_below}
use Rattle.rules.proofs.Below.{taken_is}
use Rattle.rules.specs.declared.Paths.{Paths}
use Rattle.rules.specs.declared.Paths.TheVariants.{First, Second}
use Rattle.rules.specs.Rules.{Starts, number_of, round_rule, MessageFault, PlanFault, path_rules, early_rules, late_rules, told, Says}

-- a loop over messages that notes where they stand, at message m, which stands at index j
pub record Noting (row : List ℕ) (m j : ℕ) (starts : List ℕ) : Type 0 where
  pub starts_are : Starts row m starts
  pub index : j ≡ message_index row m
  pub near : j ≤ 131077 + m * 4295229441

module _ (row : List ℕ) where
  pub noting-first : (n : ℕ) → n ≡ 32 → (j : ℕ) → Is (message_index row 0) (131077 + 0 * 4295229441) j → Noting row 0 j (replicate n 0)
  noting-first n h j i =
      record {
        starts_are =
            record {
              long = length-replicate n 0 ∙ h;
              are = λ m l. zero_at m l ∙ sym (none m);
              small = λ m l. omega (arith, zero_at m l);
            };
        index = i.is;
        near = i.small;
      }
    where
      zero_at : (m : ℕ) → m < 32 → ◌≡◌ {A = ℕ} (get_or (replicate n 0) m 0) 0
      zero_at m l = get_or-replicate n m 0 0 (omega arith)

      none : (m : ℕ) → cond (ltb m 0) (message_index row m) 0 ≡ 0
      none m = let t : ltb m 0 ≡ false = le-ltb m 0 (omega arith) in rw t

  pub noting-next : (m j r : ℕ) (starts : List ℕ) → Noting row m j starts → m < 32 → Is (after_message row j) (j + 4295229441) r → Noting
      row (m + 1) r (set starts m j)
  noting-next m j r starts g h i =
      record {
        starts_are =
            record {
              long = length-set starts m j ∙ s.long;
              are = λ k l. is k l (eqb k m) refl;
              small = λ k l. little k l (eqb k m) refl;
            };
        index = i.is ∙ ap (after_message row) g.index ∙ sym (messages_suc row (first_message row) m);
        near = omega (arith, i.small, g.near);
      }
    where
      s : Starts row m starts
      s = g.starts_are

      here : (k : ℕ) → k ≡ m → get_or (set starts m j) k 0 ≡ j
      here k e = ap (λ x. get_or (set starts m j) x 0) e ∙ get_or-set_same starts m j 0 (omega (arith, s.long))

      still : (k : ℕ) (a b : Bool) → (k ≡ m → ⊥) → ltb k m ≡ a → ltb k (m + 1) ≡ b → a ≡ b
      still k true true n e f = refl
      still k true false n e f = absurd (omega (arith, ltb-true k m e, ltb-false k (m + 1) f))
      still k false true n e f =
          let l : m ≤ k = ltb-false k m e in
          let u : k < m + 1 = ltb-true k (m + 1) f in
          absurd (n (omega arith))
      still k false false n e f = refl

      is : (k : ℕ) → k < 32 → (t : Bool) → eqb k m ≡ t → get_or (set starts m j) k 0 ≡ cond (ltb k (m + 1)) (message_index row k) 0
      is k l true e =
          let q : k ≡ m = eqb-true k m e in
          let b : ltb k (m + 1) ≡ true = lt-ltb k (m + 1) (omega arith) in
          here k q ∙ g.index ∙ ap (message_index row) (sym q) ∙ rw b
      is k l false e =
          let q : k ≡ m → ⊥ = eqb-false k m e in
          get_or-set_other starts m k j 0 q ∙ s.are k l ∙ ap (λ t. cond t (message_index row k) 0)
          (still k (ltb k m) (ltb k (m + 1)) q refl refl)

      little : (k : ℕ) → k < 32 → (t : Bool) → eqb k m ≡ t → get_or (set starts m j) k 0 ≤ 131077 + k * 4295229441
      little k l true e =
          let q : k ≡ m = eqb-true k m e in
          omega (arith, here k q, g.near)
      little k l false e = omega (arith, get_or-set_other starts m k j 0 (eqb-false k m e), s.small k l)

  pub noting-done : (m j : ℕ) (starts : List ℕ) → Noting row m j starts → m ≡ message_count row → Starts row (message_count row) starts
  noting-done m j starts g e = rw (← e) g.starts_are

-- where a message stands: at index i, and what is said of the message there is said of message m
pub record Here (row : List ℕ) (m i : ℕ) : Type 0 where
  pub is : path_of (plan_of row) m ≡ message_at row i
  pub lies : MessageLies row i
  pub near : i < 2 ^ 60

module _ (row : List ℕ) (lies : PlanLies row) where
  pub messages-few : length (plan_of row).messages ≤ 32
  messages-few = omega (arith, message-count row, lies.messages)

module _ (row starts : List ℕ) (lies : PlanLies row) (noted : Starts row (message_count row) starts) where
  pub here : (m : ℕ) → m < length (plan_of row).messages → Here row m (get_or starts m 0)
  here m h =
      let l : m < message_count row = omega (arith, message-count row, h) in
      let few : m < 32 = omega (arith, messages-few row lies) in
      let t : ltb m (message_count row) ≡ true = lt-ltb m (message_count row) l in
      let e : get_or starts m 0 ≡ message_index row m = noted.are m few ∙ rw t in
      record {
        is = path_at row m l ∙ ap (message_at row) (sym e);
        lies = rw e (lies.message m l);
        near = omega (arith, noted.small m few);
      }

  -- and what is asked of the message there is asked of message m, of so many
  module _ (messages : ℕ) (fm : messages ≡ message_count row) (m : ℕ) (h : m < messages) (b : Bool) where
    inside : m < length (plan_of row).messages
    inside = omega (arith, message-count row)

    pub by_slots : b ≡ broken_slots (plan_of row) (message_at row (get_or starts m 0)) → b ≡ bad_slots (plan_of row) m
    by_slots e = e ∙ sym (ap (broken_slots (plan_of row)) (here m inside).is)

    pub by_table : (table : List ℕ) → Table (table_of (plan_of row)) table →
        b ≡ held_below table m (message_at row (get_or starts m 0)) → b ≡ bad_table (plan_of row) m
    by_table table t e =
        let at = here m inside in
        e ∙ taken_is (plan_of row) m table t inside row (get_or starts m 0) at.lies at.is

-- a rule that is asked of links or messages: the lowest that breaks it is refused, or nothing is
module _ (test : ℕ → Bool) (n number : ℕ) where
  pub refuses_lowest : (i : ℕ) → i < n → i ≡ lowest test n → Says (unless_some number test n) (Err (refusal_at number i))
  refuses_lowest i h e =
      let f : lowest test n ≡ i = sym e in
      let t : ltb i n ≡ true = lt-ltb i n h in
      record { says = λ after. rw (f, t) }

  pub refuses_none : some test n ≡ false → Says (unless_some number test n) (Ok tt)
  refuses_none h = record { says = λ after. rw h }

  counted : (m : ℕ) (r : Result ⊤ Refusal) → Says (unless_some number test m) r → m ≡ n → Says (unless_some number test n) r
  counted m r h e = subst (λ k. Says (unless_some number test k) r) e h

-- one rule after another: the first refuses, or it does not and the others say what is refused
stops : (rule rest : Outcome → Outcome) (e : Refusal) → Says rule (Err e) → Says (λ after. rule (rest after)) (Err e)
stops rule rest e h = record { says = λ after. h.says (rest after) }

goes_on : (rule rest : Outcome → Outcome) (x : ⊤) (r : Result ⊤ Refusal) → Says rule (Ok x) → Says rest r →
    Says (λ after. rule (rest after)) r
goes_on rule rest x r h others = record { says = λ after. h.says (rest after) ∙ others.says after }

-- the rules that are asked first, of so many links and messages
module _ (row : List ℕ) (links : ℕ) (fl : links ≡ link_count row) where
  abbrev of_row : Plan
  of_row = plan_of row

  abbrev ends : Outcome → Outcome
  ends = unless_some 5 (bad_ends of_row) (length of_row.links)

  abbrev repeated : Outcome → Outcome
  repeated = unless_some 6 (repeats of_row) (length of_row.links)

  abbrev slots : Outcome → Outcome
  slots = unless_some 8 (bad_slots of_row) (length of_row.messages)

  all_links : links ≡ length of_row.links
  all_links = fl ∙ sym (link-count row)

  pub ends_refused : (e : Refusal) → Says (unless_some 5 (bad_ends of_row) links) (Err e) → Says (early_rules of_row) (Err e)
  ends_refused e h =
      stops ends (λ after. repeated (path_rules of_row First (slots after))) e
      (counted (bad_ends of_row) (length of_row.links) 5 links (Err e) h all_links)

  module _ (x : ⊤) (kept : Says (unless_some 5 (bad_ends of_row) links) (Ok x)) where
    after_ends : (r : Result ⊤ Refusal) → Says (λ after. repeated (path_rules of_row First (slots after))) r → Says (early_rules of_row) r
    after_ends r =
        goes_on ends (λ after. repeated (path_rules of_row First (slots after))) x r
        (counted (bad_ends of_row) (length of_row.links) 5 links (Ok x) kept all_links)

    pub repeat_refused : (i : ℕ) → (i < link_count row) × (i ≡ lowest (repeats of_row) (link_count row)) →
        Says (early_rules of_row) (Err (refusal_at 6 i))
    repeat_refused i h =
        after_ends (Err (refusal_at 6 i))
        (stops repeated (λ after. path_rules of_row First (slots after)) (refusal_at 6 i)
        (counted (repeats of_row) (length of_row.links) 6 (link_count row) (Err (refusal_at 6 i))
        (refuses_lowest (repeats of_row) (link_count row) 6 i h.0 h.1) (sym (link-count row))))

    module _ (unlike : some (repeats of_row) (link_count row) ≡ false) where
      after_repeats : (r : Result ⊤ Refusal) → Says (λ after. path_rules of_row First (slots after)) r → Says (early_rules of_row) r
      after_repeats r h =
          after_ends r
          (goes_on repeated (λ after. path_rules of_row First (slots after)) tt r
          (counted (repeats of_row) (length of_row.links) 6 (link_count row) (Ok tt)
          (refuses_none (repeats of_row) (link_count row) 6 unlike) (sym (link-count row))) h)

      pub paths_refused : (e : Refusal) → Says (path_rules of_row First) (Err e) → Says (early_rules of_row) (Err e)
      paths_refused e h = after_repeats (Err e) (stops (path_rules of_row First) slots e h)

      pub slots_last : (y : ⊤) → Says (path_rules of_row First) (Ok y) → (messages : ℕ) → messages ≡ message_count row →
          (r : Result ⊤ Refusal) → Says (unless_some 8 (bad_slots of_row) messages) r → Says (early_rules of_row) r
      slots_last y g messages fm r h =
          after_repeats r
          (goes_on (path_rules of_row First) slots y r g
          (counted (bad_slots of_row) (length of_row.messages) 8 messages r h (fm ∙ sym (message-count row))))

-- the rules that are asked with a table
module _ (row : List ℕ) (messages : ℕ) (fm : messages ≡ message_count row) where
  taken : (r : Result ⊤ Refusal) → Says (unless_some 9 (bad_table (plan_of row)) messages) r →
      Says (unless_some 9 (bad_table (plan_of row)) (length (plan_of row).messages)) r
  taken r h = counted (bad_table (plan_of row)) (length (plan_of row).messages) 9 messages r h (fm ∙ sym (message-count row))

  pub table_refused : (e : Refusal) → Says (unless_some 9 (bad_table (plan_of row)) messages) (Err e) → Says (late_rules (plan_of row)) (Err e)
  table_refused e h =
      stops (unless_some 9 (bad_table (plan_of row)) (length (plan_of row).messages)) (path_rules (plan_of row) Second) e (taken (Err e) h)

  pub seconds_last : (x : ⊤) → Says (unless_some 9 (bad_table (plan_of row)) messages) (Ok x) → (r : Result ⊤ Refusal) →
      Says (path_rules (plan_of row) Second) r → Says (late_rules (plan_of row)) r
  seconds_last x h r g =
      goes_on (unless_some 9 (bad_table (plan_of row)) (length (plan_of row).messages)) (path_rules (plan_of row) Second) x r (taken (Ok x) h) g

-- all of them, and nothing after them
module _ (plan : Plan) where
  pub early_refused : (e : Refusal) → Says (early_rules plan) (Err e) → Says (λ after. early_rules plan (late_rules plan after)) (Err e)
  early_refused = stops (early_rules plan) (late_rules plan)

  pub late_last : (x : ⊤) → Says (early_rules plan) (Ok x) → (r : Result ⊤ Refusal) → Says (late_rules plan) r →
      Says (λ after. early_rules plan (late_rules plan after)) r
  late_last x h r g = goes_on (early_rules plan) (late_rules plan) x r h g

  pub nothing_after : (r : Result ⊤ Refusal) → Says (λ after. early_rules plan (late_rules plan after)) r → told r (gives 0) ≡ rules plan
  unfolding rules
  nothing_after r h = sym (h.says (gives 0))

-- a rule of paths that is never broken
never : (plan : Plan) (k : ℕ) (rule : PathRule) (after : Outcome) → ((m : ℕ) → breaks_it plan rule m ≡ false) →
    unless_on plan k rule after ≡ after
never plan k rule after h = let f : some (breaks_it plan rule) (length plan.messages) ≡ false = none _ _ (λ m l. h m) in rw f

-- these paths of a plan, by their earliest rule that is broken
module _ (plan : Plan) (paths : Paths) where
  abbrev M : ℕ
  M = length plan.messages

  refusal : ℕ → Outcome
  refusal x =
      let m = lowest (breaks_it plan (round_rule plan paths x)) M in
      refuse_on (number_of paths x) m (place_broken plan (round_rule plan paths x) m) (step_broken plan (round_rule plan paths x) m)

  -- k rules from rule x on
  in_turn : ℕ → ℕ → Outcome → Outcome
  in_turn zero x after = after
  in_turn (suc k) x after = unless_on plan (number_of paths x) (round_rule plan paths x) (in_turn k (x + 1) after)

  in_order : (k x top : ℕ) → x + k ≡ top → (after : Outcome) → in_turn k x after ≡
      (let y = seek (λ z. some (breaks_it plan (round_rule plan paths z)) M) k x in cond (ltb y top) (refusal y) after)
  unfolding seek refusal in_turn
  in_order zero x top h after = let t : ltb x top ≡ false = le-ltb x top (omega arith) in rw t
  in_order (suc k) x top h after = by (some (breaks_it plan (round_rule plan paths x)) M) (in_order k (x + 1) top (omega arith) after)
    where
      next : ℕ
      next = seek (λ z. some (breaks_it plan (round_rule plan paths z)) M) k (x + 1)

      by : (t : Bool) → in_turn k (x + 1) after ≡ cond (ltb next top) (refusal next) after →
          cond t (refusal x) (in_turn k (x + 1) after) ≡ cond (ltb (cond t x next) top) (refusal (cond t x next)) after
      by true e = let t : ltb x top ≡ true = lt-ltb x top (omega arith) in rw t
      by false e = e

both_false : (b : Bool) → (b && false) ≡ false
both_false true = refl
both_false false = refl

-- they are the rules of the document, in its order
all_in_turn : (plan : Plan) (paths : Paths) (after : Outcome) → path_rules plan paths after ≡ in_turn plan paths 5 0 after
unfolding in_turn
all_in_turn plan First after =
    let rule : ℕ → PathRule = round_rule plan First in
    let left = unless_on plan 15 (rule 3) (unless_on plan 15 (rule 4) after) in
    sym (ap (λ o. unless_on plan 7 (rule 0) (unless_on plan 14 (rule 1) o))
    (never plan 15 (rule 2) left (λ m. none _ _ (λ p l. none _ _ (λ s k. both_false (eqb s p)))) ∙
    ap (unless_on plan 15 (rule 3)) (never plan 15 (rule 4) after (λ m. none _ _ (λ p l. none _ _ (λ s k. both_false (eqb s p)))))))
all_in_turn plan Second after = refl

module _ (plan : Plan) (paths : Paths) (r : Option (Fault Rule)) (g : PlanFault plan paths (length plan.messages) r) where
  whole : (after : Outcome) → path_rules plan paths after ≡ cond (ltb (order r) 5) (refusal plan paths (order r)) after
  whole after =
      all_in_turn plan paths after ∙ in_order plan paths 5 0 5 refl after ∙
      ap (λ x. cond (ltb x 5) (refusal plan paths x) after) (sym g.found.earliest)

  pub paths_broken : order r < 5 → (number : ℕ) → number ≡ number_of paths (order r) → (e : Refusal) →
      e ≡ refusal_on number (message_of r) (at_of r) (step_of r) → Says (path_rules plan paths) (Err e)
  unfolding refusal
  paths_broken h number fn e is =
      let x = order r in
      let rule = round_rule plan paths x in
      let t : ltb x 5 ≡ true = lt-ltb x 5 h in
      let named : refusal plan paths x ≡ refused e =
      ap (λ m. refuse_on (number_of paths x) m (place_broken plan rule m) (step_broken plan rule m)) (sym (g.found.first h)) ∙
      ap (λ p. refuse_on (number_of paths x) (message_of r) p (step_broken plan rule (message_of r))) (sym (g.at h)) ∙
      ap (refuse_on (number_of paths x) (message_of r) (at_of r)) (sym (g.step h)) ∙
      ap (λ k. refuse_on k (message_of r) (at_of r) (step_of r)) (sym fn) ∙ ap refused (sym is) in
      record { says = λ after. whole after ∙ ap (λ b. cond b (refusal plan paths x) after) t ∙ named }

  pub paths_kept : order r ≡ 5 → Says (path_rules plan paths) (Ok tt)
  paths_kept h = record { says = λ after. whole after ∙ rw h }

pub order-few : (x : Rule) → order_of x < 5
order-few NoLink = omega arith
order-few Apart = omega arith
order-few Astray = omega arith
order-few Again = omega arith
order-few Replaced = omega arith

-- a fault told with its message
pub record ToldOf (m : ℕ) (fault told : Option (Fault Rule)) : Type 0 where
  pub rule : order told ≡ order fault
  pub message : order told < 5 → message_of told ≡ m
  pub at : at_of told ≡ at_of fault
  pub step : step_of told ≡ step_of fault

pub told_of : (m : ℕ) (fault told : Option (Fault Rule)) (post : Fault Rule → Fault Rule → Type 0) →
    ((x r : Fault Rule) → post x r → r ≡ record { rule = x.rule; message = m; at = x.at; step = x.step }) →
    MatchOption fault (told ≡ None) (λ x. IsSomeAnd told (post x)) → ToldOf m fault told
told_of m None told post is h = rw h (record { rule = refl; message = λ l. absurd (omega arith); at = refl; step = refl })
told_of m (Some x) None post is h = elim h [ ]
told_of m (Some x) (Some r) post is h =
    let e = is x r h in
    record {
      rule = ap (λ f. order_of f.rule) e;
      message = λ l. ap (λ f. f.message) e;
      at = ap (λ f. f.at) e;
      step = ap (λ f. f.step) e;
    }

-- a loop over the messages, at message m
module _ (plan : Plan) (paths : Paths) where
  pub messages-first : PlanFault plan paths 0 None
  messages-first =
      record { found = earliest-none _ 5 0; at = λ h. absurd (omega arith); step = λ h. absurd (omega arith) }

  pub messages-next : (m : ℕ) (kept here next fault : Option (Fault Rule)) → PlanFault plan paths m kept →
      MessageFault plan paths (path_of plan m) fault → ToldOf m fault here →
      next ≡ cond (ltb (order here) (order kept)) here kept → PlanFault plan paths (m + 1) next
  messages-next m kept here next fault g f t e =
      record {
        found = earliest-next _ 5 m order message_of kept here next g.found t.message (t.rule ∙ f.found.earliest) e;
        at = one (λ r. order r < 5 → at_of r ≡ place_broken plan (round_rule plan paths (order r)) (message_of r)) g.at place;
        step = one (λ r. order r < 5 → step_of r ≡ step_broken plan (round_rule plan paths (order r)) (message_of r)) g.step way;
      }
    where
      one : (P : Option (Fault Rule) → Type 0) → P kept → P here → P next
      one = either _ 5 m order message_of kept here next g.found t.message (t.rule ∙ f.found.earliest) e

      place : order here < 5 → at_of here ≡ place_broken plan (round_rule plan paths (order here)) (message_of here)
      place h = let l : order fault < 5 = rw (← t.rule) h in rw (t.at, t.rule, t.message h) (f.found.first l)

      way : order here < 5 → step_of here ≡ step_broken plan (round_rule plan paths (order here)) (message_of here)
      way h = let l : order fault < 5 = rw (← t.rule) h in rw (t.step, t.rule, t.message h, ← f.found.first l) (f.step l)
