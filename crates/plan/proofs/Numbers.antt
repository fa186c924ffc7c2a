-- A refusal's number is never 0, so that 0 says that nothing is refused.
use Prim.Native.Nat.{ℕ, ◌+◌, ◌^◌}
use mathlib.Core.Path.{◌≡◌}
use mathlib.Core.Bool.{Bool, true, false, cond}
use mathlib.Core.List.{List, [], ◌∷◌}
use native.Mathlib.Omega.{arith}
use lib.ListN.{length}
use lib.Dec.{ltb, eqb}
use Rattle.scope.specs.declared.Fields.{Fields}
use Rattle.scope.specs.Lowest.{lowest}
use Rattle.scope.specs.declared.Refusal.{Refusal}
use Rattle.scope.specs.Outcome.{Outcome, gives, refused, refuse, and_then, unless_some}
use Rattle.scope.specs.Fields.{width, step, opening, edition}
use Rattle.scope.specs.Row.{walk_from, walk_row}
use Rattle.scope.specs.Plan.{Plan, plan_of}
use Rattle.scope.specs.Good.{bad_ends, repeats, bad_slots, bad_table}
use Rattle.scope.specs.PathRules.{PathRule, breaks_it, unless_on, first_no_link, first_apart, first_again}
use Rattle.scope.specs.PathRules.{second_no_link, second_apart, second_astray, second_again, second_replaced}
use Rattle.scope.specs.Rules.{rules}
use Rattle.scope.specs.Questions.{judge}

-- an outcome that is no refusal, or a refusal with a number
pub Numbered : Outcome → Type 0
Numbered (gives n) = Unit {0}
Numbered (refused r) = r.no ≡ 0 → ⊥

pick : (t : Bool) (a b : Outcome) → Numbered a → Numbered b → Numbered (cond t a b)
pick true a b ha hb = ha
pick false a b ha hb = hb

chain : (o : Outcome) (next : ℕ → Outcome) → Numbered o → ((n : ℕ) → Numbered (next n)) → Numbered (and_then o next)
chain (gives n) next h g = g n
chain (refused r) next h g = h

walk_numbered : (s : Fields) (i : ℕ) (vs : List ℕ) → Numbered (walk_from s i vs)
unfolding walk_from Numbered
walk_numbered s i [] = pick (eqb (width s) 0) (gives i) (refuse 2 i) tt (λ e. omega arith)
walk_numbered s i (v ∷ vs) =
    pick (eqb (width s) 0) (refuse 4 i) (cond (ltb v (2 ^ width s)) (walk_from (step s v) (i + 1) vs) (refuse 3 i)) (λ e. omega arith)
    (pick (ltb v (2 ^ width s)) (walk_from (step s v) (i + 1) vs) (refuse 3 i) (walk_numbered (step s v) (i + 1) vs) (λ e. omega arith))

row-numbered : (row : List ℕ) → Numbered (walk_row row)
unfolding walk_row Numbered
row-numbered [] = λ e. omega arith
row-numbered (v ∷ vs) = pick (eqb v edition) (walk_from opening 1 vs) (refuse 1 0) (walk_numbered opening 1 vs) (λ e. omega arith)

unless : (k : ℕ) (broken : ℕ → Bool) (n : ℕ) (rest : Outcome) → (k ≡ 0 → ⊥) → Numbered rest → Numbered (unless_some k broken n rest)
unfolding Numbered
unless k broken n rest h g = pick (ltb (lowest broken n) n) (refuse k (lowest broken n)) rest h g

unless_path : (plan : Plan) (k : ℕ) (rule : PathRule) (rest : Outcome) → (k ≡ 0 → ⊥) → Numbered rest → Numbered (unless_on plan k rule rest)
unfolding Numbered
unless_path plan k rule rest h g = pick (ltb (lowest (breaks_it plan rule) (length plan.messages)) (length plan.messages)) _ rest h g

rules-numbered : (plan : Plan) → Numbered (rules plan)
unfolding rules Numbered
rules-numbered plan =
    unless 5 (bad_ends plan) (length plan.links) _ (λ e. omega arith)
    (unless 6 (repeats plan) (length plan.links) _ (λ e. omega arith)
    (unless_path plan 7 (first_no_link plan) _ (λ e. omega arith)
    (unless_path plan 14 (first_apart plan) _ (λ e. omega arith)
    (unless_path plan 15 (first_again plan) _ (λ e. omega arith)
    (unless 8 (bad_slots plan) (length plan.messages) _ (λ e. omega arith)
    (unless 9 (bad_table plan) (length plan.messages) _ (λ e. omega arith)
    (unless_path plan 10 (second_no_link plan) _ (λ e. omega arith)
    (unless_path plan 16 (second_apart plan) _ (λ e. omega arith)
    (unless_path plan 17 (second_astray plan) _ (λ e. omega arith)
    (unless_path plan 18 (second_again plan) _ (λ e. omega arith)
    (unless_path plan 19 (second_replaced plan) (gives 0) (λ e. omega arith) tt)))))))))))

pub judge-numbered : (row : List ℕ) (r : Refusal) → judge row ≡ refused r → r.no ≡ 0 → ⊥
unfolding judge Numbered
judge-numbered row r e =
    let h : Numbered (judge row) =
    chain (walk_row row) (λ n. and_then (rules (plan_of row)) (λ _. gives n)) (row-numbered row)
    (λ n. chain (rules (plan_of row)) (λ _. gives n) (rules-numbered (plan_of row)) (λ _. tt)) in
    let g : Numbered (refused r) = rw e at h in
    g
