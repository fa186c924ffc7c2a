-- From the highest l down: the first failing list for l is that for every l above its arrivals, and a plan that is resistant for l is so
-- for every lower l.
use Rattle.std.proofs.Common.{◌≡◌, refl, sym, ◌∙◌, ap, ap₂, ℕ, ◌+◌, ◌-◌, ◌*◌, ◌≤◌, ◌<◌, Bool, true, false, None, List, [], ◌∷◌, ◌++◌}
use Rattle.std.proofs.Common.{length, drop, replicate, ltb, inl, inr, arith}
use lib.Seq.{length-take-le}
use borrow.Author.Tests.{ltb-true, ltb-false}
use Rattle.scope.specs.Limits.{most_messages}
use Rattle.scope.specs.Plan.{Plan, plan_of}
use Rattle.scope.specs.Cuts.{pairs}
use Rattle.scope.specs.Cycle.{arrivals}
use Rattle.scope.specs.Verdict.{Fails, Resistant, FirstFailing}
use Rattle.search.specs.declared.Found.{Found}
use Rattle.search.specs.Hunt.{list_of, Hunted, Hunts}
use Rattle.order.specs.Search.{NoneOf}
use Rattle.search.proofs.Answer.{all-leave}
use Rattle.picks.proofs.Picking.{zeros-after}
use Rattle.board.specs.declared.Board.{Board}
use Rattle.board.specs.Lent.{Lent}
use Rattle.verdicts.specs.Asking.{MayAskOn}
use Rattle.all_verdicts.specs.Answers.{answer_size, failing, Says, seven, needed, AllSaid}
use Rattle.all_verdicts.specs.Filling.{Filled, MayFill}

lower_first : (plan : Plan) (k l m : ℕ) (cuts : List ℕ) → FirstFailing plan k l cuts → arrivals plan cuts < m → m ≤ l →
    FirstFailing plan k m cuts
lower_first plan k l m cuts f h g =
    record { good = f.good; few = f.few; answers = h; first = λ others good fails. f.first others good (omega arith) }

lower_resistant : (plan : Plan) (k l m : ℕ) → Resistant plan k l → m ≤ l → Resistant plan k m
unfolding Resistant
lower_resistant plan k l m r h cuts good few = let enough = r cuts good few in omega arith

-- the answers above l are there, and no list of fewer than `low` pairs fails for l
pub record Descending (row : List ℕ) (board : Board) (k : ℕ) (entry : List ℕ) (l low : ℕ) (out : List ℕ) : Type 0 where
  pub within : l ≤ board.sizes.messages
  pub few : low ≤ k
  pub before : (i : ℕ) → i < low → NoneOf (plan_of row) (Fails (plan_of row) l) [] i
  pub same : length out ≡ length entry
  pub each : (m : ℕ) → l < m → m ≤ length (plan_of row).messages → Says (plan_of row) k m (seven m out)
  pub rest : drop (needed (plan_of row)) out ≡ drop (needed (plan_of row)) entry

module _ (row : List ℕ) (k : ℕ) (entry : List ℕ) (f : MayFill row k (length entry)) (board : Board) (lent : Lent row board) where
  count : board.sizes.messages ≡ length (plan_of row).messages
  count = lent.laid.play.messages

  pub descend_first : Descending row board k entry board.sizes.messages 0 entry
  descend_first =
      record {
        within = omega arith;
        few = omega arith;
        before = λ i z. absurd (omega arith);
        same = refl;
        each = λ m low high. absurd (omega (arith, count));
        rest = refl;
      }

  module _ (l low : ℕ) (out : List ℕ) (g : Descending row board k entry l low out) where
    pub may-ask : MayAskOn row board l low k
    may-ask = record { lent = lent; least = g.within; few = f.few; within = omega (arith, g.few); before = g.before }

    module _ (h : Found) (is : Hunted row l k h) where
      front : length (list_of h) ≡ 2 * h.pairs
      front = length-take-le (2 * h.pairs) h.numbers (omega (arith, is.told.long, is.few, f.few))

      pub less : h.arrivals < l
      less = omega (arith, is.told.left, is.first.answers)

      pub room : (h.arrivals + 1 ≤ l + 1) × (l + 1 ≤ most_messages + 1) × (answer_size * (l + 1) ≤ length out)
      room = (omega (arith, less), omega (arith, g.within, lent.laid.many), omega (arith, g.same, g.within, f.enough, count))

      -- the answers that were put
      pub descend_on : (out' : List ℕ) → length out' ≡ length out → Filled (h.arrivals + 1) (l + 1) (h.pairs + 1) h.numbers out out' →
          Descending row board k entry h.arrivals h.pairs out'
      descend_on out' size p =
          record {
            within = omega (arith, less, g.within);
            few = is.few;
            before = λ i z x long good fails. is.fewer i z x long good (omega (arith, less));
            same = size ∙ g.same;
            each = λ m low high. each m low high (ltb l m) refl;
            rest = p.above (length (plan_of row).messages + 1) (omega (arith, g.within, count)) ∙ g.rest;
          }
        where
          says : (h.pairs + 1) ∷ h.numbers ≡ failing (list_of h)
          says =
              let n : h.pairs ≡ pairs (list_of h) = omega (arith, front) in
              ap₂ (λ (i : ℕ) (l : List ℕ). (i + 1) ∷ l) n
              (zeros-after h.numbers 6 (2 * h.pairs) is.told.long is.told.past ∙
              ap (λ (j : ℕ). list_of h ++ replicate (6 - j) 0) (sym front))

          each : (m : ℕ) → h.arrivals < m → m ≤ length (plan_of row).messages → (b : Bool) → ltb l m ≡ b → Says (plan_of row) k m (seven m out')
          each m low high true b =
              let above : l < m = ltb-true l m b in
              rw (p.above m (omega arith)) (g.each m above high)
          each m low high false b =
              let under : m ≤ l = ltb-false l m b in
              inr
              (record {
                cuts = list_of h;
                first = lower_first (plan_of row) k l m (list_of h) is.first (omega (arith, is.told.left)) under;
                is = p.inside m (omega arith) (omega arith) ∙ says;
              })

    pub room-all : (0 ≤ l + 1) × (l + 1 ≤ most_messages + 1) × (answer_size * (l + 1) ≤ length out)
    room-all = omega (arith, g.same, g.within, f.enough, count, lent.laid.many)

    pub descend_done : (exit : List ℕ) → Hunts row l k None → Filled 0 (l + 1) 0 (replicate 6 0) out exit → AllSaid (plan_of row) k entry exit
    descend_done exit none p =
        record {
          each = λ m high. each m high (ltb l m) refl;
          rest = p.above (length (plan_of row).messages + 1) (omega (arith, g.within, count)) ∙ g.rest;
        }
      where
        each : (m : ℕ) → m ≤ length (plan_of row).messages → (b : Bool) → ltb l m ≡ b → Says (plan_of row) k m (seven m exit)
        each m high true b =
            let above : l < m = ltb-true l m b in
            rw (p.above m (omega arith)) (g.each m above high)
        each m high false b =
            let under : m ≤ l = ltb-false l m b in
            inl
            (record {
              resists = lower_resistant (plan_of row) k l m (all-leave (plan_of row) k l none) under;
              is = p.inside m (omega arith) (omega arith);
            })
