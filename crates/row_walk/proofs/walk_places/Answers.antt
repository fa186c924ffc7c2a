use Rattle.std.proofs.Common.{◌≡◌, ◌-◌, ◌+◌, refl, ap, subst, arith}
use Rattle.scope.specs.Fields.{next_place, next_message}
use Rattle.scope.proofs.Outcomes.{passed_as}
use Rattle.row_walk.specs.Walk.{rest_of, Passes}
use Rattle.row_walk.proofs.Passing.{Going, place_more, place_bad, places_done}
use Rattle.row_walk.proofs.walk_places.Goals as goal

pub loop-p-init : goal.loop-p-init
loop-p-init c = λ m.
    let a = c.args in
    let all : a.n ≡ a.n - 0 = omega arith in
    record { same = ap (λ k. rest_of a.row.now (next_place k m) a.i) all; inside = c.requires }

pub walk_place-requires : goal.walk_place-requires
walk_place-requires c = (c.loop-p.invariant 0).inside

pub returns-in_err-at : goal.returns-in_err-at
returns-in_err-at c =
    let a = c.args in
    passed_as (Passes a.row.now (λ p m. next_place a.n m) (λ p m. next_message m) a.i) _ _ c.from_residual.ensures.1
    (place_bad a.row.now a.n (a.n - c.loop-p._p) a.i c.loop-p.at (omega (arith, c.loop-p-test.true)) c.loop-p.invariant _ c.in_err-at.ensures _ refl)

pub loop-p-preserved : goal.loop-p-preserved
loop-p-preserved c =
    let a = c.args in
    let at = c.loop-p in
    let less : a.n - at._p - 1 ≡ a.n - (at._p + 1) = omega arith in
    let left = place_more a.row.now a.n (a.n - at._p) a.i at.at (omega (arith, c.loop-p-test.true)) at.invariant _ c.in_ok-at.ensures _ refl in
    λ m. subst (λ k. Going a.row.now (rest_of a.row.now (next_place a.n m) a.i) (next_place k m) c.in_ok-at.at) less (left m)

pub returns : goal.returns
returns c =
    let a = c.args in
    let at = c.loop-p in
    let none : a.n - at._p ≡ 0 = omega (arith, c.loop-p-test.false) in
    places_done a.row.now a.n a.i at.at
    (λ m. subst (λ k. Going a.row.now (rest_of a.row.now (next_place a.n m) a.i) (next_place k m) at.at) none (at.invariant m))
