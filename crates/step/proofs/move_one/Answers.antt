-- `step::move_one` meets its contract: what `act_one` does, and of it the next position. Assumes nothing.
use mathlib.Core.Path.{◌≡◌, refl, sym, ◌∙◌, ap}
use native.Mathlib.Omega.{arith}
use mathlib.Core.Bool.{true, false, not, ◌&&◌}
use lib.Dec.{eqb}
use borrow.Author.Tests.{eqb-true, eqb-false, not-true}
use borrow.Author.Rules.{rules}
use Rattle.table.specs.Table.{entry_at}
use Rattle.step.proofs.Acting.{home-does, home_tried, waits_acts, acts-idle, acts-tries, moves_by}
use Rattle.step.proofs.move_one.Goals as goal

pub returns-then-is_home : goal.returns-then-is_home
returns-then-is_home c =
    let a = c.args in
    let q = a.p in
    let h : q.left ≡ 0 = eqb-true _ _ (sym c.is_home.ensures ∙ c.if-is_home.true) in
    let e = home-does _ _ a.slot.0 a.tried.now a.m a.row.now q.turned q.at q.left h in
    record {
      next = record { is = ap (λ x. x.next) e; within = omega arith };
      noted = home_tried _ (entry_at a.table.now a.slot.0) a.slot.0 a.tried.now a.m a.row.now q.turned q.at
          q.left h;
    }

pub returns-then-waits : goal.returns-then-waits
returns-then-waits c =
    let a = c.args in
    let h : a.p.left ≡ 0 → ⊥ = eqb-false _ _ (sym c.is_home.ensures ∙ c.if-is_home.false) in
    moves_by (waits_acts _ (entry_at a.table.now a.slot.0) a.slot.0 a.tried.now a.m a.row.now a.p _ (omega (arith, h))
    (sym c.waits.ensures ∙ c.if-waits.true) refl)

pub meets-met-requires : goal.meets-met-requires
meets-met-requires c =
    let h : c.args.p.left ≡ 0 → ⊥ = eqb-false _ _ (sym c.is_home.ensures ∙ c.if-is_home.false) in
    (omega (arith, h), c.requires.fit)

pub acts-moved-requires : goal.acts-moved-requires
acts-moved-requires c =
    let g = c.meets-met.ensures in
    (g.left, omega (arith, g.turned.within, c.requires.fit), g.link)

pub returns-then-not-met : goal.returns-then-not-met
returns-then-not-met c =
    let g = c.meets-met.ensures in
    let a = c.args in
    let turned : c.meets-met.result.position.turned ≡ true = search rules in
    moves_by (acts-tries _ _ a.slot.0 a.tried.now a.m a.row.now a.p _ g _ _ _ _ turned
    (not-true _ c.if-not-met.true)
    c.entry-entry.ensures c.first-first.ensures c.note.ensures (c.acts-moved.ensures _ g.cut))

pub returns : goal.returns
returns c =
    let g = c.meets-met.ensures in
    let a = c.args in
    let met = c.meets-met.result in
    let idle : (met.position.turned && not met.down) ≡ false = search rules in
    moves_by (acts-idle _ (entry_at a.table.now a.slot.0) a.slot.0 a.tried.now a.m a.row.now a.p _ g 0 (not (eqb a.m a.m)) a.m _ idle
    (c.acts-moved-2.ensures _ g.cut))
