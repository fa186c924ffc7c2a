-- `Position::meets` meets its contract: one law of proofs/Turns for each way. Assumes nothing.
use native.Mathlib.Omega.{arith}
use Rattle.cuts.specs.Down.{is_down}
use Rattle.step.proofs.Turns as law
use Rattle.step.proofs.Position.meets.Goals as goal

pub returns-then-self : goal.returns-then-self
returns-then-self c =
    law.meets_turned c.args.row.now (is_down c.args.down.now) c.args.self c.requires.0 _ c.faces-here.ensures c.if-self.true

pub overflow_cast-turned : goal.overflow_cast-turned
overflow_cast-turned c =
    let w =
    law.second_fits c.args.row.now (is_down c.args.down.now) c.args.self c.requires.0 _ c.faces-here.ensures c.if-self.false
    c.if-here.true c.place_at-place.result c.place_at-place.ensures c.if-place-ne0.true in
    omega (arith, w, c.requires.1)

pub overflow_cast-turned-then-place-ne0 : goal.overflow_cast-turned-then-place-ne0
overflow_cast-turned-then-place-ne0 c =
    let w =
    law.second_fits c.args.row.now (is_down c.args.down.now) c.args.self c.requires.0 _ c.faces-here.ensures c.if-self.false
    c.if-here.true c.place_at-place.result c.place_at-place.ensures c.if-place-ne0.true in
    omega (arith, w, c.requires.1)

pub returns-then-place-ne0 : goal.returns-then-place-ne0
returns-then-place-ne0 c =
    law.meets_second c.args.row.now (is_down c.args.down.now) c.args.self c.requires.0 _ c.faces-here.ensures c.if-self.false
    c.if-here.true c.place_at-place.result c.place_at-place.ensures c.if-place-ne0.true _ c.faces.ensures

pub returns-else-place-ne0 : goal.returns-else-place-ne0
returns-else-place-ne0 c =
    law.meets_none c.args.row.now (is_down c.args.down.now) c.args.self c.requires.0 _ c.faces-here.ensures c.if-self.false
    c.if-here.true c.place_at-place.result c.place_at-place.ensures c.if-place-ne0.false

pub returns-else-here : goal.returns-else-here
returns-else-here c =
    law.meets_whole c.args.row.now (is_down c.args.down.now) c.args.self c.requires.0 _ c.faces-here.ensures c.if-self.false
    c.if-here.false
