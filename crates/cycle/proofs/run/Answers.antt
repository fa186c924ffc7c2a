use Prim.Native.Nat.{◌-◌, ◌<◌}
use mathlib.Core.Path.{◌≡◌, ◌∙◌, ap, refl}
use lib.ListN.{length, take, drop, length-drop}
use lib.Seq.{length-take-le}
use native.Mathlib.Omega.{arith}
use Rattle.step.specs.declared.Time.{Time}
use Rattle.cycle.proofs.Slots.{running_room, running_more, running_done}
use Rattle.cycle.proofs.run.Goals as goal

pub run_slot-standing-requires : goal.run_slot-standing-requires
run_slot-standing-requires c =
    let l = c.loop-i in
    let t : c.begins-i.result.0 ≡ l.standing.time.0 = c.begins-i.ensures ∙ ap (λ (t : Time). t.0) c.time-in-loop-i.ensures in
    let n : c.number.result ≡ l.standing.time.0 = c.number.ensures ∙ ap (λ (t : Time). t.0) c.time.ensures in
    let e : l.standing.time.0 < c.args.timeout = omega (arith, n, c.loop-i-test.true) in
    let f : length (drop l.at l.out) ≡ length l.out - l.at = length-drop l.at l.out in
    let k : length (take (length l.out - l.at) (drop l.at l.out)) ≡ length l.out - l.at =
    length-take-le (length l.out - l.at) (drop l.at l.out) (omega arith) in
    record {
      go = record { stand = l.invariant.stand; at = omega (arith, t); early = omega (arith, t, e, l.invariant.short) };
      enough = rw k (omega (arith, running_room _ _ _ _ _ _ _ _ _ _ _ _ l.invariant e));
    }

pub loop-i-preserved : goal.loop-i-preserved
loop-i-preserved c =
    let l = c.loop-i in
    let t : c.begins-i.result.0 ≡ l.standing.time.0 = c.begins-i.ensures ∙ ap (λ (t : Time). t.0) c.time-in-loop-i.ensures in
    let n : c.number.result ≡ l.standing.time.0 = c.number.ensures ∙ ap (λ (t : Time). t.0) c.time.ensures in
    let e : l.standing.time.0 < c.args.timeout = omega (arith, n, c.loop-i-test.true) in
    running_more _ _ _ _ _ _ _ _ _ _ _ _ l.invariant c.run_slot-standing.result
    c.run_slot-standing.new.out _ e (rw t at c.run_slot-standing.ensures) refl

pub returns : goal.returns
returns c =
    let n : c.number.result ≡ c.loop-i.standing.time.0 = c.number.ensures ∙ ap (λ (t : Time). t.0) c.time.ensures in
    running_done _ _ _ _ _ _ _ _ _ _ _ _ c.loop-i.invariant _ refl (omega (arith, n, c.loop-i-test.false))
