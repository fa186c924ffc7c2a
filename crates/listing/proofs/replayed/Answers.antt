-- `listing::replayed` meets its contract: header, event lines, arrivals; their lengths bound every index.
use Prim.Native.Nat.{◌+◌}
use mathlib.Core.Path.{ap}
use native.Mathlib.Omega.{arith}
use Rattle.text.proofs.Laid.{told-first, told-rest, then}
use Rattle.listing.proofs.Lines.{few_lines, replay-told, replay_parts}
use Rattle.listing.proofs.replayed.Goals as goal

pub overflow_mul-timeout : goal.overflow_mul-timeout
overflow_mul-timeout c =
    let few = few_lines (c.number-messages.result + 1) (c.number-timeout.result + 1)
    (omega (arith, c.number-messages.ensures.small)) (omega (
      arith,
      c.number-timeout.ensures.small,
    )) in
    omega arith

pub event_lines-next-requires : goal.event_lines-next-requires
event_lines-next-requires c =
    let m = c.number-messages.result + 1 in
    let t = c.number-timeout.result + 1 in
    let hm = c.number-messages.ensures.small in
    let ht = c.number-timeout.ensures.small in
    let few = few_lines m t (omega arith) (omega arith) in (
      omega arith,
      omega arith,
      told-first _ _ (told-rest c.put_word-first.ensures _
          (replay-told c.args.n m t c.args.events.now (omega arith) (omega arith))),
    )

pub arrived_line-requires : goal.arrived_line-requires
arrived_line-requires c =
    let m = c.number-messages.result + 1 in
    let t = c.number-timeout.result + 1 in
    let hm = c.number-messages.ensures.small in
    let ht = c.number-timeout.ensures.small in
    told-rest c.event_lines-next.ensures _
    (told-rest c.put_word-first.ensures _
    (replay-told c.args.n m t c.args.events.now (omega arith) (omega arith)))

pub returns : goal.returns
returns c =
    let a = c.args in
    rw (replay_parts a.n a.row.now a.events.now _ _
    (ap (◌+ 1)
    c.number-messages.ensures.is)
    (ap (◌+ 1)
    c.number-timeout.ensures.is))
    (then c.put_word-first.ensures
    (then c.event_lines-next.ensures c.arrived_line.ensures))
