use Rattle.std.proofs.Common.{◌≡◌, ◌+◌, refl, ◌∙◌, ap, arith}
use Rattle.scope.specs.Plan.{places_at, message_at}
use Rattle.scope.specs.Spare.{entries_of}
use Rattle.spare.proofs.Loops as law
use Rattle.spare.proofs.entries.Goals as goal

pub loop-k-init : goal.loop-k-init
loop-k-init c = (law.entries-all _ _ _ c.message_index-at.ensures.is _ refl, omega arith, omega arith)

pub loop-k-preserved : goal.loop-k-preserved
loop-k-preserved c =
    let row = c.args.row.now in
    let l = c.loop-k in
    let here : c.entries_of-sum.result ≡ entries_of c.args.e (message_at row l.at) =
    c.entries_of-sum.ensures.is ∙ ap (λ n. entries_of c.args.e (places_at row (l.at + 1) n)) c.place_count.ensures.is in (
      law.entries_on row _ _ _ _ _ _ _ _ (omega (arith, c.messages-k-end.ensures.is)) here c.after_message-at.ensures.is l.invariant.0,
      omega arith,
      omega arith,
    )

pub returns : goal.returns
returns c = record {
  is = law.entries_none _ _ _ _ _ _ _ (omega (arith, c.messages-k-end.ensures.is)) c.loop-k.invariant.0;
  small = omega arith;
}
