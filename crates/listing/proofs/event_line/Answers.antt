-- `listing::event_line` meets its contract: four numbers, each with the byte after it.
use Rattle.std.proofs.Common.{ℕ, List, ◌++◌}
use Rattle.scope.specs.Lines.{event_line}
use Rattle.text.specs.Text.{Told, Puts}
use Rattle.text.proofs.Laid.{told-first, told-rest, then}
use Rattle.listing.proofs.Lines.{part, event_parts}
use Rattle.listing.proofs.event_line.Goals as goal

-- what is to come after the first number, the second and the third
after : (i m k n : ℕ) {b c : List ℕ} {at next : ℕ} → Told at (event_line i m k n) → Puts (part i 32) b c at next →
    Told next (part m 32 ++ (part k 32 ++ part n 10))
after i m k n h p = told-rest p _ (rw (event_parts i m k n) at h)

pub put_number-a-requires : goal.put_number-a-requires
put_number-a-requires c =
    let a = c.args in
    told-first (part a.slot 32) _ (rw (event_parts a.slot a.message a.kind a.number) at c.requires)

pub put_number-b-requires : goal.put_number-b-requires
put_number-b-requires c =
    let a = c.args in
    told-first _ _ (after a.slot a.message a.kind a.number c.requires c.put_number-a.ensures)

pub put_number-c-requires : goal.put_number-c-requires
put_number-c-requires c =
    let a = c.args in
    told-first _ _ (told-rest c.put_number-b.ensures _ (after a.slot a.message a.kind a.number c.requires c.put_number-a.ensures))

pub put_number-requires : goal.put_number-requires
put_number-requires c =
    let a = c.args in
    told-rest c.put_number-c.ensures _
    (told-rest c.put_number-b.ensures _ (after a.slot a.message a.kind a.number c.requires c.put_number-a.ensures))

pub returns : goal.returns
returns c =
    let a = c.args in
    rw (event_parts a.slot a.message a.kind a.number)
    (then
    c.put_number-a.ensures
    (then c.put_number-b.ensures
    (then c.put_number-c.ensures c.put_number.ensures)))
