-- `text::put_path` meets its contract: nothing, or two numbers with a space before each.
use Rattle.std.proofs.Common.{◌≡◌, ℕ, Bool, true, sym, ◌∙◌}
use Rattle.scope.specs.declared.Refusal.{Refusal}
use Rattle.scope.specs.Outcome.{names_link}
use Rattle.scope.specs.Lines.{path_text}
use Rattle.text.specs.Text.{Told}
use Rattle.text.proofs.Laid.{told-first, told-rest, then, puts_none}
use Rattle.text.proofs.Refused.{spaced_two, path_none, path_both}
use Rattle.text.proofs.put_path.Goals as goal

-- it has both, and they can be told
both : (r : Refusal) {named : Bool} → named ≡ names_link r.no → named ≡ true → path_text r ≡ spaced_two r.at r.step
both r is e = path_both r (sym is ∙ e)

told : (r : Refusal) {named : Bool} {i : ℕ} → named ≡ names_link r.no → named ≡ true → Told i (path_text r) →
    Told i (spaced_two r.at r.step)
told r is e h = rw (both r is e) at h

pub returns-then-not-names_link : goal.returns-then-not-names_link
returns-then-not-names_link c =
    rw (path_none c.args.refusal (sym c.names_link.ensures ∙ c.if-not-names_link.true))
    (puts_none _ c.args.at)

pub put_byte-place-requires : goal.put_byte-place-requires
put_byte-place-requires c = told-first _ _ (told c.args.refusal c.names_link.ensures c.if-not-names_link.false c.requires)

pub put_decimal-space-requires : goal.put_decimal-space-requires
put_decimal-space-requires c =
    let t = told c.args.refusal c.names_link.ensures c.if-not-names_link.false c.requires in
    told-first _ _ (told-rest c.put_byte-place.ensures _ t)

pub put_byte-step-requires : goal.put_byte-step-requires
put_byte-step-requires c =
    let t = told c.args.refusal c.names_link.ensures c.if-not-names_link.false c.requires in
    told-first _ _ (told-rest c.put_decimal-space.ensures _ (told-rest c.put_byte-place.ensures _ t))

pub put_decimal-requires : goal.put_decimal-requires
put_decimal-requires c =
    let t = told c.args.refusal c.names_link.ensures c.if-not-names_link.false c.requires in
    told-rest c.put_byte-step.ensures _ (told-rest c.put_decimal-space.ensures _ (told-rest c.put_byte-place.ensures _ t))

pub returns : goal.returns
returns c =
    rw (both c.args.refusal c.names_link.ensures c.if-not-names_link.false)
    (then c.put_byte-place.ensures
    (then c.put_decimal-space.ensures (then c.put_byte-step.ensures c.put_decimal.ensures)))
