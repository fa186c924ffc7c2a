-- `cut_lines::line_at` meets its contract: the word, both numbers and the two bytes behind them stand there.
use Rattle.std.proofs.Common.{◌+◌, sym, ◌∙◌, ap, arith}
use Rattle.scope.specs.Lines.{number_at}
use Rattle.cut_lines.proofs.Forms.{stands-cut, no_word, is-line, feed_is}
use Rattle.cut_lines.proofs.line_at.Goals as goal

pub returns-then-not-stands : goal.returns-then-not-stands
returns-then-not-stands c =
    let a = c.args in
    no_word a.text.now a.i (sym (stands-cut a.text.now a.i) ∙ sym c.stands.ensures ∙ c.if-not-stands.true)

pub returns : goal.returns
returns c =
    let text = c.args.text.now in
    let i = c.args.i in
    let s = c.in_ok-slot.ensures in
    let e = c.in_ok-link.ensures in
    record {
      is =
          is-line text i _ s.next _ e.next (sym (stands-cut text i) ∙ sym c.stands.ensures ∙ c.if-not-stands.false)
          s.some (sym c.byte.ensures.is ∙ c.if-byte-ne32.false)
          e.some (sym c.byte-2.ensures.is ∙ c.if-byte-ne10.false);
      slot = s.value;
      link = e.value ∙ ap (number_at text) (ap (◌+ 1) s.next);
      end = ap (◌+ 1) (feed_is text i _ s.next _ e.next);
      near = omega arith;
    }
