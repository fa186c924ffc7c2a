-- `probe_words::bytes` meets its contract: one law for each length of a word.
use Rattle.std.proofs.Common.{◌≡◌, ◌∙◌, sym, length, arith, rules}
use Rattle.probe_words.specs.Words.{pair_value, pair_next, is_bytes}
use Rattle.probe_words.proofs.Items.{bytes_by, whole_none, whole_one, whole_more}
use Rattle.probe_words.proofs.bytes.Goals as goal
use Rattle.probe_words.proofs.bytes.Goals.{in-0, in-1, in_default}

pub returns : goal.returns
returns c =
    let word = c.args.word.now in
    let l = c.listed-n.ensures (pair_value word) (pair_next word) (λ i r p. search rules) in
    let e : c.match-word.whole ≡ is_bytes (length c.args.into.now) word =
    elim c.match-word.branch [
      | in-0 w ↦ w.whole-is ∙ sym (whole_none _ _ w.in-0.is)
      | in-1 w ↦ w.whole-is ∙ sym (whole_one _ _ w.in-1.is)
      | in_default w ↦ w.whole-is ∙ sym (whole_more _ _ _ l.end (omega arith) (omega arith))
    ]
    in
    rw (c.ok_or.ensures.value, c.then_some.ensures) (bytes_by _ _ _ _ _ l _ e)
