-- `probe_words::put_pair` meets its contract.
use Rattle.probe_words.proofs.put_pair.Goals as goal

pub put_word-requires : goal.put_word-requires
put_word-requires c = rw (c.glyph.ensures, c.glyph-2.ensures) c.requires

pub returns : goal.returns
returns c =
    rw (c.glyph.ensures, c.glyph-2.ensures) at c.put_word.ensures
