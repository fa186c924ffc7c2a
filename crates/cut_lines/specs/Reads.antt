-- What the functions that read cut lines give, in the words of document 01.
use Rattle.std.specs.Prelude.{ℕ, ◌+◌, ◌/◌, ◌<◌, ◌≤◌, ◌≡◌, true, List, ◌++◌, length, drop}
use Rattle.scope.specs.Lines.{number_at, number_size, is_cut_line, slot_index, link_index, feed_index, cuts_from}
use Rattle.text.specs.declared.Number.{Number}
use Rattle.cut_lines.specs.declared.Line.{Line}

-- the number at index i was read: that there is one, what it says, and the index behind it
pub record Found (text : List ℕ) (i : ℕ) (r : Number) : Type 0 where
  pub some : 0 < number_size text i
  pub next : r.next ≡ i + number_size text i
  pub value : r.value ≡ number_at text i
  pub near : r.next ≤ i + 2
  pub small : r.value ≤ 63

-- the cut line at index i was read: that it stands there, its numbers, and the index after it
pub record CutLine (text : List ℕ) (i : ℕ) (r : Line) : Type 0 where
  pub is : is_cut_line text i ≡ true
  pub slot : r.slot ≡ number_at text (slot_index i)
  pub link : r.link ≡ number_at text (link_index text i)
  pub end : r.end ≡ feed_index text i + 1
  pub near : r.end ≤ i + 10

-- the cuts of as many lines as the buffer has room for pairs are written, r numbers; the rest is as it was
pub record Cuts (text entry exit : List ℕ) (r : ℕ) : Type 0 where
  pub count : r ≡ length (cuts_from (length entry / 2) text 0)
  pub buffer : exit ≡ cuts_from (length entry / 2) text 0 ++ drop r entry
