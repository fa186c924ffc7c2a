-- "The file is bit-packed, most significant bit first, fields in this order": the fields of a plan, with their widths.
-- A field's width is a function of where the reader stands, so that another edition is another start and not another rule.
use Rattle.std.specs.Prelude.{ℕ, ◌-◌, cond, eqb}
use Rattle.scope.specs.declared.Fields.{Fields}
use Rattle.scope.specs.declared.Field.{Field}
use Rattle.scope.specs.declared.Field.TheVariants.{Vertices, Links, Messages, Timeout, From, To, Length, Link, Slot, Flag, SecondLength}
use Rattle.scope.specs.declared.Field.TheVariants.{SecondLink, End}

-- "edition, 4 bits, always 1"
abbrev pub edition_width : ℕ
edition_width = 4

abbrev pub edition : ℕ
edition = 1

-- after the edition comes V − 1; in edition 1 a slot has 6 bits
abbrev pub opening : Fields
opening = record { slot = 6; next = Vertices }

-- the width of the next field, in bits; 0 where no field is left
abbrev pub width_of : ℕ → Field → ℕ
width_of slot Vertices = 6
width_of slot Links = 6
width_of slot (Messages e) = 5
width_of slot (Timeout e m) = slot
width_of slot (From e m) = 6
width_of slot (To e m) = 6
width_of slot (Length m) = 4
width_of slot (Link p m) = 6
width_of slot (Slot p m) = slot
width_of slot (Flag p m) = 1
width_of slot (SecondLength p m) = 4
width_of slot (SecondLink e p m) = 6
width_of slot End = 0

abbrev pub width : Fields → ℕ
width s = width_of s.slot s.next

-- a message is done: the next one begins, or the plan is at its end
abbrev pub next_message : ℕ → Field
next_message m = cond (eqb m 0) End (Length (m - 1))

-- a place is done: the next place of this first path, or the message is done
abbrev pub next_place : ℕ → ℕ → Field
next_place p m = cond (eqb p 0) (next_message m) (Link (p - 1) m)

-- a link is done: the next link, or the messages begin
abbrev pub next_link : ℕ → ℕ → Field
next_link e m = cond (eqb e 0) (Length m) (From (e - 1) m)

-- a link of a second path is done
abbrev pub next_second : ℕ → ℕ → ℕ → Field
next_second e p m = cond (eqb e 0) (next_place p m) (SecondLink (e - 1) p m)

-- "a 1-bit flag; and, if the flag is 1, the second path from that place"
abbrev pub after_flag : ℕ → ℕ → ℕ → Field
after_flag v p m = cond (eqb v 1) (SecondLength p m) (next_place p m)

-- the field that comes after this one, if this one holds v
abbrev pub following : Field → ℕ → Field
following Vertices v = Links
following Links v = Messages v
following (Messages e) v = Timeout e v
following (Timeout e m) v = From e m
following (From e m) v = To e m
following (To e m) v = next_link e m
following (Length m) v = Link v m
following (Link p m) v = Slot p m
following (Slot p m) v = Flag p m
following (Flag p m) v = after_flag v p m
following (SecondLength p m) v = SecondLink v p m
following (SecondLink e p m) v = next_second e p m
following End v = End

abbrev pub step : Fields → ℕ → Fields
step s v = record { slot = s.slot; next = following s.next v }
