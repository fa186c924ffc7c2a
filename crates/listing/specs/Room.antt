-- Bytes enough for every listing of a plan of at most 32 messages and a timeout of at most 64, and for a refusal.
use Rattle.std.specs.Prelude.{ℕ}

abbrev pub listing_room : ℕ
listing_room = 36942
