-- The tables that a search looks at: the weights of each slot and link, and the most that a pair from a slot on can weigh. They say so many
-- slots as a plan has; nothing is said of those behind.
use Rattle.std.specs.Prelude.{ℕ, ◌+◌, ◌-◌, ◌*◌, ◌/◌, ◌%◌, ◌≤◌, ◌<◌, ◌≡◌, cond, List, length, get_or, ltb}
use Rattle.scope.specs.Limits.{most_slots, most_links, most_messages, table_size, seconds_size, plane_size, weights_size, tops_size}
use Rattle.table.specs.Table.{index_of, entry_at}
use Rattle.losses.specs.Touch.{touched_in}
use Rattle.cables.specs.Others.{other_in, AreLinks}
use Rattle.bound.specs.Seconds.{on_link}
use Rattle.bound.specs.Bounds.{weight_in, top_in, front_in}

-- how many entries a table has on link e from slot s on
abbrev pub entries_from : List ℕ → ℕ → ℕ → ℕ → ℕ
entries_from table slots s e = touched_in (entry_at table) (slots - s) s e

-- from the slot and on the link of an index
abbrev pub below : List ℕ → ℕ → ℕ → ℕ
below table slots k = entries_from table slots (k / most_links) (k % most_links)

-- a byte for each message
abbrev pub most_on_link : ℕ
most_on_link = 255 * most_messages

-- a number for each link, none of them large
pub record ForLinks (links : List ℕ) : Type 0 where
  pub few : (e : ℕ) → e < most_links → get_or links e 0 ≤ most_on_link

-- how many messages have each link on the second path of a robust place
pub record OnLinks (seconds links : List ℕ) : Type 0 where
  pub numbers : ForLinks links
  pub is : (e : ℕ) → e < most_links → get_or links e 0 ≡ on_link seconds e

-- a table, no more slots than it has, and a plane for a number each
pub record HasRoom (table : List ℕ) (slots : ℕ) (plane : List ℕ) : Type 0 where
  pub entries : length table ≡ table_size
  pub few : slots ≤ most_slots
  pub long : length plane ≡ plane_size

-- the weight at each index is how many entries come from there on, and a number for its link
pub record WeighsFrom (table links : List ℕ) (slots : ℕ) (weights : List ℕ) : Type 0 where
  pub long : length weights ≡ plane_size
  pub is : (k : ℕ) → k < slots * most_links → get_or weights k 0 ≡ below table slots k + get_or links (k % most_links) 0

-- a number for each link, and for the name of a cable that of its other way with it
abbrev pub with_other : List ℕ → (ℕ → ℕ) → ℕ → ℕ
with_other others count e = count e + cond (ltb e (other_in others e)) (count (other_in others e)) 0

-- what link o weighs may come to what link e does, and did
pub record MayAddLink (slots e o : ℕ) (plane : List ℕ) : Type 0 where
  pub long : length plane ≡ plane_size
  pub within : slots ≤ most_slots
  pub link : e < most_links
  pub other : o < most_links
  pub few : (s : ℕ) → s < slots → get_or plane (index_of s e) 0 + get_or plane (index_of s o) 0 < 65536

pub record AddedLink (slots e o : ℕ) (old new : List ℕ) : Type 0 where
  pub long : length new ≡ plane_size
  pub here : (s : ℕ) → s < slots → get_or new (index_of s e) 0 ≡ get_or old (index_of s e) 0 + get_or old (index_of s o) 0
  pub same : (s d : ℕ) → d < most_links → (d ≡ e → ⊥) → get_or new (index_of s d) 0 ≡ get_or old (index_of s d) 0

-- of all cables
pub record MayAddOthers (others : List ℕ) (slots : ℕ) (plane : List ℕ) : Type 0 where
  pub long : length plane ≡ plane_size
  pub within : slots ≤ most_slots
  pub ways : AreLinks others
  pub few : (s e : ℕ) → s < slots → e < most_links → get_or plane (index_of s e) 0 ≤ most_slots + most_on_link

pub record AddedOthers (others : List ℕ) (slots : ℕ) (old new : List ℕ) : Type 0 where
  pub long : length new ≡ plane_size
  pub is : (s e : ℕ) → s < slots → e < most_links → get_or new (index_of s e) 0 ≡ with_other others (λ d. get_or old (index_of s d) 0) e

-- the weight of each slot and link is its count, and for the name of a cable that of its other way with it; none of them is large
pub record Weighs (count : ℕ → ℕ → ℕ) (others : List ℕ) (slots : ℕ) (weights : List ℕ) : Type 0 where
  pub long : length weights ≡ plane_size
  pub is : (s e : ℕ) → s < slots → e < most_links → get_or weights (index_of s e) 0 ≡ with_other others (count s) e
  pub few : (s e : ℕ) → s < slots → e < most_links → get_or weights (index_of s e) 0 ≤ 2 * (most_slots + most_on_link)

-- how many entries come from there on, and a number for its link
abbrev pub entries_and : List ℕ → List ℕ → ℕ → ℕ → ℕ → ℕ
entries_and table links slots s e = entries_from table slots s e + get_or links e 0

-- how many fragile entries come from there on, and how many messages have its link on the second path of a robust place
abbrev pub strips_from : List ℕ → List ℕ → ℕ → ℕ → ℕ → ℕ
strips_from fragile seconds slots s e = entries_from fragile slots s e + on_link seconds e

-- the first n of two weights may be added
pub record MayAdd (n : ℕ) (touches strips both : List ℕ) : Type 0 where
  pub touched : length touches ≡ plane_size
  pub stripped : length strips ≡ plane_size
  pub long : length both ≡ plane_size
  pub within : n ≤ plane_size
  pub few : (k : ℕ) → k < n → get_or touches k 0 + get_or strips k 0 < 65536

-- the first n of the third are their sums
pub record Added (touches strips : List ℕ) (n : ℕ) (both : List ℕ) : Type 0 where
  pub long : length both ≡ plane_size
  pub sum : (k : ℕ) → k < n → get_or both k 0 ≡ get_or touches k 0 + get_or strips k 0

-- all tables may be weighed
pub record MayWeigh (table fragile seconds others : List ℕ) (slots : ℕ) (weights : List ℕ) : Type 0 where
  pub entries : length table ≡ table_size
  pub marks : length fragile ≡ table_size
  pub bytes : length seconds ≡ seconds_size
  pub ways : AreLinks others
  pub few : slots ≤ most_slots
  pub long : length weights ≡ weights_size

-- the three weights of each slot and link: what a pair touches, what it strips, and both
pub record WeighsAll (table fragile seconds others : List ℕ) (slots : ℕ) (weights : List ℕ) : Type 0 where
  pub long : length weights ≡ weights_size
  pub touches : (s e : ℕ) → s < slots → e < most_links → weight_in weights 0 s e ≡ with_other others (entries_from table slots s) e
  pub strips : (s e : ℕ) → s < slots → e < most_links →
      weight_in weights 1 s e ≡ with_other others (strips_from fragile seconds slots s) e
  pub both : (s e : ℕ) → s < slots → e < most_links → weight_in weights 2 s e ≡ weight_in weights 0 s e + weight_in weights 1 s e

-- no pair of slot s weighs more than its number
abbrev pub TopOf : List ℕ → ℕ → ℕ → Type 0
TopOf weights s top = (e : ℕ) → e < most_links → get_or weights (index_of s e) 0 ≤ top

-- no pair from a slot on weighs more than its number
pub record Tops (weights : List ℕ) (slots : ℕ) (most : List ℕ) : Type 0 where
  pub long : length most ≡ most_slots
  pub later : (s i e : ℕ) → s ≤ i → i < slots → e < most_links → get_or weights (index_of i e) 0 ≤ get_or most s 0

-- the tops of all weights may be put
pub record MayTop (weights : List ℕ) (slots : ℕ) (most : List ℕ) : Type 0 where
  pub heavy : length weights ≡ weights_size
  pub few : slots ≤ most_slots
  pub long : length most ≡ tops_size

-- in none of the three
pub record TopsEach (weights : List ℕ) (slots : ℕ) (most : List ℕ) : Type 0 where
  pub long : length most ≡ tops_size
  pub later : (j s i e : ℕ) → j < 3 → s ≤ i → i < slots → e < most_links → weight_in weights j i e ≤ top_in most j s

-- and no pair of a slot strips more than the number for so many messages as it touches, or for fewer
pub record TopsAll (weights : List ℕ) (slots : ℕ) (most : List ℕ) : Type 0 where
  pub tops : TopsEach weights slots most
  pub fronts : (s e x : ℕ) → s < slots → e < most_links → x ≤ weight_in weights 0 s e → weight_in weights 1 s e ≤ front_in most s x
