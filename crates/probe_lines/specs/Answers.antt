-- The probe's answers as text: "ok" with numbers or bytes, a refusal, a part of a row, and whether the lent buffer is as it should be.
use Rattle.std.specs.Prelude.{ℕ, ◌*◌, ◌^◌, ◌≤◌, Bool, true, false, cond, List, [], ◌∷◌, ◌++◌, length, take, drop, ℤ, ltb}
use Rattle.scope.specs.Outcome.{Outcome, gives, refused}
use Rattle.scope.specs.Lines.{decimal, signed, space, line_feed, spaced, refused_text}
use Rattle.probe_words.specs.Words.{hex_word, filler, filler16, all_are}

-- "A line that is no question is answered `?`"
abbrev pub unknown_line : List ℕ
unknown_line = 63 ∷ 10 ∷ []

-- the end of a line; "` spoilt` stands behind an answer if anything outside the written part has changed"
abbrev pub ending : Bool → List ℕ
ending true = line_feed
ending false = 32 ∷ 115 ∷ 112 ∷ 111 ∷ 105 ∷ 108 ∷ 116 ∷ 10 ∷ []

-- `ok N`, without the end of the line
abbrev pub ok_text : ℕ → List ℕ
ok_text n = (111 ∷ 107 ∷ 32 ∷ []) ++ decimal n

-- so many numbers, or bytes, that were written to the front of a lent buffer, and the end of the line
abbrev pub numbers_end : ℕ → List ℕ → List ℕ
numbers_end written lent = spaced (take written lent) ++ ending (all_are filler16 (drop written lent))

abbrev pub bytes_end : ℕ → List ℕ → List ℕ
bytes_end written lent = space ++ (hex_word (take written lent) ++ ending (all_are filler (drop written lent)))

-- an outcome with so many numbers that it wrote
abbrev pub told : Outcome → ℕ → List ℕ → List ℕ
told (gives n) written lent = ok_text n ++ numbers_end written lent
told (refused r) written lent = refused_text r ++ ending (all_are filler16 lent)

-- an outcome with the bytes that it wrote
abbrev pub told_bytes : Outcome → List ℕ → List ℕ
told_bytes (gives n) lent = ok_text n ++ bytes_end n lent
told_bytes (refused r) lent = refused_text r ++ ending (all_are filler lent)

-- a slack
abbrev pub slack_line : ℤ → List ℕ
slack_line z = (111 ∷ 107 ∷ 32 ∷ []) ++ (signed z ++ line_feed)

-- how many numbers so many pairs are; no list has more than three
abbrev pub numbers_of : ℕ → ℕ
numbers_of pairs = cond (ltb pairs 4) (2 * pairs) 0

-- a word where no list is found, and one with how many pairs and their numbers where there is one
abbrev pub no_list_line : List ℕ → List ℕ → List ℕ
no_list_line word lent = word ++ ending (all_are filler16 lent)

abbrev pub list_line : List ℕ → ℕ → List ℕ → List ℕ
list_line word n lent = word ++ (decimal n ++ numbers_end (numbers_of n) lent)

-- the words of a verdict, and of an explanation: `ok resistant` and `ok failing `, `ok unexplained` and `ok list `
abbrev pub resistant_word : List ℕ
resistant_word = 111 ∷ 107 ∷ 32 ∷ 114 ∷ 101 ∷ 115 ∷ 105 ∷ 115 ∷ 116 ∷ 97 ∷ 110 ∷ 116 ∷ []

abbrev pub failing_word : List ℕ
failing_word = 111 ∷ 107 ∷ 32 ∷ 102 ∷ 97 ∷ 105 ∷ 108 ∷ 105 ∷ 110 ∷ 103 ∷ 32 ∷ []

abbrev pub unexplained_word : List ℕ
unexplained_word = 111 ∷ 107 ∷ 32 ∷ 117 ∷ 110 ∷ 101 ∷ 120 ∷ 112 ∷ 108 ∷ 97 ∷ 105 ∷ 110 ∷ 101 ∷ 100 ∷ []

abbrev pub explained_word : List ℕ
explained_word = 111 ∷ 107 ∷ 32 ∷ 108 ∷ 105 ∷ 115 ∷ 116 ∷ 32 ∷ []

-- `part LENGTH LINKS...`, and `at INDEX LENGTH`
abbrev pub part_line : List ℕ → List ℕ
part_line links = (112 ∷ 97 ∷ 114 ∷ 116 ∷ 32 ∷ []) ++ (decimal (length links) ++ (spaced links ++ line_feed))

abbrev pub place_line : ℕ → ℕ → List ℕ
place_line index n = (97 ∷ 116 ∷ 32 ∷ []) ++ ((decimal index ++ space) ++ (decimal n ++ line_feed))

-- an answer that is laid from here on can be told, with all the numbers of a lent buffer
pub record Near (at : ℕ) (lent : List ℕ) : Type 0 where
  pub from : at ≤ 2 ^ 63
  pub few : length lent ≤ 2 ^ 32

-- and so can one with a word before it
pub record Worded (at : ℕ) (word lent : List ℕ) : Type 0 where
  pub near : Near at lent
  pub short : length word ≤ 64
