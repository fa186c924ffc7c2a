-- The first bytes of plan files decide the sheet, however long the files are.
use Prim.Native.Nat.{ℕ, ◌+◌}
use mathlib.Core.Path.{◌≡◌, refl, sym, ◌∙◌, ap, ap₂}
use mathlib.Core.List.{List, [], ◌∷◌, ◌++◌, map}
use lib.ListN.{take}
use Rattle.scope.specs.Limits.{plan_room, most_cuts}
use Rattle.scope.specs.Lines.{space, line_feed}
use Rattle.scope.specs.Shelf.{Shelved, Rated, rate, rated_text, plan_lines, sum_lines, ratings, sheet}
use Rattle.listing.proofs.Fronts.{from_front}
use Rattle.sheet_lines.proofs.Rated.{rate-refused, text-refused}
use Rattle.shelf_text.specs.Whole.{front}

same-rate : (file : List ℕ) → rate (take plan_room file) ≡ rate file
same-rate file =
    from_front (λ (f : List ℕ). rate (take plan_room file) ≡ rate f) file
    (λ r short whole e. rate-refused (take plan_room file) r short ∙ sym (rate-refused file r whole)) refl

same_text : (file : List ℕ) → rated_text (take plan_room file) ≡ rated_text file
same_text file =
    from_front (λ (f : List ℕ). rated_text (take plan_room file) ≡ rated_text f) file
    (λ r short whole e. text-refused (take plan_room file) r short ∙ sym (text-refused file r whole)) refl

same_lines : (whole : List Shelved) → plan_lines (map front whole) ≡ plan_lines whole
unfolding plan_lines
same_lines [] = refl
same_lines (s ∷ whole) =
    ap₂ ◌++◌ (ap (λ (text : List ℕ). text ++ (space ++ (s.name ++ line_feed))) (same_text s.file)) (same_lines whole)

same-ratings : (whole : List Shelved) → ratings (map front whole) ≡ ratings whole
same-ratings [] = refl
same-ratings (s ∷ whole) = ap₂ ◌∷◌ (same-rate s.file) (same-ratings whole)

pub same-sheet : (whole : List Shelved) → sheet (map front whole) ≡ sheet whole
unfolding sheet
same-sheet whole = ap₂ ◌++◌ (same_lines whole) (ap (λ (ps : List Rated). sum_lines ps 0 (1 + most_cuts)) (same-ratings whole))
