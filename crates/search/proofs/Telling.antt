-- What a search tells of a list, where it is the first of more.
use Rattle.std.proofs.Common.{◌≡◌, ◌∙◌, ℕ, List}
use Rattle.search.specs.declared.Found.{Found}
use Rattle.search.specs.Hunt.{list_of, Tells}

pub tells_more : (row : List ℕ) (First First' : List ℕ → Type 0) (c d : ℕ) (f : Found) → c ≡ d → Tells row First c f →
    (First (list_of f) → First' (list_of f)) → Tells row First' d f
tells_more row First First' c d f same t more = record { told = t.told; count = t.count ∙ same; first = more t.first }
