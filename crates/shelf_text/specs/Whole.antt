-- What is read of the plan files on a shelf: of each as many bytes as can matter.
use Rattle.std.specs.Prelude.{◌≡◌, List, map, take}
use Rattle.scope.specs.Limits.{plan_room}
use Rattle.scope.specs.Shelf.{Shelved}

-- the first bytes of a plan file
abbrev pub front : Shelved → Shelved
front s = record { name = s.name; file = take plan_room s.file }

-- of each plan file on a shelf the first bytes were read
abbrev pub FrontsOf : List Shelved → List Shelved → Type 0
FrontsOf whole read = read ≡ map front whole
