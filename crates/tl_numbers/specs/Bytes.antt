-- Lists of bytes. This project's own.
use Rattle.std.specs.Prelude.{ℕ, ◌<◌, List, get_or}
use Rattle.std.specs.List.{AllByRecursion}

-- each number of the list is a byte
abbrev pub AreBytes : List ℕ → Type 0
AreBytes bytes = (k : ℕ) → get_or bytes k 0 < 256

-- each of these lists holds bytes
abbrev pub ListsOfBytes : List (List ℕ) → Type 0
ListsOfBytes lists = AllByRecursion AreBytes lists
