-- What an event is, apart from the code.
-- From "Working with Updates" (core.telegram.org/api/updates): messages, edits, deletes and read marks, with the count that each takes of a
-- box.
use Rattle.std.specs.Prelude.{ℕ, ℤ, List, [], length, Bool, true, false}

-- a message with its body, an edit with its body, a delete of ids, or a mark that is read up to an id
pub data EventView : Type 0 where
  added : List ℕ → EventView
  edited : List ℕ → EventView
  deleted : List ℤ → EventView
  read : ℤ → EventView

-- for how many numbers an event counts
abbrev pub count_of : EventView → ℕ
count_of (added body) = 1
count_of (edited body) = 1
count_of (deleted ids) = length ids
count_of (read id) = 1

-- the body of a message or of an edit; none for the others
abbrev pub body_of : EventView → List ℕ
body_of (added body) = body
body_of (edited body) = body
body_of (deleted ids) = []
body_of (read id) = []

-- the ids of a delete; none for the others
abbrev pub ids_of : EventView → List ℤ
ids_of (added body) = []
ids_of (edited body) = []
ids_of (deleted ids) = ids
ids_of (read id) = []

-- whether an event is a message
abbrev pub is_new : EventView → Bool
is_new (added body) = true
is_new (edited body) = false
is_new (deleted ids) = false
is_new (read id) = false
