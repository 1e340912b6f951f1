-- The declarations of a type, and their fields. This project's own.
use Rattle.std.specs.Prelude.{ℕ, suc, List, [], ◌∷◌, length, Bool, ◌==◌, nat_lt, if◌then◌else◌, Option, Some, None, slice_get}
use Rattle.tl_names.specs.Indexes.{types_of}
use Rattle.tl_schema.specs.Types.{Shape, call, boxed, bare}
use Rattle.tl_schema.specs.Schemas.{Slot, Declaration, Declared}

-- the indices of those that pass the test, the first having the index i
abbrev pub indices_from : ℕ → (Declaration → Bool) → List Declaration → List ℕ
indices_from i test [] = []
indices_from i test (d ∷ ds) = if test d then i ∷ indices_from (suc i) test ds else indices_from (suc i) test ds

-- the constructors of the type with the number h
abbrev pub constructors_of : Declared → ℕ → List ℕ
constructors_of S h = if nat_lt h (length (types_of S.program)) then indices_from 0 (λ d. d.head == h) S.decls else []

abbrev pub functions_of : Declared → List ℕ
functions_of S = indices_from 0 (λ d. d.function) S.decls

-- of a boxed type its constructors, of a bare one that constructor, of a call every function, in order
abbrev pub entries_of : Declared → Shape → List ℕ
entries_of S (boxed h args) = constructors_of S h
entries_of S (bare i args) = i ∷ []
entries_of S call = functions_of S
entries_of S T = []

abbrev pub fields_in : Option Declaration → List Slot
fields_in None = []
fields_in (Some d) = d.fields

abbrev pub fields_at : Declared → ℕ → List Slot
fields_at S i = fields_in (slice_get S.decls i)
