-- The text that a line gets. This project's own.
use Rattle.std.specs.Prelude.{◌≡◌, ℕ, List, [], ◌∷◌, ◌++◌, Bool, true, Option, Some, None}
use Rattle.json.specs.Print.{quoted}
use Rattle.serde_json.specs.Data.{Data}
use Rattle.serde_json.specs.Written.{comma_if, compact_text}
use Rattle.tl_schema.specs.Types.{Shape}
use Rattle.tl_schema.specs.Schemas.{Declared}
use Rattle.tl_types.specs.Values.{ValueView}
use Rattle.tl_show.specs.Shown.{shown}
use Rattle.tl_show.specs.inner.Forms.{FormView, written}

-- a key with its colon, and a comma before it where a member stands before
abbrev pub key_text : Bool → List ℕ → List ℕ
key_text later k = comma_if later ++ (quoted k ++ 58 ∷ [])

-- a member, unless there is nothing at its key
abbrev pub member_text : Bool → List ℕ → Option Data → List ℕ
member_text later k None = []
member_text later k (Some d) = key_text later k ++ compact_text d

-- whether a member stands before the next one
abbrev pub later_after : Bool → Option Data → Bool
later_after later None = later
later_after later (Some d) = true

-- the member was put, and that is told
abbrev pub PutsMember : {S : Type 0} → (S → S → List ℕ → Type 0) → Bool → Bool → S → S → List ℕ → Option Data → Type 0
PutsMember puts now later old new k d = (now ≡ later_after later d) × puts old new (member_text later k d)

-- what is written by these forms is the text of what is shown
abbrev pub PrintAsShown : Declared → List FormView → Type 0
PrintAsShown schema fs = (T : Shape) (v : ValueView) → compact_text (written fs T v) ≡ compact_text (shown schema.decls T v)
