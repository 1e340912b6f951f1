-- What is kept of the declarations so far: their entries, and the indexes of their names. This project's own.
use Rattle.std.specs.Prelude.{◌≡◌, ℕ, ◌<◌, ◌^◌, List, [], ◌∷◌, ◌++◌, length, map, Bool, true, false, not, slice_get, Some}
use Rattle.tl_program.specs.Program.{DeclText}
use Rattle.tl_names.specs.Writing.{At, is_function}
use Rattle.tl_schema.specs.Schemas.{Declaration}
use Rattle.tl_schema.specs.Seen.{declaration}
use Rattle.tl_schema.specs.Meanings.{IsEntry}
use Rattle.tl_names.specs.NameIndexes.{Notes}
use Rattle.tl_schema.specs.inner.SchemaParts.{AreIndexes}
use Rattle.tl_schema.specs.declared.checks.Known.{Known}
use Rattle.tl_schema.specs.declared.checks.Entered.{Entered}

-- the indexes of functions, or those of constructors
abbrev pub among : Bool → Known → List (List ℕ × ℕ)
among true known = known.functions
among false known = known.constructors

-- the name of one declaration is noted among those of its kind, and the others are as before
pub record NotesOne (old new : Known) (d : DeclText) (at : ℕ) : Type 0 where
  pub noted : Notes (among (is_function d) old) (among (is_function d) new) d.name at
  pub others : among (not (is_function d)) new ≡ among (not (is_function d)) old

-- the entry of one declaration stands after the others, and its name is noted
pub record EntersOne (ds : List DeclText) (old new : Entered) (d : DeclText) (at : ℕ) : Type 0 where
  pub entry : Declaration
  pub last : map declaration new.entries.items ≡ map declaration old.entries.items ++ entry ∷ []
  pub is : IsEntry ds d entry
  pub fits : entry.number < 2 ^ 32
  pub noted : NotesOne old.known new.known d at

-- the entries are those of the first declarations, as many as there are, and the indexes those of their names
pub record Enters (ds : List DeclText) (at : ℕ) (es : List Declaration) (known : Known) : Type 0 where
  pub count : length es ≡ at
  pub entries : (k : ℕ) (d : DeclText) (e : Declaration) → At ds k d → slice_get es k ≡ Some e → IsEntry ds d e
  pub fits : (k : ℕ) (e : Declaration) → slice_get es k ≡ Some e → e.number < 2 ^ 32
  pub indexes : (function : Bool) → AreIndexes es function (among function known)

-- all declarations have their entries
abbrev pub AreEntered : List DeclText → Entered → Type 0
AreEntered ds entered = Enters ds (length ds) (map declaration entered.entries.items) entered.known
