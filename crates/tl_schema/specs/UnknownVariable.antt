-- The third check: variables of functions, and calls.
-- From "Formal description of TL" (core.telegram.org/mtproto/TL-formal), its optional arguments and its functions.
use Rattle.std.specs.Prelude.{◌≡◌, ◌≢◌, ℕ, List, [], ◌∷◌, true, false, bytes_eq, slice_get, Some, flat_map}
use Rattle.std.specs.List.{count_by}
use Rattle.tl_program.specs.Trees.{Tree, named, percent, any_call}
use Rattle.tl_program.specs.Program.{KindText, nat, flag, call, of, DeclText}
use Rattle.tl_names.specs.Writing.{is_variable}
use Rattle.tl_names.specs.Writing.{DeclarationHas}
use Rattle.tl_names.specs.Parts.{SomeInFields}

abbrev pub called_by : KindText → List (List ℕ)
called_by nat = []
called_by flag = []
called_by (call var) = var ∷ []
called_by (of t) = []

-- the names after `!`, in the order of the fields
abbrev pub calls : DeclText → List (List ℕ)
calls d = flat_map (λ f. called_by f.kind) d.fields

-- the type is a variable of d, applied to some types or none
abbrev pub NamesVariable : DeclText → Tree → Type 0
NamesVariable d (named name args) = is_variable d name ≡ true
NamesVariable d (percent t) = ⊥
NamesVariable d any_call = ⊥

-- d has a variable or a call that is wrong
pub data MisusesVariable (d : DeclText) : Type 0 where
  -- a function's variable doesn't stand in exactly one field `!X`
  uncalled : (i : ℕ) (var : List ℕ) → d.function ≡ true → slice_get d.vars i ≡ Some var → count_by (bytes_eq var) (calls d) ≢ 1 → MisusesVariable d
  -- `!` stands before a name that is no variable
  no_variable : (i : ℕ) (name : List ℕ) → slice_get (calls d) i ≡ Some name → is_variable d name ≡ false → MisusesVariable d
  -- another field of a function names a variable
  in_field : d.function ≡ true → SomeInFields (NamesVariable d) d.fields → MisusesVariable d

-- declaration k has one
abbrev pub UnknownVariable : List DeclText → ℕ → Type 0
UnknownVariable ds = DeclarationHas MisusesVariable ds
