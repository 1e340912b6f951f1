-- Profiles: schemas that have the forms of the protocol. This project's own.
use Rattle.std.specs.Prelude.{◌≡◌, ◌⊎◌, ℕ, ◌<◌, List, [], ◌∷◌, length, map, Some, slice_get, false, IsTrue}
use Rattle.tl_schema.specs.Types.{Shape, no_shapes}
use Rattle.tl_schema.specs.Types as type
use Rattle.tl_schema.specs.Schemas.{Declaration, Declared}
use Rattle.tl_schema.specs.CheckedPrograms.{IsSchema}
use Rattle.tl_schema.specs.AskedTypes.{IsTypeText}
use Rattle.tl_names.specs.Indexes.{types_of}
use Rattle.wire_forms.specs.Forms.{FormView, forms, type_names, constructs}
use Rattle.wire_forms.specs.declared.numbers.TheConstants.{FRAME_TYPE, STEP_TYPE, CLIENT_TYPE}
use Rattle.wire_profile.specs.Indexes.{ProfileView, number_at, form_at, slot_of, result_shape, variables_of}

-- ---- types

-- the number of the type that has this name; where the name is none such, the number of types
abbrev pub IsHead : Declared → List ℕ → ℕ → Type 0
IsHead S name h =
    IsTypeText S.program name (type.boxed h no_shapes)
    ⊎ ((h ≡ length (types_of S.program)) × ((g : ℕ) → IsTypeText S.program name (type.boxed g no_shapes) → ⊥))

-- those of types with these names
abbrev pub AreHeads : Declared → List (List ℕ) → List ℕ → Type 0
AreHeads S [] [] = Unit {0}
AreHeads S (name ∷ names) (h ∷ hs) = IsHead S name h × AreHeads S names hs
AreHeads S [] (h ∷ hs) = ⊥
AreHeads S (name ∷ names) [] = ⊥

-- ---- forms

-- d declares the form: its name, its variables, its fields with their names, conditions and types, its result, and what it constructs
pub record IsForm (p : ProfileView) (f : FormView) (d : Declaration) : Type 0 where
  pub name : d.name ≡ f.name
  pub function : d.function ≡ f.function
  pub vars : d.vars ≡ variables_of f.result
  pub fields : d.fields ≡ map (slot_of p) f.parts
  pub result : d.result ≡ result_shape p f.result
  pub head : (h : ℕ) → f.function ≡ false → f.result ≡ Some h → (d.head ≡ number_at p.heads h) × (d.head < length (types_of p.schema.program))

-- the declaration at the form's index declares it
pub record HasForm (p : ProfileView) (k : ℕ) (f : FormView) : Type 0 where
  pub d : Declaration
  pub there : slice_get p.schema.decls (number_at p.indexes k) ≡ Some d
  pub is : IsForm p f d

-- the schema has each form at its place, and its types of these names have no further constructor
pub record IsProfile (p : ProfileView) : Type 0 where
  pub schema : IsSchema p.schema
  pub count : length p.indexes ≡ length forms
  pub heads : AreHeads p.schema type_names p.heads
  pub forms_there : (k : ℕ) (f : FormView) → slice_get forms k ≡ Some f → HasForm p k f
  pub no_more : (i h head : ℕ) (d : Declaration) → slice_get p.schema.decls i ≡ Some d → slice_get p.heads h ≡ Some head → d.head ≡ head → IsTrue (constructs h (form_at p.indexes i))

-- ---- the plan

-- the types of what is read and written: a frame, a step, a saved client
abbrev pub root_shapes : ProfileView → List Shape
root_shapes p = result_shape p (Some FRAME_TYPE) ∷ result_shape p (Some STEP_TYPE) ∷ result_shape p (Some CLIENT_TYPE) ∷ []
