-- The graph of bare references, and the constructors that take no bytes, step by step. This project's own.
use Rattle.std.specs.Prelude.{◌≡◌, ◌↔◌, ◌⊎◌, ℕ, List, length, Option, Some, None, Bool, true, slice_get}
use Rattle.tl_program.specs.Trees.{Tree}
use Rattle.tl_program.specs.Program.{KindText, DeclText}
use Rattle.tl_graph.specs.Paths.{Edge, IsIn}
use Rattle.tl_graph.specs.Needs.{IsMarked}
use Rattle.tl_names.specs.Writing.{At, is_constructor}
use Rattle.tl_names.specs.Parts.{InFields}
use Rattle.tl_names.specs.Constructors.{IsOnlyConstructor}
use Rattle.tl_names.specs.BareReferences.{IsBareOf, PointsTo}
use Rattle.tl_names.specs.BareFields.{HoldsBare, HasBareFields, TakesNone}

-- ---- bare constructors

-- the only constructor of the type, or none where it has another number of them
abbrev pub OnlyOf : List DeclText → List ℕ → Option ℕ → Type 0
OnlyOf ds type only = (j : ℕ) → ((c : DeclText) × IsOnlyConstructor ds type j c) ↔ (only ≡ Some j)

-- the constructor that the type is, bare, or none
abbrev pub BareIs : List DeclText → DeclText → Tree → Option ℕ → Type 0
BareIs ds d t bare = (j : ℕ) → IsBareOf ds d t j ↔ (bare ≡ Some j)

-- ---- the graph

-- a type that is such is the bare constructor j
abbrev pub RefersIn : List DeclText → DeclText → (Tree → Type 0) → ℕ → Type 0
RefersIn ds d Such j = (t : Tree) × Such t × IsBareOf ds d t j

-- to the nodes were added those that the types which are such refer to
abbrev pub Adds : List DeclText → DeclText → (Tree → Type 0) → List ℕ → List ℕ → Type 0
Adds ds d Such old new = (j : ℕ) → IsIn j new ↔ (IsIn j old ⊎ RefersIn ds d Such j)

-- the nodes are those that d refers to, where it is a constructor
abbrev pub Refers : List DeclText → DeclText → List ℕ → Type 0
Refers ds d js = (j : ℕ) → IsIn j js ↔ ((is_constructor d ≡ true) × RefersIn ds d (InFields d) j)

-- the edges are the references of the program
pub record AreReferences (ds : List DeclText) (edges : List (List ℕ)) : Type 0 where
  pub count : length edges ≡ length ds
  pub same : (k j : ℕ) → PointsTo ds k j ↔ Edge edges k j

-- ---- constructors that take no bytes

-- its fields as bare constructors, or none where one is no such
abbrev pub BareFieldsAre : List DeclText → DeclText → Option (List ℕ) → Type 0
BareFieldsAre ds d (Some js) = HasBareFields ds d js
BareFieldsAre ds d None = (js : List ℕ) → HasBareFields ds d js → ⊥

-- the constructor that a field holds bare, or none
abbrev pub HeldIs : List DeclText → DeclText → KindText → Option ℕ → Type 0
HeldIs ds d kind bare = (j : ℕ) → HoldsBare ds d kind j ↔ (bare ≡ Some j)

-- for each declaration its fields as bare constructors, or none
pub record AreNeeds (ds : List DeclText) (needs : List (Option (List ℕ))) : Type 0 where
  pub count : length needs ≡ length ds
  pub each : (k : ℕ) (d : DeclText) (o : Option (List ℕ)) → At ds k d → slice_get needs k ≡ Some o → BareFieldsAre ds d o

-- exactly the constructors that take no bytes are marked
abbrev pub MarksEmpty : List DeclText → List Bool → Type 0
MarksEmpty ds marks = (j : ℕ) → IsMarked marks j ↔ TakesNone ds j
