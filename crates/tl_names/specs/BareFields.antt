-- Which constructors take no bytes.
-- This project's own, over the bare types of "TL language" (core.telegram.org/mtproto/TL).
use Rattle.std.specs.Prelude.{◌≡◌, ℕ, List, length, slice_get, Some, true}
use Rattle.tl_program.specs.Program.{KindText, nat, flag, call, of, FieldText, DeclText}
use Rattle.tl_graph.specs.Paths.{IsIn}
use Rattle.tl_names.specs.Writing.{At, is_constructor}
use Rattle.tl_names.specs.Parts.{FieldAt}
use Rattle.tl_names.specs.BareReferences.{IsBareOf}

-- what a field of d holds is the bare constructor j
abbrev pub HoldsBare : List DeclText → DeclText → KindText → ℕ → Type 0
HoldsBare ds d nat j = ⊥
HoldsBare ds d flag j = ⊥
HoldsBare ds d (call var) j = ⊥
HoldsBare ds d (of t) j = IsBareOf ds d t j

-- d is a constructor whose fields are these bare constructors, one each
pub record HasBareFields (ds : List DeclText) (d : DeclText) (js : List ℕ) : Type 0 where
  pub own : is_constructor d ≡ true
  pub count : length js ≡ length d.fields
  pub each : (i j : ℕ) (f : FieldText) → FieldAt d i f → slice_get js i ≡ Some j → HoldsBare ds d f.kind j

-- constructor j takes no bytes: its fields are bare constructors that take none, or it has no fields
pub data TakesNone (ds : List DeclText) : ℕ → Type 0 where
  takes_none : (j : ℕ) (d : DeclText) (js : List ℕ) → At ds j d → HasBareFields ds d js → ((i : ℕ) → IsIn i js → TakesNone ds i) → TakesNone ds j
