-- Types and their parts, as a declaration writes them.
-- From "Formal description of TL" (core.telegram.org/mtproto/TL-formal), its terms and expressions.
use Rattle.std.specs.Prelude.{◌≡◌, ◌⊎◌, ℕ, List, false, slice_get, Some}
use Rattle.tl_program.specs.Trees.{Tree, Trees, named, percent, any_call, no_trees, tree}
use Rattle.tl_program.specs.Program.{KindText, nat, flag, call, of, FieldText, DeclText}

abbrev mutual
  -- u is the type itself, or a part of it at any depth
  pub IsPart : Tree → Tree → Type 0
  IsPart u (named name ts) = (u ≡ named name ts) ⊎ IsPartOfOne u ts
  IsPart u (percent t) = (u ≡ percent t) ⊎ IsPart u t
  IsPart u any_call = u ≡ any_call

  -- u is a part of one of them
  pub IsPartOfOne : Tree → Trees → Type 0
  IsPartOfOne u no_trees = ⊥
  IsPartOfOne u (tree t ts) = IsPart u t ⊎ IsPartOfOne u ts

-- u is a part of the type that the field holds
abbrev pub HeldBy : Tree → KindText → Type 0
HeldBy u nat = ⊥
HeldBy u flag = ⊥
HeldBy u (call var) = ⊥
HeldBy u (of t) = IsPart u t

abbrev pub FieldAt : DeclText → ℕ → FieldText → Type 0
FieldAt d i f = slice_get d.fields i ≡ Some f

-- u is a part of a field's type
abbrev pub InFields : DeclText → Tree → Type 0
InFields d u = (i : ℕ) × (f : FieldText) × FieldAt d i f × HeldBy u f.kind

-- u is a part of a field's type or of the result; the line of a built-in type writes none
pub record Writes (d : DeclText) (u : Tree) : Type 0 where
  pub own : d.builtin ≡ false
  pub there : InFields d u ⊎ IsPart u d.result

-- ---- parts with a property

-- the type or a part of it has the property
abbrev pub SomePart : (Tree → Type 0) → Tree → Type 0
SomePart P t = (u : Tree) × IsPart u t × P u

abbrev pub SomePartOfOne : (Tree → Type 0) → Trees → Type 0
SomePartOfOne P ts = (u : Tree) × IsPartOfOne u ts × P u

abbrev pub SomeHeld : (Tree → Type 0) → KindText → Type 0
SomeHeld P k = (u : Tree) × HeldBy u k × P u

abbrev pub SomeInFields : (Tree → Type 0) → List FieldText → Type 0
SomeInFields P fs = (i : ℕ) × (f : FieldText) × (slice_get fs i ≡ Some f) × SomeHeld P f.kind

-- the declaration writes a type that has the property there
abbrev pub SomeWritten : (DeclText → Tree → Type 0) → DeclText → Type 0
SomeWritten P d = (u : Tree) × Writes d u × P d u
