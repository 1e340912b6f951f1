-- The seventh check: conditions.
-- From "Formal description of TL" (core.telegram.org/mtproto/TL-formal), its conditional fields.
use Rattle.std.specs.Prelude.{◌≡◌, ◌⊎◌, ℕ, ◌<◌, List, Option, Some, None}
use Rattle.tl_program.specs.Program.{nat, CondText, FieldText, DeclText}
use Rattle.tl_names.specs.Parts.{FieldAt}
use Rattle.tl_names.specs.Writing.{DeclarationHas}

-- a field before the index i is `#`, and has this name
pub record IsFlagsBefore (d : DeclText) (i : ℕ) (flags : List ℕ) : Type 0 where
  pub earlier : ℕ
  pub f : FieldText
  pub before : earlier < i
  pub there : FieldAt d earlier f
  pub number : f.kind ≡ nat
  pub name : f.name ≡ flags

-- what field i has is a condition, on no earlier `#` field or on a bit above 31
abbrev pub IsBadCondition : DeclText → ℕ → Option CondText → Type 0
IsBadCondition d i None = ⊥
IsBadCondition d i (Some c) = (31 < c.bit) ⊎ (IsFlagsBefore d i c.flags → ⊥)

-- a field of d has such a condition
pub record HasBadCondition (d : DeclText) : Type 0 where
  pub i : ℕ
  pub f : FieldText
  pub field : FieldAt d i f
  pub bad : IsBadCondition d i f.cond

-- declaration k has one
abbrev pub BadFlag : List DeclText → ℕ → Type 0
BadFlag ds = DeclarationHas HasBadCondition ds
