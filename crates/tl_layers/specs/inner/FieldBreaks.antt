-- Breaks of fields by their causes, and the first break of a declaration. This project's own.
use Rattle.std.specs.Prelude.{◌≡◌, ◌≢◌, ℕ, ◌≤◌, List, length, Option, Some, None}
use Rattle.tl_graph.specs.Firsts.{First}
use Rattle.tl_schema.specs.Schemas.{Slot, Declaration}
use Rattle.tl_layers.specs.Breaks.{LacksField, IsBefore, IsChanged, IsAdded, IsSplit, HasBreak, rank}
use Rattle.tl_layers.specs.inner.Pairs.{PairView}
use Rattle.tl_layers.specs.declared.fault.Break.{Break}
use Rattle.tl_layers.specs.declared.fault.Break.TheVariants.{NewNumber, NewVars, TypeSplit, FieldGone, FieldOrder, FieldChanged, FieldAdded}
use Rattle.tl_layers.specs.declared.field_breaks.FieldCause.{FieldCause}
use Rattle.tl_layers.specs.declared.field_breaks.FieldCause.TheVariants as cause

-- the field at this index has the cause
abbrev pub HasCause : PairView → List Slot → List Slot → FieldCause → ℕ → Type 0
HasCause p fs gs cause.Gone k = LacksField fs gs k
HasCause p fs gs cause.Order k = IsBefore fs gs k
HasCause p fs gs cause.Changed k = IsChanged p.old p.new fs gs k
HasCause p fs gs cause.Added k = IsAdded fs gs k

-- how many fields may have it
abbrev pub count_for : List Slot → List Slot → FieldCause → ℕ
count_for fs gs cause.Added = length gs
count_for fs gs other = length fs

-- no field has it
abbrev pub NoneHas : PairView → List Slot → List Slot → FieldCause → Type 0
NoneHas p fs gs c = (k : ℕ) → HasCause p fs gs c k → ⊥

-- the first break of a field, or none
abbrev pub IsFieldBreak : PairView → List Slot → List Slot → Option Break → Type 0
IsFieldBreak p fs gs None = NoneHas p fs gs cause.Gone × NoneHas p fs gs cause.Order × NoneHas p fs gs cause.Changed × NoneHas p fs gs cause.Added
IsFieldBreak p fs gs (Some (FieldGone k)) = First (HasCause p fs gs cause.Gone) (Some k)
IsFieldBreak p fs gs (Some (FieldOrder k)) = NoneHas p fs gs cause.Gone × First (HasCause p fs gs cause.Order) (Some k)
IsFieldBreak p fs gs (Some (FieldChanged k)) = NoneHas p fs gs cause.Gone × NoneHas p fs gs cause.Order × First (HasCause p fs gs cause.Changed) (Some k)
IsFieldBreak p fs gs (Some (FieldAdded k)) =
    NoneHas p fs gs cause.Gone × NoneHas p fs gs cause.Order × NoneHas p fs gs cause.Changed × First (HasCause p fs gs cause.Added) (Some k)
IsFieldBreak p fs gs (Some other) = ⊥

-- the first break before those of fields, or none
abbrev pub IsHeadBreak : PairView → Declaration → Declaration → Option Break → Type 0
IsHeadBreak p d e None = (e.number ≡ d.number) × (e.vars ≡ d.vars) × (IsSplit p.old p.new d e → ⊥)
IsHeadBreak p d e (Some NewNumber) = e.number ≢ d.number
IsHeadBreak p d e (Some NewVars) = (e.number ≡ d.number) × (e.vars ≢ d.vars)
IsHeadBreak p d e (Some TypeSplit) = (e.number ≡ d.number) × (e.vars ≡ d.vars) × IsSplit p.old p.new d e
IsHeadBreak p d e (Some other) = ⊥

-- the first break of declaration i, or none
abbrev pub IsFirstBreak : PairView → ℕ → Option Break → Type 0
IsFirstBreak p i None = (cause : Break) → HasBreak p.old p.new i cause → ⊥
IsFirstBreak p i (Some cause) = HasBreak p.old p.new i cause × ((other : Break) → HasBreak p.old p.new i other → rank cause ≤ rank other)
