-- The parts of a formed type: each is a flag or formed.
use Rattle.std.proofs.Common.{◌≡◌, ◌⊎◌, inl, inr, ℕ, suc, List, [], ◌∷◌, slice_get, Some, refl, ap, sym, ◌∙◌, true, false, true≢false}
use Rattle.tl_schema.specs.Types.{Shape, Shapes, no_shapes}
use Rattle.tl_schema.specs.Types as type
use Rattle.tl_schema.specs.Closing.{closed, list_of_shapes}
use Rattle.tl_schema.specs.Schemas.{Slot, Declaration, Declared}
use Rattle.tl_schema.specs.CheckedPrograms.{IsSchema}
use Rattle.tl_schema.specs.Formed.{IsMember, IsFunction, IsOwn, IsFormed, AreArguments, count_of, field_variables}
use Rattle.tl_schema.specs.FormedLaws.{FieldsAreFormed, ClosingKeepsFormed}
use Rattle.tl_types.specs.inner.Reading.{is_deep}
use Rattle.tl_types.proofs.Members.{NumbersTell, some_is}

-- a flag or a formed type
abbrev pub IsRead : Declared → Shape → Type 0
IsRead schema T = (T ≡ type.flag) ⊎ IsFormed schema T

-- each of these fields has such a type
abbrev pub AreRead : Declared → List Shape → List Slot → Type 0
AreRead schema args fs = (k : ℕ) (f : Slot) → slice_get fs k ≡ Some f → IsRead schema (closed args f.of)

-- what is used of a schema
pub record PartsTell (schema : Declared) : Type 0 where
  pub numbers : NumbersTell schema
  pub boxed : (h i : ℕ) (d : Declaration) (args : Shapes) → IsFormed schema (type.boxed h args) → IsMember schema h i d → AreRead schema (list_of_shapes args) d.fields
  pub bare : (i : ℕ) (d : Declaration) (args : Shapes) → IsFormed schema (type.bare i args) → slice_get schema.decls i ≡ Some d → AreRead schema (list_of_shapes args) d.fields
  pub call : (i : ℕ) (d : Declaration) → IsFunction schema i d → AreRead schema [] d.fields

pub deep_formed : (schema : Declared) (T : Shape) → is_deep T ≡ true → IsRead schema T → IsFormed schema T
deep_formed schema T deep (inl e) = absurd (true≢false (sym deep ∙ ap is_deep e))
deep_formed schema T deep (inr formed) = formed

pub first_read : (schema : Declared) (args : List Shape) (f : Slot) (fs : List Slot) → AreRead schema args (f ∷ fs) → IsRead schema (closed args f.of)
first_read schema args f fs read = read 0 f refl

pub others_read : (schema : Declared) (args : List Shape) (f : Slot) (fs : List Slot) → AreRead schema args (f ∷ fs) → AreRead schema args fs
others_read schema args f fs read k g at = read (suc k) g at

module _ (fields : FieldsAreFormed) (closing : ClosingKeepsFormed) (schema : Declared) (good : IsSchema schema) (tell : NumbersTell schema) where
  declared_read : (i : ℕ) (d : Declaration) (args : Shapes) → IsOwn schema i → slice_get schema.decls i ≡ Some d → count_of args ≡ field_variables d → AreArguments schema 0 args → AreRead schema (list_of_shapes args) d.fields
  declared_read i d args own there count arguments k f at = elim (fields schema good i d k f own there at).type [
    | inl flag ↦ inl (ap (closed (list_of_shapes args)) flag)
    | inr formed ↦ inr (closing schema (field_variables d) 0 args f.of count arguments formed).formed
  ]

  own_variables : (d : Declaration) → d.function ≡ false → field_variables d ≡ d.vars
  own_variables d is = rw is refl

  no_variables : (d : Declaration) → d.function ≡ true → field_variables d ≡ 0
  no_variables d is = rw is refl

  boxed_read : (h i : ℕ) (d : Declaration) (args : Shapes) → IsFormed schema (type.boxed h args) → IsMember schema h i d → AreRead schema (list_of_shapes args) d.fields
  boxed_read h i d args formed m = declared_read i d args (tell.own_members h i d m) m.there (sym (formed.0.arity i d m) ∙ sym (own_variables d (tell.constructs h i d m))) formed.1

  bare_read : (i : ℕ) (d : Declaration) (args : Shapes) → IsFormed schema (type.bare i args) → slice_get schema.decls i ≡ Some d → AreRead schema (list_of_shapes args) d.fields
  bare_read i d args formed there =
      let a = formed.0 in
      let same : a.d ≡ d = some_is a.d d (sym a.member.there ∙ there) in
      let count : count_of args ≡ field_variables a.d = sym a.arity ∙ sym (own_variables a.d (tell.constructs a.h i a.d a.member)) in
      declared_read i d args (tell.own_members a.h i a.d a.member) there (count ∙ ap field_variables same) formed.1

  call_read : (i : ℕ) (d : Declaration) → IsFunction schema i d → AreRead schema [] d.fields
  call_read i d m = declared_read i d no_shapes (tell.own_functions i d m) m.there (sym (no_variables d m.function)) tt

  pub parts_tell : PartsTell schema
  parts_tell = record { numbers = tell; boxed = boxed_read; bare = bare_read; call = call_read }
