-- The types that a type uses: with each those that it names; and in a schema each is a flag or formed, and has widths.
use Rattle.std.proofs.Common.{◌≡◌, inr, ℕ, ◌+◌, ◌*◌, ◌/◌, ◌≤◌, List, [], length, slice_get, Some, refl, sym, subst}
use Rattle.tl_schema.specs.Types.{Shape, Shapes}
use Rattle.tl_schema.specs.Types as type
use Rattle.tl_schema.specs.Closing.{closed, list_of_shapes}
use Rattle.tl_schema.specs.Schemas.{Declaration, Declared}
use Rattle.tl_schema.specs.CheckedPrograms.{IsSchema}
use Rattle.tl_schema.specs.Formed.{IsFormed}
use Rattle.tl_types.proofs.FormedParts.{PartsTell, IsRead, deep_formed}
use Rattle.tl_types.proofs.SchemaTells.{schema_tells}
use Rattle.tl_types.specs.Values.{ValueView, depth}
use Rattle.tl_types.specs.Spelling.{Spells}
use Rattle.tl_types.specs.declared.value.TheConstants.{MAX_LEVELS}
use Rattle.tl_decode.specs.Sizes.{nodes, HasFewFields, FlagsHaveConditions, HasWidths, HaveWidths, IsFieldType, Uses, EachSizeIsBounded}
use Rattle.tl_decode.specs.Sizes as used
use Rattle.tl_decode.proofs.SizesNamed.{IsClosedUnderNames, HasWidth}
use Rattle.tl_decode.proofs.SizesWidths.{field_wide, closed_wide}
use Rattle.tl_decode.proofs.SizesEmpty.{free_of}
use Rattle.tl_decode.proofs.SizesBounded.{size_bounded}

own_width : (T : Shape) → HasWidths T → HasWidth T
own_width (type.opaque n) h = h
own_width type.int h = tt
own_width type.long h = tt
own_width type.nat h = tt
own_width type.str h = tt
own_width type.raw h = tt
own_width type.flag h = tt
own_width type.call h = tt
own_width (type.var i) h = tt
own_width (type.vector is_boxed s) h = tt
own_width (type.boxed k ss) h = tt
own_width (type.bare k ss) h = tt

module _ (schema : Declared) (good : IsSchema schema) (T : Shape) (formed : IsFormed schema T) (wide : HasWidths T) where
  tell : PartsTell schema
  tell = schema_tells schema good

  -- it is a flag or formed, and has widths
  record IsGood (U : Shape) : Type 0 where
    read : IsRead schema U
    widths : HasWidths U

  good_field : (args : Shapes) (i k : ℕ) (d : Declaration) (U : Shape) → HaveWidths args → slice_get schema.decls i ≡ Some d → (f : IsFieldType d (list_of_shapes args) k U) → IsRead schema (closed (list_of_shapes args) f.f.of) → IsGood U
  good_field args i k d U widths there f read =
      subst IsGood (sym f.closes) (record { read = read; widths = closed_wide args widths f.f.of (field_wide schema good i d k f.f there f.there) })

  used_good : (U : Shape) → Uses schema T U → IsGood U
  used_good _ used.itself = record { read = inr formed; widths = wide }
  used_good _ (used.element is_boxed U uses) =
      let of = used_good (type.vector is_boxed U) uses in
      record { read = inr (deep_formed schema (type.vector is_boxed U) refl of.read).0; widths = of.widths }
  used_good _ (used.boxed h i k d args U uses m f) =
      let of = used_good (type.boxed h args) uses in
      good_field args i k d U of.widths m.there f (tell.boxed h i d args (deep_formed schema (type.boxed h args) refl of.read) m k f.f f.there)
  used_good _ (used.bare i k d args U uses there f) =
      let of = used_good (type.bare i args) uses in
      good_field args i k d U of.widths there f (tell.bare i d args (deep_formed schema (type.bare i args) refl of.read) there k f.f f.there)
  used_good _ (used.call i k d U uses m f) = good_field type.no_shapes i k d U tt m.there f (tell.call i d m k f.f f.there)

  uses_named : IsClosedUnderNames schema (Uses schema T)
  uses_named = record {
    formed = λ U uses. (used_good U uses).read;
    wide = λ U uses. own_width U (used_good U uses).widths;
    vector = λ is_boxed U uses. used.element is_boxed U uses;
    boxed = λ h i d args uses m k f at. used.boxed h i k d args _ uses m (record { f = f; there = at; closes = refl });
    bare = λ i d args uses there k f at. used.bare i k d args _ uses there (record { f = f; there = at; closes = refl });
    call = λ i d uses m k f at. used.call i k d _ uses m (record { f = f; there = at; closes = refl });
  }

-- over any set of types that is closed under names
pub bounded_under_names : (schema : Declared) → IsSchema schema → HasFewFields schema → FlagsHaveConditions schema → (P : Shape → Type 0) → IsClosedUnderNames schema P
    → (E : ℕ) → 1 ≤ E → ((T : Shape) (v : ValueView) → P T → Spells schema T v [] → nodes v ≤ E) → (T : Shape) (v : ValueView) (b : List ℕ) → P T → Spells schema T v b → depth v ≤ MAX_LEVELS → nodes v ≤ 32768 * E * (length b / 4 + 1)
bounded_under_names schema good few flags P closed_under E one small T v b p s deep =
    size_bounded schema P E closed_under few one small (λ U u. free_of schema good flags P closed_under u U) v T b p s deep

pub each_size_is_bounded : EachSizeIsBounded
each_size_is_bounded schema good few flags T formed wide E one small v b s deep =
    bounded_under_names schema good few flags (Uses schema T) (uses_named schema good T formed wide) E one small T v b used.itself s deep
