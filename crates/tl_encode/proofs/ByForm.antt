-- What a value's spelling begins with depends on the outermost part of its type alone.
use Rattle.std.proofs.Common.{◌≡◌, ℕ, List, Bool, refl}
use Rattle.tl_schema.specs.Types.{Shape, Shapes, no_shapes}
use Rattle.tl_schema.specs.Types as type
use Rattle.tl_schema.specs.Schemas.{Declaration}
use Rattle.tl_schema.specs.Forms.{HasForm, outermost}
use Rattle.tl_schema.specs.declared.form.TypeForm.{TypeForm}
use Rattle.tl_schema.proofs.Forms.{by_form}
use Rattle.tl_types.specs.Values.{ValueView}
use Rattle.tl_types.specs.Values as value
use Rattle.tl_encode.specs.inner.Bytes.{start}

module _ (ds : List Declaration) where
  vector_start : (v : ValueView) (b : Bool) (T : Shape) → start ds (type.vector b type.int) v ≡ start ds (type.vector b T) v
  vector_start (value.int z) b T = refl
  vector_start v b T = refl

  boxed_start : (v : ValueView) (h : ℕ) (args : Shapes) → start ds (type.boxed h no_shapes) v ≡ start ds (type.boxed h args) v
  boxed_start (value.int z) h args = refl
  boxed_start v h args = refl

  bare_start : (v : ValueView) (i : ℕ) (args : Shapes) → start ds (type.bare i no_shapes) v ≡ start ds (type.bare i args) v
  bare_start (value.int z) i args = refl
  bare_start v i args = refl

  pub start_by_form : (T : Shape) (f : TypeForm) (v : ValueView) → HasForm T f → start ds (outermost f) v ≡ start ds T v
  start_by_form T f v is = by_form (λ (U : Shape). start ds U v) (record { vector = vector_start v; boxed = boxed_start v; bare = bare_start v }) T f is
