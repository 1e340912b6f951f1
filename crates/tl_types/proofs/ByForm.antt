-- Whether a value fits a type, its parts aside, depends on the outermost part of the type alone.
use Rattle.std.proofs.Common.{◌≡◌, ℕ, List, Bool, refl}
use Rattle.tl_schema.specs.Types.{Shape, Shapes, no_shapes}
use Rattle.tl_schema.specs.Types as type
use Rattle.tl_schema.specs.Schemas.{Declaration}
use Rattle.tl_schema.specs.Forms.{HasForm, outermost}
use Rattle.tl_schema.specs.declared.form.TypeForm.{TypeForm}
use Rattle.tl_schema.proofs.Forms.{by_form}
use Rattle.tl_types.specs.Values.{ValueView}
use Rattle.tl_types.specs.Values as value
use Rattle.tl_types.specs.Fitting.{Bit, node_misfit}

module _ (ds : List Declaration) where
  vector_node : (n : ℕ) (bit : Bit) (v : ValueView) (b : Bool) (T : Shape) → node_misfit ds n bit (type.vector b type.int) v ≡ node_misfit ds n bit (type.vector b T) v
  vector_node n bit (value.int z) b T = refl
  vector_node n bit v b T = refl

  boxed_node : (n : ℕ) (bit : Bit) (v : ValueView) (h : ℕ) (args : Shapes) → node_misfit ds n bit (type.boxed h no_shapes) v ≡ node_misfit ds n bit (type.boxed h args) v
  boxed_node n bit (value.int z) h args = refl
  boxed_node n bit v h args = refl

  bare_node : (n : ℕ) (bit : Bit) (v : ValueView) (i : ℕ) (args : Shapes) → node_misfit ds n bit (type.bare i no_shapes) v ≡ node_misfit ds n bit (type.bare i args) v
  bare_node n bit (value.int z) i args = refl
  bare_node n bit v i args = refl

  pub node_by_form : (n : ℕ) (bit : Bit) (T : Shape) (f : TypeForm) (v : ValueView) → HasForm T f → node_misfit ds n bit (outermost f) v ≡ node_misfit ds n bit T v
  node_by_form n bit T f v is = by_form (λ (U : Shape). node_misfit ds n bit U v) (record { vector = vector_node n bit v; boxed = boxed_node n bit v; bare = bare_node n bit v }) T f is
