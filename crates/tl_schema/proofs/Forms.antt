-- What looks at the outermost part of a type alone is the same for each type that has this part.
use Rattle.std.proofs.Common.{◌≡◌, ℕ, Bool, sym, ap, ◌∙◌}
use Rattle.tl_schema.specs.Types.{Shape, Shapes, no_shapes}
use Rattle.tl_schema.specs.Types as type
use Rattle.tl_schema.specs.Forms.{HasForm, outermost}
use Rattle.tl_schema.specs.declared.form.TypeForm.{TypeForm}
use Rattle.tl_schema.specs.declared.form.TypeForm.TheVariants as form

-- what is the same for a vector of any elements, and for a type that is applied to any others
pub record LooksOutside {A : Type 0} (of : Shape → A) : Type 0 where
  pub vector : (b : Bool) (T : Shape) → of (type.vector b type.int) ≡ of (type.vector b T)
  pub boxed : (h : ℕ) (args : Shapes) → of (type.boxed h no_shapes) ≡ of (type.boxed h args)
  pub bare : (i : ℕ) (args : Shapes) → of (type.bare i no_shapes) ≡ of (type.bare i args)

pub by_form : {A : Type 0} (of : Shape → A) → LooksOutside of → (T : Shape) (f : TypeForm) → HasForm T f → of (outermost f) ≡ of T
by_form of outside T form.Int is = ap of (sym is)
by_form of outside T form.Long is = ap of (sym is)
by_form of outside T form.Nat is = ap of (sym is)
by_form of outside T form.Double is = ap of (sym is)
by_form of outside T form.Int128 is = ap of (sym is)
by_form of outside T form.Int256 is = ap of (sym is)
by_form of outside T form.Str is = ap of (sym is)
by_form of outside T form.Raw is = ap of (sym is)
by_form of outside T form.Flag is = ap of (sym is)
by_form of outside T form.Call is = ap of (sym is)
by_form of outside T (form.Var i) is = ap of (sym is)
by_form of outside T (form.Vector b) (U, is) = outside.vector b U ∙ ap of (sym is)
by_form of outside T (form.Boxed h) (args, is) = outside.boxed h args ∙ ap of (sym is)
by_form of outside T (form.Bare i) (args, is) = outside.bare i args ∙ ap of (sym is)
