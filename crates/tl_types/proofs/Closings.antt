-- A type, where there is nothing to put in place of its variables.
use Rattle.std.proofs.Common.{◌≡◌, List, [], ◌∷◌, length, map, refl, sym, ap, ◌∙◌, arith, Bool, true, ◌==◌}
use Rattle.std.proofs.lemmas.Bool.{eqb-true}
use Rattle.tl_schema.specs.Types.{Shape, Shapes, no_shapes}
use Rattle.tl_schema.specs.Types as type
use Rattle.tl_schema.specs.Closing.{closed, closed_each}
use Rattle.tl_schema.specs.Seen.{shape}
use Rattle.tl_schema.specs.declared.schema.TypeRef.{TypeRef}

mutual
  pub closed_none : (T : Shape) → closed [] T ≡ T
  closed_none type.int = refl
  closed_none type.long = refl
  closed_none type.nat = refl
  closed_none (type.opaque n) = refl
  closed_none type.str = refl
  closed_none type.raw = refl
  closed_none type.flag = refl
  closed_none type.call = refl
  closed_none (type.var i) = refl
  closed_none (type.vector is_boxed T) = ap (type.vector is_boxed) (closed_none T)
  closed_none (type.boxed h args) = ap (type.boxed h) (closed_none_each args)
  closed_none (type.bare i args) = ap (type.bare i) (closed_none_each args)

  closed_none_each : (args : Shapes) → closed_each [] args ≡ args
  closed_none_each no_shapes = refl
  closed_none_each (type.shape T args) = ap (λ (U : Shape). type.shape U (closed_each [] args)) (closed_none T) ∙ ap (type.shape T) (closed_none_each args)

pub no_arguments : (args : List TypeRef) (none : Bool) → none ≡ (length args == 0) → none ≡ true → map shape args ≡ []
no_arguments [] none is e = refl
no_arguments (t ∷ ts) none is e = let zero_long : length (t ∷ ts) ≡ 0 = eqb-true _ _ (sym is ∙ e) in absurd (omega (arith, zero_long))
