-- The type of calls is formed.
use Rattle.std.proofs.Common.{◌≡◌, refl, sym, subst}
use Rattle.tl_schema.specs.Types.{Shape}
use Rattle.tl_schema.specs.Types as type
use Rattle.tl_schema.specs.Schemas.{Declared}
use Rattle.tl_schema.specs.Formed.{IsFormed}
use Rattle.tl_schema.specs.Seen.{shape}
use Rattle.tl_schema.specs.declared.schema.TypeRef.TheVariants as ref
use Rattle.tl_types.proofs.Views.{shape-Call}

pub called : shape ref.Call ≡ type.call
called = shape-Call ref.Call refl

pub called_formed : (S : Declared) → IsFormed S (shape ref.Call)
called_formed S = subst (λ (T : Shape). IsFormed S T) (sym called) tt
