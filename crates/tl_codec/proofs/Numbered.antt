-- A type that is kept, by its number.
use Rattle.std.proofs.Common.{◌≡◌, ℕ, ◌<◌, List, length, map, get_or, Option, Some, sym, subst}
use Rattle.std.specs.Prelude.{IfSome, slice_get}
use Rattle.std.proofs.lemmas.List.{length-map}
use Rattle.tl_names.proofs.Maps.{slice_get_item}
use Rattle.tl_schema.specs.Types.{Shape}
use Rattle.tl_schema.specs.Schemas.{Declared}
use Rattle.tl_schema.specs.Formed.{IsFormed}
use Rattle.tl_schema.specs.Seen.{shape}
use Rattle.tl_schema.specs.declared.schema.TypeRef.{TypeRef}
use Rattle.tl_plan.specs.Plans.{AreFormed}
use Rattle.tl_codec.specs.Codings.{Made}
use Rattle.tl_codec.specs.Typings.{OfType}

module _ (schema : Declared) (types : List TypeRef) (i : ℕ) (of : TypeRef) (within : i < length (map shape types)) (at : of ≡ get_or types i of) where
  there : slice_get (map shape types) i ≡ Some (shape of)
  there = slice_get_item shape types i of (subst (λ (n : ℕ). i < n) (length-map types shape) within) at

  pub kept_formed : AreFormed schema (map shape types) → IsFormed schema (shape of)
  kept_formed are = are i (shape of) there

  pub made_of : (Makes : Declared → Shape → List ℕ → Made → Type 0) (given : List ℕ) (r : Made) → Makes schema (shape of) given r → OfType Makes schema (map shape types) i given r
  made_of Makes given r made = subst (λ (o : Option Shape). IfSome o (λ T. Makes schema T given r)) (sym there) made
