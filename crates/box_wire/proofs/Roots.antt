-- What a profile's plan reads and spells is of its schema.
use Rattle.std.proofs.Common.{◌≡◌, ℕ, Some, sym, subst}
use Rattle.std.specs.Prelude.{slice_get}
use Rattle.tl_schema.specs.Types.{Shape}
use Rattle.tl_schema.specs.Schemas.{Declared}
use Rattle.tl_schema.specs.Formed.{IsFormed}
use Rattle.tl_plan.specs.Plans.{PlanView}
use Rattle.tl_plan.specs.PlanLaws.{IsInstance, IsPlanOf}
use Rattle.wire_profile.specs.Indexes.{ProfileView}
use Rattle.wire_profile.specs.Profiles.{root_shapes}

-- what holds of each type of a root, in the plan's schema, holds in the profile's
pub of_root : (p : ProfileView) (q : PlanView) → IsPlanOf p.schema (root_shapes p) q → (k : ℕ) (T : Shape) → slice_get (root_shapes p) k ≡ Some T → IsFormed p.schema T → (P : Declared → Shape → Type 0)
    → ((U : Shape) → IsInstance q k U → IsFormed q.schema U → P q.schema U) → P p.schema T
of_root p q plan k T at formed P all = subst (λ (S : Declared). P S T) plan.schema (all T (plan.roots k T at) (subst (λ (S : Declared). IsFormed S T) (sym plan.schema) formed))
