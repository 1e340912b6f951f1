-- What holds by the plan of a type holds by its schema.
use Rattle.std.proofs.Common.{◌≡◌, ◌<◌, [], ◌∷◌, Ok, refl, sym, ap, ◌∙◌, subst, arith}
use Rattle.std.proofs.lemmas.Option.{same_Some}
use Rattle.tl_schema.specs.Types.{Shape}
use Rattle.tl_schema.specs.Schemas.{Declared}
use Rattle.tl_schema.specs.Formed.{IsFormed}
use Rattle.tl_plan.specs.Plans.{InstanceView, PlanView, answer}
use Rattle.tl_plan.specs.PlanLaws.{IsInstance}
use Rattle.tl_plan.proofs.RootFacts.{roots_have_instances}

-- the plan of a type is one of the schema, and its root is an instance of the type
pub planned : (schema : Declared) (T : Shape) (p : PlanView) → answer schema (T ∷ []) ≡ Ok p → (p.schema ≡ schema) × (0 < p.roots) × IsInstance p 0 T
planned schema T p is = let of = roots_have_instances schema (T ∷ []) p (sym is) in (of.schema, omega (arith, of.count), of.roots 0 T refl)

-- an instance is one of one type
same_type : (p : PlanView) (T U : Shape) → IsInstance p 0 T → IsInstance p 0 U → T ≡ U
same_type p T U (x, at, of) (y, there, is) = sym of ∙ ap (λ (z : InstanceView). z.of) (same_Some x y (sym at ∙ there)) ∙ is

-- a formed type's plan has a formed root
pub formed_planned : (schema : Declared) (T : Shape) (p : PlanView) → answer schema (T ∷ []) ≡ Ok p → IsFormed schema T → (U : Shape) → IsInstance p 0 U → IsFormed p.schema U
formed_planned schema T p is formed U at =
    let of = planned schema T p is in
    subst (IsFormed p.schema) (same_type p T U of.2 at) (subst (λ (S : Declared). IsFormed S T) (sym of.0) formed)
