-- A type has one plan, or one cause why it has none.
use Rattle.std.proofs.Common.{◌≡◌, ◌⊎◌, inl, inr, ℕ, List, [], ◌∷◌, Bool, true, false, Option, Some, None, Result, Ok, Err, refl, sym, ap, ◌∙◌}
use Rattle.std.specs.Prelude.{◌+◌, length, nat_lt, take, if◌then◌else◌}
use Rattle.tl_plan.specs.Plans.{PlanView, Plans, answer, answer_by}
use Rattle.tl_plan.specs.Reached.{Named, all_reached, first_too_deep}
use Rattle.tl_plan.specs.declared.fault.TheConstants.{MAX_INSTANCES}
use Rattle.tl_plan.specs.declared.fault.PlanFault.{PlanFault}
use Rattle.tl_plan.specs.declared.fault.PlanFault.TheVariants as planning
use Rattle.tl_schema.specs.Types.{Shape}
use Rattle.tl_schema.specs.Schemas.{Declared}
use Rattle.schema_files.specs.Causes.{PlanCause}
use Rattle.schema_files.specs.Causes.{TypeTooDeep, TooManyInstances}
use Rattle.schema_files.specs.Lines.{plan_line}
use Rattle.schema_files.specs.Loaded.{HasPlan, PlanRefused}
use Rattle.schema_files.specs.Parts.{TellsPlan}
use Rattle.schema_files.specs.inner.Tellings.{TellsNoPlan}
use Rattle.outside.specs.declared.stop.LoadError.{LoadError}
use Rattle.outside.specs.Loading.{Refuses}
use Rattle.outside.proofs.Loaded.{refuses_as, memory_refuses}

-- the fault for a cause
abbrev fault_of : PlanCause → PlanFault
fault_of (TypeTooDeep decl) = planning.TypeTooDeep decl
fault_of TooManyInstances = planning.TooManyInstances

module _ (schema : Declared) (T : Shape) where
  refused_as : (c : PlanCause) → PlanRefused schema T c → answer schema (T ∷ []) ≡ Err (fault_of c)
  refused_as (TypeTooDeep decl) r = r
  refused_as TooManyInstances r = r

  one_cause : (c d : PlanCause) → ◌≡◌ {A = Result PlanView PlanFault} (Err (fault_of c)) (Err (fault_of d)) → c ≡ d
  one_cause (TypeTooDeep a) (TypeTooDeep b) is = let same : planning.TypeTooDeep a ≡ planning.TypeTooDeep b = cc in cc
  one_cause (TypeTooDeep a) TooManyInstances is = absurd cc
  one_cause TooManyInstances (TypeTooDeep b) is = absurd cc
  one_cause TooManyInstances TooManyInstances is = refl

  pub one_plan_cause : (c d : PlanCause) → PlanRefused schema T c → PlanRefused schema T d → c ≡ d
  one_plan_cause c d r s = one_cause c d (sym (refused_as c r) ∙ refused_as d s)

  pub never_plan : (c : PlanCause) → HasPlan schema T → PlanRefused schema T c → ⊥
  never_plan c (p, is) r = let both : ◌≡◌ {A = Result PlanView PlanFault} (Ok p) (Err (fault_of c)) = sym is ∙ refused_as c r in cc

  -- a plan, or a cause
  abbrev IsAnswered : Result PlanView PlanFault → Type 0
  IsAnswered r = ((p : PlanView) × (r ≡ Ok p)) ⊎ ((c : PlanCause) × (r ≡ Err (fault_of c)))

  refused_so : (c : PlanCause) → answer schema (T ∷ []) ≡ Err (fault_of c) → PlanRefused schema T c
  refused_so (TypeTooDeep decl) is = is
  refused_so TooManyInstances is = is

  answered_within : (b : Bool) (p : PlanView) → IsAnswered (if b then Err planning.TooManyInstances else Ok p)
  answered_within true p = inr (TooManyInstances, refl)
  answered_within false p = inl (p, refl)

  answered_by : (roots : ℕ) (ns : List Named) (o : Option ℕ) → IsAnswered (answer_by schema roots ns o)
  answered_by roots ns (Some decl) = inr (TypeTooDeep decl, refl)
  answered_by roots ns None = answered_within (nat_lt MAX_INSTANCES (length ns)) _

  answered : IsAnswered (answer schema (T ∷ []))
  unfolding answer
  answered = answered_by 1 (all_reached schema (T ∷ [])) (first_too_deep (take (MAX_INSTANCES + 1) (all_reached schema (T ∷ []))))

  pub plan_or_refused : HasPlan schema T ⊎ ((c : PlanCause) × PlanRefused schema T c)
  plan_or_refused = elim answered [ inl plan ↦ inl plan | inr (c, is) ↦ inr (c, refused_so c is) ]

-- ---- what is told of a type without a plan

pub plan_told : (schema : Declared) (T : Shape) (roots : List Shape) (e : PlanFault) (u : LoadError) → roots ≡ T ∷ [] → Plans schema roots (Err e) → TellsNoPlan e u → Refuses (TellsPlan schema T) u
plan_told schema T roots (planning.TypeTooDeep decl) u one is =
    refuses_as (λ line. line ≡ plan_line (TypeTooDeep decl)) (TellsPlan schema T) u (λ line told. (TypeTooDeep decl, sym (is ∙ ap (answer schema) one), told))
plan_told schema T roots planning.TooManyInstances u one is =
    refuses_as (λ line. line ≡ plan_line TooManyInstances) (TellsPlan schema T) u (λ line told. (TooManyInstances, sym (is ∙ ap (answer schema) one), told))
plan_told schema T roots planning.Memory u one is = memory_refuses (TellsPlan schema T) u
