-- What is made of a schema, a type and an input, and that each of these can go on to its end.
use Rattle.std.proofs.Common.{◌≡◌, ℕ, List, [], ◌∷◌, ◌++◌, Option, Some, None, Ok, Err, sym, subst, inl, inr}
use Rattle.tl_base.specs.declared.host.Out.{Out}
use Rattle.tl_schema.specs.AskedTypes.{IsTypeText}
use Rattle.tl_plan.specs.Plans.{PlanView, answer}
use Rattle.tl_schema.specs.CheckedPrograms.{IsSchema}
use Rattle.tl_schema.specs.Formed.{IsFormed}
use Rattle.tl_schema.specs.Schemas.{Declared}
use Rattle.tl_schema.specs.Types.{Shape}
use Rattle.outside.specs.Answer.{Answer, refused}
use Rattle.outside.specs.Jobs.{of_fault}
use Rattle.outside.specs.Loading.{Refuses}
use Rattle.outside.specs.declared.status.Status.{Status}
use Rattle.outside.specs.declared.stop.LoadError.{LoadError}
use Rattle.outside.specs.declared.stop.LoadError.TheVariants as load_error
use Rattle.outside.specs.Events.{Event, HostState}
use Rattle.outside.specs.Printing.{Makes, Prints, PrintsMade}
use Rattle.outside.specs.Begun.{DidIn}
use Rattle.outside.specs.Steps.{Step, Begins}
use Rattle.outside.proofs.Growing.{did_more, did_none}
use Rattle.outside.proofs.Piecewise.{can_tell}
use Rattle.outside.proofs.Printed.{can_print}
use Rattle.schema_files.specs.Lines.{schema_line, type_line, plan_line}
use Rattle.schema_files.specs.Loaded.{IsSchemaText}
use Rattle.schema_files.specs.Parts.{ReadsSchema, PlansType, TellsSchema, TellsType, TellsPlan}
use Rattle.schema_files.proofs.OneSchemaText.{schema_or_refused}
use Rattle.schema_files.proofs.OneTypeName.{type_or_refused}
use Rattle.schema_files.proofs.Planned.{planned as made_plan, formed_planned}
use Rattle.schema_files.proofs.TypePlans.{plan_or_refused}
use Rattle.codec_rooms.specs.Typed.{OfSchema, OfType, OfText, no_schema, schema_of, OfPlan, no_plan, planned, OfAsked, no_type, typed, after_schema}
use Rattle.codec_rooms.specs.inner.Purposes.{IsPlanOf}

-- what is told of something that is refused is an answer of this kind
pub refused_made : (Is : Answer → Type 0) (Tells : List ℕ → Type 0) (u : LoadError) → ((line : List ℕ) → Tells line → Is (refused line)) → Refuses Tells u → Makes Is (of_fault u)
refused_made Is Tells (load_error.Refused line) into h = into line.items h
refused_made Is Tells load_error.ReadFault into h = absurd h
refused_made Is Tells load_error.Memory into h = tt

-- a step does what another can do, with the same answer
pub did_as : {A : Type 0} {outs : List Out} (S W : Step A) (p q : HostState) (answer : Option A) → ((t : List Event) (a : A) → S t a → W t a) → DidIn outs S p q answer → DidIn outs W p q answer
did_as S W p q (Some a) into h = record { trace = h.trace; grew = h.grew; holds = into h.trace a h.holds }
did_as S W p q None into h =
    record { trace = h.trace; grew = h.grew; holds = record { rest = h.holds.rest; answer = h.holds.answer; whole = into (h.trace ++ h.holds.rest) h.holds.answer h.holds.whole; only = h.holds.only } }

-- a refusal that is printed, or out of memory
pub refusal_done : {outs : List Out} (W : Step Status) (Tells : List ℕ → Type 0) (u : LoadError) (p q : HostState) (answer : Option Status) → Begins W []
    → ((line : List ℕ) → Tells line → (t : List Event) (status : Status) → Prints (refused line) t status → W t status) → Refuses Tells u → PrintsMade (of_fault u) p q answer → DidIn outs W p q answer
refusal_done {outs = outs} W Tells (load_error.Refused line) p q answer can into h d = did_more W p q answer (did_as (Prints (refused line.items)) W p q answer (into line.items h) d)
refusal_done W Tells load_error.ReadFault p q answer can into h d = absurd h
refusal_done {outs = outs} W Tells load_error.Memory p q answer can into h d = subst (λ (o : Option Status). DidIn outs W p q o) (sym d.0) (subst (λ (s : HostState). DidIn outs W p s None) (sym d.1) (did_none W p can))

pub begun_as : {A : Type 0} (S W : Step A) → ((t : List Event) (a : A) → S t a → W t a) → Begins S [] → Begins W []
begun_as S W into m = record { rest = m.rest; answer = m.answer; whole = into m.rest m.answer m.whole }

-- ---- a schema's text

module _ (what : List ℕ) (Rest : OfSchema) where
  module _ (can : (schema : Declared) → IsSchema schema → Begins (Rest schema) []) where
    pub can_text : (text : List ℕ) → Begins (OfText what Rest text) []
    can_text text = elim (schema_or_refused text) [
      | inl (schema, is) ↦ begun_as (Rest schema) (OfText what Rest text) (λ t status h. schema_of schema is h) (can schema is.good)
      | inr (cause, r) ↦ begun_as (Prints (refused (schema_line what cause))) (OfText what Rest text) (λ t status h. no_schema cause r h) (can_print (refused (schema_line what cause)))
    ]

    pub can_schema : (text : Option (List ℕ)) → Begins (after_schema what Rest text) []
    can_schema (Some text) = can_text text
    can_schema None = can_tell _ _

    pub text_refused : {outs : List Out} (text : List ℕ) (u : LoadError) (p q : HostState) (answer : Option Status) → ReadsSchema what text (Err u) → PrintsMade (of_fault u) p q answer
        → DidIn outs (OfText what Rest text) p q answer
    text_refused text u p q answer = refusal_done (OfText what Rest text) (TellsSchema what text) u p q answer (can_text text)
        (λ line (cause, r, is) t status h. no_schema cause r (subst (λ (l : List ℕ). Prints (refused l) t status) is h))

  pub text_read : {outs : List Out} (text : List ℕ) (schema : Declared) (p q : HostState) (answer : Option Status) → IsSchemaText text schema → DidIn outs (Rest schema) p q answer → DidIn outs (OfText what Rest text) p q answer
  text_read text schema p q answer is = did_as (Rest schema) (OfText what Rest text) p q answer (λ t status h. schema_of schema is h)

-- ---- a type, and its plan

module _ (Rest : OfType) (schema : Declared) (s : Shape) where
  pub can_plan : Begins (Rest schema s) [] → Begins (OfPlan Rest s schema) []
  can_plan can = elim (plan_or_refused schema s) [
    | inl has ↦ begun_as (Rest schema s) (OfPlan Rest s schema) (λ t status h. planned has h) can
    | inr (cause, r) ↦ begun_as (Prints (refused (plan_line cause))) (OfPlan Rest s schema) (λ t status h. no_plan cause r h) (can_print (refused (plan_line cause)))
  ]

  pub plan_refused : {outs : List Out} → Begins (Rest schema s) [] → (u : LoadError) (p q : HostState) (answer : Option Status) → PlansType schema s (Err u) → PrintsMade (of_fault u) p q answer
      → DidIn outs (OfPlan Rest s schema) p q answer
  plan_refused can u p q answer = refusal_done (OfPlan Rest s schema) (TellsPlan schema s) u p q answer (can_plan can)
      (λ line (cause, r, is) t status h. no_plan cause r (subst (λ (l : List ℕ). Prints (refused l) t status) is h))

  module _ (plan : PlanView) (is : answer schema (s ∷ []) ≡ Ok plan) where
    pub plan_made : {outs : List Out} (p q : HostState) (answered : Option Status) → DidIn outs (Rest plan.schema s) p q answered → DidIn outs (OfPlan Rest s schema) p q answered
    plan_made {outs = outs} p q answered h =
        did_as (Rest schema s) (OfPlan Rest s schema) p q answered (λ t status g. planned (plan, is) g) (subst (λ (S : Declared). DidIn outs (Rest S s) p q answered) (made_plan schema s plan is).0 h)

-- the plan that was made is one of the type
pub plan_is : (schema : Declared) (s : Shape) (plan : PlanView) → answer schema (s ∷ []) ≡ Ok plan → IsFormed schema s → IsPlanOf plan s
plan_is schema s plan is formed = let of = made_plan schema s plan is in record { root = of.1; instance = of.2; formed = formed_planned schema s plan is formed s of.2 }

module _ (Rest : OfType) (schema : Declared) (word : List ℕ) where
  module _ (can : (s : Shape) → IsTypeText schema.program word s → Begins (Rest schema s) []) where
    pub can_asked : Begins (OfAsked Rest word schema) []
    can_asked = elim (type_or_refused schema word) [
      | inl (s, is) ↦ begun_as (Rest schema s) (OfAsked Rest word schema) (λ t status h. typed s is h) (can s is)
      | inr (cause, r) ↦ begun_as (Prints (refused (type_line cause))) (OfAsked Rest word schema) (λ t status h. no_type cause r h) (can_print (refused (type_line cause)))
    ]

    pub asked_refused : {outs : List Out} (u : LoadError) (p q : HostState) (answer : Option Status) → Refuses (TellsType schema word) u → PrintsMade (of_fault u) p q answer → DidIn outs (OfAsked Rest word schema) p q answer
    asked_refused u p q answer = refusal_done (OfAsked Rest word schema) (TellsType schema word) u p q answer can_asked
        (λ line (cause, r, is) t status h. no_type cause r (subst (λ (l : List ℕ). Prints (refused l) t status) is h))

  pub asked_meant : {outs : List Out} (s : Shape) (p q : HostState) (answer : Option Status) → IsTypeText schema.program word s → DidIn outs (Rest schema s) p q answer → DidIn outs (OfAsked Rest word schema) p q answer
  asked_meant s p q answer is = did_as (Rest schema s) (OfAsked Rest word schema) p q answer (λ t status h. typed s is h)
