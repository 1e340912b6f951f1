-- The roots of a profile's plan are types with values.
use Rattle.std.proofs.Common.{◌≡◌, ℕ, zero, suc, ◌<◌, List, [], ◌∷◌, length, Some, Ok, Err, refl, sym, ap, ◌∙◌, subst, inl, inr, arith}
use Rattle.std.specs.Prelude.{slice_get, IsTrue}
use Rattle.tl_names.specs.Indexes.{types_of}
use Rattle.tl_schema.specs.Types.{Shape, boxed, no_shapes}
use Rattle.tl_schema.specs.Schemas.{Declared}
use Rattle.tl_schema.specs.CheckedPrograms.{IsSchema}
use Rattle.tl_schema.specs.AskedTypes.{asker, type_causes, IsTypeText, PassesTypeBy}
use Rattle.tl_schema.specs.Formed.{IsFormed}
use Rattle.tl_plan.specs.Plans.{AreFormed, PlanView, Plans, answer}
use Rattle.tl_plan.specs.declared.fault.PlanFault.{PlanFault}
use Rattle.tl_plan.specs.declared.fault.PlanFault.TheVariants.{Memory, TooManyInstances, TypeTooDeep}
use Rattle.tl_plan.specs.PlanLaws.{IsPlanOf}
use Rattle.tl_plan.proofs.RootFacts.{roots_have_instances}
use Rattle.wire_forms.specs.declared.numbers.TheConstants.{FRAME_TYPE, STEP_TYPE, CLIENT_TYPE, PUSH, STEP_DATE, CLIENT}
use Rattle.wire_forms.specs.Forms.{forms, type_names, constructs}
use Rattle.wire_profile.specs.Indexes.{ProfileView, number_at, result_shape}
use Rattle.wire_profile.specs.Profiles.{IsHead, AreHeads, IsProfile, root_shapes}
use Rattle.wire_profile.proofs.FormTable.{member_form, some_is}
use Rattle.wire_profile.proofs.PlanLimits.{has_plan}
use Rattle.wire_profile.proofs.ProfileFacts.{is_member}
use Rattle.tl_schema.proofs.AskedFormed.{text_formed}

head_at : (S : Declared) (names : List (List ℕ)) (hs : List ℕ) → AreHeads S names hs → (h : ℕ) (name : List ℕ) → slice_get names h ≡ Some name → IsHead S name (number_at hs h)
head_at S [] hs all h name at = absurd cc
head_at S (n ∷ ns) [] all h name at = absurd all
head_at S (n ∷ ns) (g ∷ gs) all zero name at = subst (λ (x : List ℕ). IsHead S x g) (some_is n name at) all.0
head_at S (n ∷ ns) (g ∷ gs) all (suc h) name at = head_at S ns gs all.1 h name at

known_formed : (S : Declared) → IsSchema S → (name : List ℕ) (h : ℕ) → IsHead S name h → h < length (types_of S.program) → IsFormed S (boxed h no_shapes)
known_formed S good name h (inl is) lt = text_formed S good name (boxed h no_shapes) is
known_formed S good name h (inr (none, other)) lt = absurd (omega (arith, none, lt))

-- a type that has a form is formed
type_of_form : (p : ProfileView) → IsProfile p → (h k : ℕ) (name : List ℕ) → slice_get type_names h ≡ Some name → IsTrue (constructs h k) → IsFormed p.schema (result_shape p (Some h))
type_of_form p good h k name at is =
    let f = member_form h k is in
    let m = is_member p good h k f.0 f.1 in
    known_formed p.schema good.schema name (number_at p.heads h) (head_at p.schema type_names p.heads good.heads h name at) m.1.known

frame_formed : (p : ProfileView) → IsProfile p → IsFormed p.schema (result_shape p (Some FRAME_TYPE))
unfolding forms type_names
frame_formed p good = type_of_form p good FRAME_TYPE PUSH _ refl refl

step_formed : (p : ProfileView) → IsProfile p → IsFormed p.schema (result_shape p (Some STEP_TYPE))
unfolding forms type_names
step_formed p good = type_of_form p good STEP_TYPE STEP_DATE _ refl refl

client_formed : (p : ProfileView) → IsProfile p → IsFormed p.schema (result_shape p (Some CLIENT_TYPE))
unfolding forms type_names
client_formed p good = type_of_form p good CLIENT_TYPE CLIENT _ refl refl

pub roots_formed : (p : ProfileView) → IsProfile p → (S : Declared) (roots : List Shape) → p.schema ≡ S → roots ≡ root_shapes p → AreFormed S roots
roots_formed p good S roots same are k T at =
    subst (λ (U : Declared). IsFormed U T) same (by k (sym (ap (λ (Ts : List Shape). slice_get Ts k) are) ∙ at))
  where
    by : (k : ℕ) → slice_get (root_shapes p) k ≡ Some T → IsFormed p.schema T
    by zero e = subst (IsFormed p.schema) (some_is _ T e) (frame_formed p good)
    by (suc zero) e = subst (IsFormed p.schema) (some_is _ T e) (step_formed p good)
    by (suc (suc zero)) e = subst (IsFormed p.schema) (some_is _ T e) (client_formed p good)
    by (suc (suc (suc k))) e = absurd cc

err_ok : (f : PlanFault) (q : PlanView) → Err f ≡ Ok q → ⊥
err_ok f q e = cc

-- the plan of these roots
pub plan_done : (p : ProfileView) (S : Declared) (roots : List Shape) (q : PlanView) → p.schema ≡ S → roots ≡ root_shapes p → Plans S roots (Ok q) → IsPlanOf p.schema (root_shapes p) q
plan_done p S roots q same are is =
    subst (λ (T : Declared). IsPlanOf T (root_shapes p) q) (sym same) (subst (λ (Ts : List Shape). IsPlanOf S Ts q) are (roots_have_instances S roots q is))

-- no fault but out of memory is answered
pub never_refused : (p : ProfileView) → IsProfile p → (S : Declared) (roots : List Shape) (f : PlanFault) → p.schema ≡ S → roots ≡ root_shapes p → (f ≡ Memory → ⊥) → Plans S roots (Err f) → ⊥
never_refused p good S roots (TypeTooDeep d) same are other is = err_ok (TypeTooDeep d) _ (is ∙ ap (λ (Ts : List Shape). answer S Ts) are ∙ ap (λ (T : Declared). answer T (root_shapes p)) (sym same) ∙ has_plan p good)
never_refused p good S roots TooManyInstances same are other is = err_ok TooManyInstances _ (is ∙ ap (λ (Ts : List Shape). answer S Ts) are ∙ ap (λ (T : Declared). answer T (root_shapes p)) (sym same) ∙ has_plan p good)
never_refused p good S roots Memory same are other is = other refl
