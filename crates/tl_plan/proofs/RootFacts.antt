-- The first types that are reached are the roots.
use Rattle.std.proofs.Common.{◌≡◌, ℕ, zero, suc, ◌+◌, List, [], ◌∷◌, ◌++◌, length, take, slice_get, Option, Some, None, Ok, Err, Bool, true, false, refl, ap, sym, ◌∙◌, append_assoc, nat_lt, if◌then◌else◌}
use Rattle.std.specs.Option.{option_map}
use Rattle.std.proofs.lemmas.List.{append-nil, map-append}
use Rattle.std.proofs.lemmas.Option.{slice_get-map}
use Rattle.tl_schema.specs.Types.{Shape}
use Rattle.tl_schema.specs.Schemas.{Declared}
use Rattle.tl_plan.specs.Types.{is_among}
use Rattle.tl_plan.specs.Reached.{Named, all_reached, first_too_deep, meet, meet_all, named_by, reached, types_in, unnamed}
use Rattle.tl_plan.specs.Plans.{PlanView, answer, answer_by, instance_of, plan_of}
use Rattle.tl_plan.specs.PlanLaws.{RootsHaveInstances}
use Rattle.tl_plan.specs.declared.fault.PlanFault.TheVariants.{TooManyInstances}
use Rattle.tl_plan.specs.declared.fault.TheConstants.{MAX_INSTANCES}
use Rattle.tl_plan.proofs.NodeTypes.{get_within}
use Rattle.tl_plan.proofs.Walking.{err_ok, ok_is}

abbrev BeginsWith : List Named → List Named → Type 0
BeginsWith ms ns = (more : List Named) × (ms ≡ ns ++ more)

begins_then : (ks ms ns : List Named) → BeginsWith ks ms → BeginsWith ms ns → BeginsWith ks ns
begins_then ks ms ns p q = (q.0 ++ p.0, p.1 ∙ ap (λ (xs : List Named). xs ++ p.0) q.1 ∙ append_assoc ns q.0 p.0)

meet_begins : (ns : List Named) (n : Named) → BeginsWith (meet ns n) ns
meet_begins ns n = by (is_among n.of (types_in ns))
  where
    by : (b : Bool) → BeginsWith (if b then ns else ns ++ n ∷ []) ns
    by true = ([], sym (append-nil ns))
    by false = (n ∷ [], refl)

meet_all_begins : (ms ns : List Named) → BeginsWith (meet_all ns ms) ns
meet_all_begins [] ns = ([], sym (append-nil ns))
meet_all_begins (m ∷ ms) ns = begins_then (meet_all (meet ns m) ms) (meet ns m) ns (meet_all_begins ms (meet ns m)) (meet_begins ns m)

reached_begins : (S : Declared) (roots : List Shape) (n : ℕ) → BeginsWith (reached S roots n) (unnamed S roots)
unfolding reached
reached_begins S roots zero = ([], sym (append-nil (unnamed S roots)))
reached_begins S roots (suc n) =
    begins_then (reached S roots (suc n)) (reached S roots n) (unnamed S roots) (meet_all_begins (named_by S (slice_get (reached S roots n) n)) (reached S roots n)) (reached_begins S roots n)

types_again : (S : Declared) (roots : List Shape) → types_in (unnamed S roots) ≡ roots
types_again S [] = refl
types_again S (T ∷ roots) = ap (λ (Us : List Shape). T ∷ Us) (types_again S roots)

plan_is : (S : Declared) (count : ℕ) (ns : List Named) (p : PlanView) (o : Option ℕ) → answer_by S count ns o ≡ Ok p → plan_of S count (types_in ns) ≡ p
plan_is S count ns p (Some d) e = absurd (err_ok p _ e)
plan_is S count ns p None e = by (nat_lt MAX_INSTANCES (length ns)) e
  where
    by : (b : Bool) → (if b then Err TooManyInstances else Ok (plan_of S count (types_in ns))) ≡ Ok p → plan_of S count (types_in ns) ≡ p
    by true h = absurd (err_ok p _ h)
    by false h = ok_is (plan_of S count (types_in ns)) p h

answered_plan : (S : Declared) (roots : List Shape) (p : PlanView) → answer S roots ≡ Ok p → plan_of S (length roots) (types_in (all_reached S roots)) ≡ p
unfolding answer
answered_plan S roots p e = plan_is S (length roots) (all_reached S roots) p (first_too_deep (take (MAX_INSTANCES + 1) (all_reached S roots))) e

all_begin : (S : Declared) (roots : List Shape) → BeginsWith (all_reached S roots) (unnamed S roots)
unfolding all_reached
all_begin S roots = reached_begins S roots (MAX_INSTANCES + 1)

pub roots_have_instances : RootsHaveInstances
roots_have_instances S roots p answered =
    let is = answered_plan S roots p (sym answered) in
    let begins = all_begin S roots in
    let types : types_in (all_reached S roots) ≡ roots ++ types_in begins.0 =
    ap types_in begins.1 ∙ map-append (λ (n : Named). n.of) (unnamed S roots) begins.0 ∙ ap (λ (Us : List Shape). Us ++ types_in begins.0) (types_again S roots) in
    record {
      schema = sym (ap (λ (q : PlanView). q.schema) is);
      count = sym (ap (λ (q : PlanView). q.roots) is);
      roots = λ k T at. (
        instance_of S (types_in (all_reached S roots)) T,
        sym (ap (λ (q : PlanView). slice_get q.instances k) is) ∙ slice_get-map (instance_of S (types_in (all_reached S roots))) (types_in (all_reached S roots)) k
            ∙ ap (option_map (instance_of S (types_in (all_reached S roots)))) (ap (λ (Us : List Shape). slice_get Us k) types ∙ get_within roots (types_in begins.0) k T at),
        refl,
      );
    }
