-- The roots are reached in order.
use Rattle.std.proofs.Common.{◌≡◌, ℕ, ◌<◌, List, [], ◌∷◌, ◌++◌, length, map, slice_get, Some, Ok, Err, refl, ap, sym, ◌∙◌}
use Rattle.std.proofs.lemmas.List.{map-append}
use Rattle.std.proofs.lemmas.Option.{slice_get_within}
use Rattle.tl_schema.specs.Types.{Shape}
use Rattle.tl_schema.specs.Schemas.{Declared}
use Rattle.tl_plan.specs.Reached.{Named}
use Rattle.tl_plan.specs.inner.Nodes.{AreBelow, Grows, type_at, types_at}
use Rattle.tl_plan.specs.inner.Walks.{Walk, Walks, add, add_all, then_walk}
use Rattle.tl_plan.specs.declared.fault.PlanFault.{PlanFault}
use Rattle.tl_plan.proofs.NodeTypes.{grows_below, grows_same, grows_then, grows_types, type_got}
use Rattle.tl_plan.proofs.Walking.{add_all_append}
use Rattle.tl_plan.proofs.WalkSteps.{Holds, fails}

abbrev pub root_named : Declared → Shape → Named
root_named S T = record { of = T; decl = length S.decls }

-- after these roots
pub record RootsSoFar (S : Declared) (before : List Shape) (first : List ℕ) (roots : List Shape) (Ts : List Shape) (ns : List ℕ) : Type 0 where
  pub walk : add_all (types_at before first) (map (root_named S) roots) ≡ Ok (types_at Ts ns)
  pub holds : Holds before Ts ns

pub no_roots : (S : Declared) (before : List Shape) (first : List ℕ) → AreBelow (length before) first → RootsSoFar S before first [] before first
no_roots S before first below = record { walk = refl; holds = record { grows = grows_same before; below = below } }

module _ (S : Declared) (before : List Shape) (first : List ℕ) (roots : List Shape) (T : Shape) (Ts : List Shape) (ns : List ℕ) (so_far : RootsSoFar S before first roots Ts ns) where
  module _ (Us : List Shape) (grows : Grows Ts Us) (n : ℕ) (at : slice_get Us n ≡ Some T) where
    pub root_within : n < length Us
    root_within = slice_get_within Us n T at

    pub root_below : AreBelow (length Us) ns
    root_below = grows_below Ts Us ns grows so_far.holds.below

    same_types : types_at Us ns ≡ types_at Ts ns
    same_types = grows_types Ts Us ns grows so_far.holds.below

    went : add_all (types_at before first) (map (root_named S) roots) ≡ Ok (types_at Us ns)
    went = so_far.walk ∙ ap Ok (sym same_types)

    as_named : (w : Walk) → add (types_at Us ns) (record { of = type_at Us n; decl = length S.decls }) ≡ w → add (types_at Us ns) (root_named S T) ≡ w
    as_named w e = ap (λ (U : Shape). add (types_at Us ns) (root_named S U)) (sym (type_got Us n T at)) ∙ e

    after_these : (rest : List Shape) → add_all (types_at before first) (map (root_named S) (roots ++ T ∷ rest)) ≡ then_walk (add (types_at Us ns) (root_named S T)) (λ us. add_all us (map (root_named S) rest))
    after_these rest =
        ap (add_all (types_at before first)) (map-append (root_named S) roots (T ∷ rest)) ∙ add_all_append (types_at before first) (map (root_named S) roots) (map (root_named S) (T ∷ rest))
        ∙ ap (λ (w : Walk). then_walk w (λ us. add_all us (map (root_named S) (T ∷ rest)))) went

    pub next_root : (ms : List ℕ) (k : ℕ) (P : ℕ → Type 0) → Walks (add (types_at Us ns) (record { of = type_at Us n; decl = length S.decls })) Us Us ms (Ok k) P → RootsSoFar S before first (roots ++ T ∷ []) Us ms
    next_root ms k P h = record {
      walk = after_these [] ∙ ap (λ (w : Walk). then_walk w (λ us. add_all us [])) (as_named (Ok (types_at Us ms)) h.0);
      holds = record { grows = grows_then before Ts Us so_far.holds.grows grows; below = h.2 };
    }

    pub root_fails : {B : Type 0} (rest : List Shape) (after : List Shape) (ms js : List ℕ) (e : PlanFault) (P : ℕ → Type 0) (Q : B → Type 0) → Walks (add (types_at Us ns) (record { of = type_at Us n; decl = length S.decls })) Us Us ms (Err e) P → Walks (add_all (types_at before first) (map (root_named S) (roots ++ T ∷ rest))) before after js (Err e) Q
    root_fails rest after ms js e P Q h =
        fails (add (types_at Us ns) (record { of = type_at Us n; decl = length S.decls })) (add_all (types_at before first) (map (root_named S) (roots ++ T ∷ rest))) Us Us before after ms js e P Q h
        (λ stopped. after_these rest ∙ ap (λ (w : Walk). then_walk w (λ us. add_all us (map (root_named S) rest))) (as_named (Err e) stopped))
