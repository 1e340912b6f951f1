-- Making a plan: instance by instance, until each type that is reached has one.
use Rattle.std.proofs.Common.{◌≡◌, ℕ, suc, ◌+◌, ◌<◌, ◌≤◌, List, [], ◌∷◌, ◌++◌, length, map, slice_get, Option, Some, Ok, Err, refl, ap, sym, ◌∙◌, subst, arith, length-append}
use Rattle.std.proofs.lemmas.List.{length-map}
use Rattle.std.proofs.lemmas.Option.{slice_get-map, slice_get_within}
use Rattle.std.specs.Option.{option_map}
use Rattle.tl_schema.specs.Types.{Shape}
use Rattle.tl_schema.specs.Schemas.{Declared}
use Rattle.tl_schema.specs.CheckedPrograms.{IsSchema}
use Rattle.tl_plan.specs.Reached.{Named, names_of, unnamed}
use Rattle.tl_plan.specs.Plans.{AreFormed, InstanceView, IsPlan, NamesAmong, PlanView, Plans, answer, instance_of, plan_of, types_of_plan}
use Rattle.tl_plan.specs.Seen.{Shows, ShowsAt}
use Rattle.tl_plan.specs.inner.Nodes.{AreBelow, type_at, types_at}
use Rattle.tl_plan.specs.inner.Walks.{AreShown, IsMade, Walk, Walks, add, add_all, expand, find_all, names_by, then_walk, walked}
use Rattle.tl_plan.specs.declared.instances.Instance.{Instance}
use Rattle.tl_plan.specs.declared.fault.PlanFault.{PlanFault}
use Rattle.tl_plan.specs.declared.fault.PlanFault.TheVariants.{TypeTooDeep, TooManyInstances, Memory}
use Rattle.tl_plan.specs.declared.fault.TheConstants.{MAX_INSTANCES}
use Rattle.tl_plan.proofs.TypeLists.{none_some, some_is}
use Rattle.tl_plan.proofs.NodeTypes.{Pushed, earlier, last, get_pushed, get_within, is_there}
use Rattle.tl_plan.proofs.Walking.{added, all_among_more, err_ok, found_all, ok_is}
use Rattle.tl_plan.proofs.WalkSteps.{instance_stays}
use Rattle.tl_plan.proofs.Agreeing.{walk_done, walk_failed}
use Rattle.tl_plan.proofs.FormedReached.{walked_formed}

-- after so many instances
pub record PlanSoFar (S : Declared) (roots : List Shape) (Ts : List Shape) (ns : List ℕ) (instances : List Instance) (i : ℕ) : Type 0 where
  pub walk : walked S roots i ≡ Ok (types_at Ts ns)
  pub below : AreBelow (length Ts) ns
  pub within : i ≤ length ns
  pub count : length instances ≡ i
  pub enough : length roots ≤ length ns
  pub shown : AreShown S (types_at Ts ns) instances

-- ---- the roots

add_all_count : (ns : List Named) (ts us : List Shape) → add_all ts ns ≡ Ok us → length us ≡ length ts + length ns
add_all_count [] ts us e = let same : length ts ≡ length us = ap length (ok_is ts us e) in omega (arith, same)
add_all_count (n ∷ ns) ts us e = by (add ts n) refl e (λ vs h. add_all_count ns vs us h)
  where
    by : (w : Walk) → add ts n ≡ w → then_walk w (λ vs. add_all vs ns) ≡ Ok us → ((vs : List Shape) → add_all vs ns ≡ Ok us → length us ≡ length vs + length ns) → length us ≡ length ts + suc (length ns)
    by (Ok vs) is h later =
        let one : length vs ≡ length ts + 1 = ap length (added ts vs n is) ∙ length-append ts (n.of ∷ []) in
        let rest = later vs h in
        omega (arith, one, rest)
    by (Err f) is h later = absurd (err_ok us f h)

pub with_roots : {A : Type 0} (S : Declared) (roots Ts Us : List Shape) (ns : List ℕ) (x : A) (P : A → Type 0) → Walks (add_all [] (unnamed S roots)) Ts Us ns (Ok x) P → PlanSoFar S roots Us ns [] 0
unfolding walked
with_roots S roots Ts Us ns x P h = record {
  walk = h.0;
  below = h.2;
  within = omega arith;
  count = refl;
  enough =
      let many : length (types_at Us ns) ≡ length (unnamed S roots) = add_all_count (unnamed S roots) [] (types_at Us ns) h.0 ∙ omega arith in
      let a = length-map ns (type_at Us) in
      let b : length (unnamed S roots) ≡ length roots = length-map {B = Named} roots (λ T. record { of = T; decl = length S.decls }) in
      omega (arith, many, a, b);
  shown = record { shown = λ k T j at there. absurd (none_some j there) };
}

pub roots_fail : {A : Type 0} (S : Declared) (roots Ts Us : List Shape) (ns : List ℕ) (e : PlanFault) (P : A → Type 0) → Walks (add_all [] (unnamed S roots)) Ts Us ns (Err e) P → Plans S roots (Err e)
unfolding walked
roots_fail S roots Ts Us ns (TypeTooDeep d) P h = sym (walk_failed S roots 0 (TypeTooDeep d) h (omega arith))
roots_fail S roots Ts Us ns TooManyInstances P h = sym (walk_failed S roots 0 TooManyInstances h (omega arith))
roots_fail S roots Ts Us ns Memory P h = tt

-- ---- one instance

module _ (S : Declared) (roots : List Shape) (Ts : List Shape) (ns : List ℕ) (instances : List Instance) (i n : ℕ) (so_far : PlanSoFar S roots Ts ns instances i) (at : slice_get ns i ≡ Some n) where
  T : Shape
  T = type_at Ts n

  ts : List Shape
  ts = types_at Ts ns

  type_here : slice_get (types_at Ts ns) i ≡ Some (type_at Ts n)
  type_here = slice_get-map (type_at Ts) ns i ∙ ap (option_map (type_at Ts)) at

  step : (w : Walk) → find_all (types_at Ts ns) (names_of S (type_at Ts n)) ≡ w → walked S roots (i + 1) ≡ w
  unfolding walked
  step w e =
      let one : i + 1 ≡ suc i = omega arith in
      ap (walked S roots) one ∙ ap (λ (v : Walk). then_walk v (expand S i)) so_far.walk ∙ ap (λ (o : Option Shape). find_all (types_at Ts ns) (names_by S o)) type_here ∙ e

  pub next_instance : (Us : List Shape) (ms : List ℕ) (x : Instance) → Walks (find_all (types_at Ts ns) (names_of S (type_at Ts n))) Ts Us ms (Ok x) (λ j. Shows (instance_of S (types_at Us ms) (type_at Ts n)) j) → PlanSoFar S roots Us ms (instances ++ x ∷ []) (i + 1)
  next_instance Us ms x h =
      let found = found_all (names_of S (type_at Ts n)) (types_at Ts ns) (types_at Us ms) h.0 in
      let longer : length ms ≡ length ns + length found.more =
      sym (length-map ms (type_at Us)) ∙ ap length found.starts ∙ length-append (types_at Ts ns) found.more ∙ ap (λ (k : ℕ). k + length found.more) (length-map ns (type_at Ts)) in
      let inside = slice_get_within ns i n at in
      let before = so_far.enough in
      let many = so_far.count in
      record {
        walk = step (Ok (types_at Us ms)) h.0;
        below = h.2;
        within = omega (arith, inside, longer);
        count = length-append instances (x ∷ []) ∙ ap (λ (k : ℕ). k + 1) many;
        enough = omega (arith, before, longer);
        shown = record { shown = λ k U j here there. shown_at found.more found.starts found.each k U j here (get_pushed instances x k j there) };
      }
    where
      shown_at : (more : List Shape) → types_at Us ms ≡ types_at Ts ns ++ more → NamesAmong S (types_at Us ms) (type_at Ts n) → (k : ℕ) (U : Shape) (j : Instance) → slice_get (types_at Us ms) k ≡ Some U → Pushed instances x k j → Shows (instance_of S (types_at Us ms) U) j × NamesAmong S (types_at Us ms) U
      shown_at more starts names k U j here (earlier there) =
          let less : k < length (types_at Ts ns) = (let a = slice_get_within instances k j there in let b = so_far.count in let c = so_far.within in let d = length-map ns (type_at Ts) in omega (arith, a, b, c, d)) in
          let old = is_there (types_at Ts ns) k less in
          let same : old.0 ≡ U = some_is old.0 U (sym (get_within (types_at Ts ns) more k old.0 old.1) ∙ ap (λ (us : List Shape). slice_get us k) (sym starts) ∙ here) in
          let p = so_far.shown.shown k U j (old.1 ∙ ap Some same) there in (
            subst (λ (v : InstanceView). Shows v j) (sym (ap (λ (us : List Shape). instance_of S us U) starts ∙ instance_stays S (types_at Ts ns) more U p.1)) p.0,
            subst (λ (us : List Shape). NamesAmong S us U) (sym starts) (all_among_more (names_of S U) (types_at Ts ns) more p.1),
          )
      shown_at more starts names k U j here (last count is) =
          let index : k ≡ i = count ∙ so_far.count in
          let same : type_at Ts n ≡ U = some_is (type_at Ts n) U (sym (get_within (types_at Ts ns) more i (type_at Ts n) type_here) ∙ ap (λ (us : List Shape). slice_get us i) (sym starts) ∙ ap (slice_get (types_at Us ms)) (sym index) ∙ here) in
          subst (λ (V : Shape). Shows (instance_of S (types_at Us ms) V) j × NamesAmong S (types_at Us ms) V) same (subst (Shows (instance_of S (types_at Us ms) (type_at Ts n))) (sym is) h.3, names)

  pub instance_fails : {A : Type 0} (Us : List Shape) (ms : List ℕ) (e : PlanFault) (P : A → Type 0) → length ns ≤ MAX_INSTANCES → Walks (find_all (types_at Ts ns) (names_of S (type_at Ts n))) Ts Us ms (Err e) P → Plans S roots (Err e)
  instance_fails Us ms (TypeTooDeep d) P few h = let inside = slice_get_within ns i n at in sym (walk_failed S roots (i + 1) (TypeTooDeep d) (step (Err (TypeTooDeep d)) h) (omega (arith, inside, few)))
  instance_fails Us ms TooManyInstances P few h = let inside = slice_get_within ns i n at in sym (walk_failed S roots (i + 1) TooManyInstances (step (Err TooManyInstances) h) (omega (arith, inside, few)))
  instance_fails Us ms Memory P few h = tt

-- ---- the plan

types_again : (S : Declared) (us ts : List Shape) → map (λ (x : InstanceView). x.of) (map (instance_of S us) ts) ≡ ts
types_again S us [] = refl
types_again S us (T ∷ ts) = ap (λ (vs : List Shape). T ∷ vs) (types_again S us ts)

module _ (S : Declared) (roots : List Shape) (Ts : List Shape) (ns : List ℕ) (instances : List Instance) (i : ℕ) (so_far : PlanSoFar S roots Ts ns instances i) (past : length ns ≤ i) (few : length ns ≤ MAX_INSTANCES) where
  many : length (types_at Ts ns) ≡ length ns
  many = length-map ns (type_at Ts)

  pub few_roots : length roots ≤ MAX_INSTANCES
  few_roots = let a = so_far.enough in omega (arith, a, few)

  pub answered : answer S roots ≡ Ok (plan_of S (length roots) (types_at Ts ns))
  answered =
      let a = many in
      let b = so_far.within in
      walk_done S roots i (types_at Ts ns) so_far.walk (omega (arith, a, past)) (omega (arith, b, few))

  all_named : (k : ℕ) (T : Shape) → slice_get (types_at Ts ns) k ≡ Some T → NamesAmong S (types_at Ts ns) T
  all_named k T at =
      let a = many in
      let b = so_far.count in
      let less = slice_get_within (types_at Ts ns) k T at in
      let j = is_there instances k (omega (arith, a, b, past, less)) in
      (so_far.shown.shown k T j.0 at j.1).1

  is_plan : IsSchema S → AreFormed S roots → (c : ℕ) → c ≡ length roots → IsPlan (plan_of S c (types_at Ts ns))
  is_plan good formed c same =
      let again : types_of_plan (plan_of S c (types_at Ts ns)) ≡ types_at Ts ns = types_again S (types_at Ts ns) (types_at Ts ns) in
      let count : length (map (instance_of S (types_at Ts ns)) (types_at Ts ns)) ≡ length ns = length-map (types_at Ts ns) (instance_of S (types_at Ts ns)) ∙ many in
      let a = so_far.enough in
      record {
        schema = good;
        few = omega (arith, count, few);
        roots = omega (arith, count, a, same);
        instances = ap (λ (us : List Shape). map (instance_of S us) us) (sym again);
        closed = subst (λ (us : List Shape). (k : ℕ) (T : Shape) → slice_get us k ≡ Some T → NamesAmong S us T) (sym again) all_named;
        formed = λ k T at. walked_formed S good roots formed i (types_at Ts ns) so_far.walk k T (ap (λ (us : List Shape). slice_get us k) (sym again) ∙ at);
      }

  pub is_made : IsSchema S → AreFormed S roots → (c : ℕ) → c ≡ length roots → IsMade S c (types_at Ts ns) instances
  is_made good formed c same =
      let a = many in
      let b = so_far.count in
      let d = so_far.within in
      record { plan = is_plan good formed c same; count = omega (arith, a, b, d, past); shown = so_far.shown }

pub shown_instance : (S : Declared) (roots : ℕ) (ts : List Shape) (instances : List Instance) (p : PlanView) → plan_of S roots ts ≡ p → IsMade S roots ts instances → (i : ℕ) (x : Instance) → slice_get instances i ≡ Some x → ShowsAt p.instances i x
shown_instance S roots ts instances p same made i x at =
    let count = made.count in
    let inside = slice_get_within instances i x at in
    let T = is_there ts i (omega (arith, count, inside)) in (
      instance_of S ts T.0,
      ap (λ (q : PlanView). slice_get q.instances i) (sym same) ∙ slice_get-map (instance_of S ts) ts i ∙ ap (option_map (instance_of S ts)) T.1,
      (made.shown.shown i T.0 x T.1 at).0,
    )
