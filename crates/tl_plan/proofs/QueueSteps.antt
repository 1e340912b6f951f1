-- Queues of numbers against lists of types.
use Rattle.std.proofs.Common.{◌≡◌, inl, inr, ℕ, zero, suc, ◌<◌, ◌≤◌, List, [], ◌∷◌, ◌++◌, length, Option, Some, None, Ok, Err, Result, Bool, true, false, ◌||◌, ◌&&◌, is_none, is_some, not, cond, Bor, refl, ap, ap₂, sym, ◌∙◌, subst, arith, length-append, if◌then◌else◌, nat_lt, ◌==◌, eqb-true, eq-eqb, true≢false}
use Rattle.std.specs.Option.{option_copied, option_map}
use Rattle.std.specs.Ordering.{is_eq, nat_cmp}
use Rattle.std.proofs.lemmas.Bool.Decides.{nat_tests}
use Rattle.std.proofs.lemmas.List.{length-map, map-append}
use Rattle.tl_schema.specs.Types.{Shape}
use Rattle.tl_plan.specs.Types.{index_of, is_among, is_same, levels}
use Rattle.tl_plan.specs.Reached.{Named}
use Rattle.tl_plan.specs.inner.Nodes.{AreBelow, AreDistinct, capped, type_at, types_at}
use Rattle.tl_plan.specs.inner.Queues.{Adds, IsQueue, KeepsFirst, Meets, found_in, noted_at}
use Rattle.tl_plan.specs.inner.Walks.{Walks, add, find}
use Rattle.tl_plan.specs.declared.fault.PlanFault.{PlanFault}
use Rattle.tl_plan.specs.declared.fault.PlanFault.TheVariants.{TypeTooDeep, TooManyInstances, Memory}
use Rattle.tl_plan.specs.declared.fault.TheConstants.{MAX_INSTANCES, MAX_LEVELS}
use Rattle.tl_plan.proofs.SameTypes.{same_is, same_self}
use Rattle.tl_plan.proofs.TypeLists.{by_test, index_new, none_some, some_is}
use Rattle.tl_plan.proofs.NodeTypes.{below_push, get_type, grows_same}

-- ---- where a number stands

-- a number that stands there stays where it is
found_stays : (ns : List ℕ) (m n k : ℕ) → found_in ns n ≡ Some k → found_in (ns ++ m ∷ []) n ≡ Some k
found_stays [] m n k e = absurd (none_some k e)
found_stays (j ∷ ns) m n k e = by (n == j) (found_in ns n) e (λ i h. found_stays ns m n i h)
  where
    by : (b : Bool) (o : Option ℕ) → (if b then Some zero else option_map suc o) ≡ Some k → ((i : ℕ) → o ≡ Some i → found_in (ns ++ m ∷ []) n ≡ Some i) → (if b then Some zero else option_map suc (found_in (ns ++ m ∷ []) n)) ≡ Some k
    by true o h later = h
    by false None h later = absurd (none_some k h)
    by false (Some i) h later = ap (option_map suc) (later i refl) ∙ h

-- another comes to the end
found_comes : (ns : List ℕ) (m n : ℕ) → found_in ns n ≡ None → found_in (ns ++ m ∷ []) n ≡ (if n == m then Some (length ns) else None)
found_comes [] m n e = refl
found_comes (j ∷ ns) m n e = by (n == j) (found_in ns n) e (λ h. found_comes ns m n h)
  where
    by : (b : Bool) (o : Option ℕ) → (if b then Some zero else option_map suc o) ≡ None → (o ≡ None → found_in (ns ++ m ∷ []) n ≡ (if n == m then Some (length ns) else None)) → (if b then Some zero else option_map suc (found_in (ns ++ m ∷ []) n)) ≡ (if n == m then Some (suc (length ns)) else None)
    by true o h later = absurd cc
    by false None h later = ap (option_map suc) (later refl) ∙ mapped (n == m)
      where
        mapped : (b : Bool) → option_map suc (if b then Some (length ns) else None) ≡ (if b then Some (suc (length ns)) else None)
        mapped true = refl
        mapped false = refl
    by false (Some i) h later = absurd cc

by_option : {P : Type 0} (o : Option ℕ) → (o ≡ None → P) → ((k : ℕ) → o ≡ Some k → P) → P
by_option None none some = none refl
by_option (Some k) none some = some k refl

-- a new number is noted at the end
pub noted_new : (ns : List ℕ) (m n : ℕ) (old : Option ℕ) → found_in ns m ≡ None → old ≡ found_in ns n → (if n == m then Some (length ns) else old) ≡ found_in (ns ++ m ∷ []) n
noted_new ns m n old none is =
    by_option (found_in ns n)
    (λ absent. ap (λ o. if n == m then Some (length ns) else o) (is ∙ absent) ∙ sym (found_comes ns m n absent))
    (λ k there. by_test (n == m)
    (λ same. absurd (none_some k (sym none ∙ ap (found_in ns) (sym (eqb-true n m same)) ∙ there)))
    (λ other. ap (λ b. if b then Some (length ns) else old) other ∙ is ∙ there ∙ sym (found_stays ns m n k there)))

-- one that stands there is where it was
pub noted_old : (ns : List ℕ) (m k n : ℕ) → found_in ns m ≡ Some k → found_in ns n ≡ found_in (ns ++ m ∷ []) n
noted_old ns m k n there =
    by_option (found_in ns n)
    (λ absent. by_test (n == m)
    (λ same. absurd (none_some k (sym absent ∙ ap (found_in ns) (eqb-true n m same) ∙ there)))
    (λ other. absent ∙ sym (found_comes ns m n absent ∙ ap (λ b. if b then Some (length ns) else None) other)))
    (λ j here. here ∙ sym (found_stays ns m n j here))

-- ---- types by their numbers

module _ (Ts : List Shape) (distinct : AreDistinct Ts) (n : ℕ) (within : n < length Ts) where
  same_type : (m : ℕ) → m < length Ts → is_same (type_at Ts n) (type_at Ts m) ≡ (n == m)
  same_type m below = by_test (n == m)
      (λ same. ap (λ (k : ℕ). is_same (type_at Ts n) (type_at Ts k)) (sym (eqb-true n m same)) ∙ same_self (type_at Ts n) ∙ sym same)
      (λ other. by_test (is_same (type_at Ts n) (type_at Ts m))
      (λ is. absurd (true≢false (sym (eq-eqb n m (distinct n m (type_at Ts m) (get_type Ts n within ∙ ap Some (same_is (type_at Ts n) (type_at Ts m) is)) (get_type Ts m below))) ∙ other)))
      (λ not. not ∙ sym other))

  pub among_found : (ms : List ℕ) (k : ℕ) → AreBelow (length Ts) ms → found_in ms n ≡ Some k → (is_among (type_at Ts n) (types_at Ts ms) ≡ true) × (index_of (type_at Ts n) (types_at Ts ms) ≡ k)
  among_found [] k are e = absurd (none_some k e)
  among_found (m ∷ ms) k are e = by_test (n == m)
      (λ same.
      let here : is_same (type_at Ts n) (type_at Ts m) ≡ true = same_type m are.0 ∙ same in
      let first : 0 ≡ k = some_is 0 k (sym (ap (λ b. if b then Some zero else option_map suc (found_in ms n)) same) ∙ e) in
      (ap (λ b. b || is_among (type_at Ts n) (types_at Ts ms)) here, ap (λ b. if b then zero else suc (index_of (type_at Ts n) (types_at Ts ms))) here ∙ first))
      (λ other.
      let apart : is_same (type_at Ts n) (type_at Ts m) ≡ false = same_type m are.0 ∙ other in
      let there : option_map suc (found_in ms n) ≡ Some k = sym (ap (λ b. if b then Some zero else option_map suc (found_in ms n)) other) ∙ e in
      by_option (found_in ms n)
      (λ none. absurd (none_some k (sym (ap (option_map suc) none) ∙ there)))
      (λ i is.
      let later = among_found ms i are.1 is in
      let count : suc i ≡ k = some_is (suc i) k (sym (ap (option_map suc) is) ∙ there) in
      (ap (λ b. b || is_among (type_at Ts n) (types_at Ts ms)) apart ∙ later.0, ap (λ b. if b then zero else suc (index_of (type_at Ts n) (types_at Ts ms))) apart ∙ ap suc later.1 ∙ count)))

  pub among_none : (ms : List ℕ) → AreBelow (length Ts) ms → found_in ms n ≡ None → is_among (type_at Ts n) (types_at Ts ms) ≡ false
  among_none [] are e = refl
  among_none (m ∷ ms) are e = by_test (n == m)
      (λ same. let first : None ≡ Some 0 = sym e ∙ ap (λ b. if b then Some zero else option_map suc (found_in ms n)) same in absurd (none_some 0 first))
      (λ other.
      let apart : is_same (type_at Ts n) (type_at Ts m) ≡ false = same_type m are.0 ∙ other in
      let there : option_map suc (found_in ms n) ≡ None = sym (ap (λ b. if b then Some zero else option_map suc (found_in ms n)) other) ∙ e in
      ap (λ b. b || is_among (type_at Ts n) (types_at Ts ms)) apart ∙ among_none ms are.1 (by_option (found_in ms n) (λ none. none) (λ k is. absurd (none_some (suc k) (sym there ∙ ap (option_map suc) is)))))

-- ---- steps

module _ (Ts : List Shape) (old new : List ℕ) (n level decl : ℕ) (distinct : AreDistinct Ts) (below : AreBelow (length Ts) old) (within : n < length Ts) (levels_is : level ≡ capped (levels (type_at Ts n))) where
  abbrev named : Named
  named = record { of = type_at Ts n; decl = decl }

  abbrev T : Shape
  T = type_at Ts n

  abbrev ts : List Shape
  ts = types_at Ts old

  count_is : length ts ≡ length old
  count_is = length-map old (type_at Ts)

  shallow : level ≤ MAX_LEVELS → nat_lt MAX_LEVELS (levels T) ≡ false
  shallow le = let l = levels_is in let low : levels T ≤ MAX_LEVELS = omega (arith, l, le) in grind (arith, nat_tests)

  deep : MAX_LEVELS < level → nat_lt MAX_LEVELS (levels T) ≡ true
  deep less = let l = levels_is in let high : MAX_LEVELS < levels T = omega (arith, l, less) in grind (arith, nat_tests)

  room : length old < MAX_INSTANCES → nat_lt (length ts) MAX_INSTANCES ≡ true
  room less = let c = count_is in let low : length ts < MAX_INSTANCES = omega (arith, c, less) in grind (arith, nat_tests)

  full : MAX_INSTANCES ≤ length old → nat_lt (length ts) MAX_INSTANCES ≡ false
  full le = let c = count_is in let high : MAX_INSTANCES ≤ length ts = omega (arith, c, le) in grind (arith, nat_tests)

  by_tests : (a b : Bool) → nat_lt MAX_LEVELS (levels T) ≡ a → nat_lt (length ts) MAX_INSTANCES ≡ b → add ts named ≡ (if a then Err (TypeTooDeep decl) else if b then Ok (ts ++ T ∷ []) else Err TooManyInstances)
  by_tests a b p q = ap₂ (λ (x y : Bool). if x then Err (TypeTooDeep decl) else if y then Ok (ts ++ T ∷ []) else Err TooManyInstances) p q

  by_depth : (a : Bool) → nat_lt MAX_LEVELS (levels T) ≡ a → add ts named ≡ (if a then Err (TypeTooDeep decl) else if nat_lt (length ts) MAX_INSTANCES then Ok (ts ++ T ∷ []) else Err TooManyInstances)
  by_depth a p = ap (λ (x : Bool). if x then Err (TypeTooDeep decl) else if nat_lt (length ts) MAX_INSTANCES then Ok (ts ++ T ∷ []) else Err TooManyInstances) p

  pushed : new ≡ old ++ n ∷ [] → ts ++ T ∷ [] ≡ types_at Ts new
  pushed e = sym (map-append (type_at Ts) old (n ∷ [])) ∙ ap (types_at Ts) (sym e)

  below_more : new ≡ old ++ n ∷ [] → AreBelow (length Ts) new
  below_more e = subst (AreBelow (length Ts)) (sym e) (below_push (length Ts) old n below within)

  -- a type that is added
  pub adds_type : (result : Result ℕ PlanFault) → Adds old new n level decl result → Walks (add ts named) Ts Ts new result (λ k. k ≡ length ts)
  adds_type (Ok k) h = (by_tests false true (shallow h.2) (room h.3) ∙ ap Ok (pushed h.0), grows_same Ts, below_more h.0, h.1 ∙ sym count_is)
  adds_type (Err (TypeTooDeep d)) h = by_depth true (deep h.1) ∙ ap (λ (j : ℕ). Err (TypeTooDeep j)) (sym h.0)
  adds_type (Err TooManyInstances) h = by_tests false false (shallow h.0) (full h.1)
  adds_type (Err Memory) h = tt

  not_there : found_in old n ≡ None → find ts named ≡ add ts named
  not_there none = ap (λ (b : Bool). if b then Ok ts else add ts named) (among_none Ts distinct n within old below none)

  added_index : (k : ℕ) → found_in old n ≡ None → new ≡ old ++ n ∷ [] → k ≡ length old → k ≡ index_of T (types_at Ts new)
  added_index k none e count = count ∙ sym count_is ∙ sym (index_new T ts [] (among_none Ts distinct n within old below none)) ∙ ap (index_of T) (pushed e)

  comes : (result : Result ℕ PlanFault) → found_in old n ≡ None → Adds old new n level decl result → Walks (find ts named) Ts Ts new result (λ k. k ≡ index_of T (types_at Ts new))
  comes (Ok k) none h = let a = adds_type (Ok k) h in (not_there none ∙ a.0, a.1, a.2, added_index k none h.0 h.1)
  comes (Err (TypeTooDeep d)) none h = not_there none ∙ adds_type (Err (TypeTooDeep d)) h
  comes (Err TooManyInstances) none h = not_there none ∙ adds_type (Err TooManyInstances) h
  comes (Err Memory) none h = tt

  stands : (k : ℕ) → found_in old n ≡ Some k → new ≡ old → Walks (find ts named) Ts Ts new (Ok k) (λ j. j ≡ index_of T (types_at Ts new))
  stands k found same =
      let at = among_found Ts distinct n within old k below found in
      (ap (λ (b : Bool). if b then Ok ts else add ts named) at.0 ∙ ap (λ (ks : List ℕ). Ok (types_at Ts ks)) (sym same), grows_same Ts, subst (AreBelow (length Ts)) (sym same) below, sym at.1 ∙ ap (λ (ks : List ℕ). index_of T (types_at Ts ks)) (sym same))

  -- a type that is met
  pub meets_type : (result : Result ℕ PlanFault) → Meets old new n level decl result → Walks (find ts named) Ts Ts new result (λ k. k ≡ index_of T (types_at Ts new))
  meets_type result (inl p) = subst (λ (r : Result ℕ PlanFault). Walks (find ts named) Ts Ts new r (λ k. k ≡ index_of T (types_at Ts new))) (sym p.1) (stands p.0 p.2 p.3)
  meets_type result (inr q) = comes result q.0 q.1

-- ---- the code's queue

-- after the first index of a number was noted, and the number came to the end
pub queue_push : (old new : List ℕ) (before after : List (ℕ × ℕ)) (node index : ℕ) → IsQueue old before → length old < MAX_INSTANCES → index ≡ length old → KeepsFirst before after node index → new ≡ old ++ node ∷ [] → IsQueue new after
queue_push old new before after node index queue room count kept pushed = subst (λ (ns : List ℕ). IsQueue ns after) (sym pushed) (record {
  few = let e = length-append old (node ∷ []) in omega (arith, e, room);
  noted = λ n. kept n ∙ by_option (noted_at before node)
      (λ none. ap (λ o. if n == node && is_none o then Some index else noted_at before n) none ∙ both n (n == node) refl none)
      (λ k there. ap (λ o. if n == node && is_none o then Some index else noted_at before n) there ∙ apart n k (n == node) ∙ queue.noted n ∙ noted_old old node k n (sym (queue.noted node) ∙ there));
})
  where
    both : (n : ℕ) (b : Bool) → (n == node) ≡ b → noted_at before node ≡ None → (if b && true then Some index else noted_at before n) ≡ found_in (old ++ node ∷ []) n
    both n b is none = tidy b ∙ ap (λ (c : Bool). if c then Some (length old) else noted_at before n) (sym is) ∙ noted_new old node n (noted_at before n) (sym (queue.noted node) ∙ none) (queue.noted n)
      where
        tidy : (b : Bool) → (if b && true then Some index else noted_at before n) ≡ (if b then Some (length old) else noted_at before n)
        tidy true = ap Some count
        tidy false = refl

    apart : (n k : ℕ) (b : Bool) → (if b && false then Some index else noted_at before n) ≡ noted_at before n
    apart n k true = refl
    apart n k false = refl

-- a number that had no index has this one
pub kept_new : (old new : List (ℕ × ℕ)) (node index : ℕ) → noted_at old node ≡ None → ((n : ℕ) → noted_at new n ≡ cond (is_eq (nat_cmp node n)) (Some index) (noted_at old n)) → KeepsFirst old new node index
kept_new old new node index none updated n =
    updated n ∙ by (is_eq (nat_cmp node n)) (n == node) (same node n) ∙ sym (ap (λ o. if n == node && is_none o then Some index else noted_at old n) none)
  where
    same : (a b : ℕ) → is_eq (nat_cmp a b) ≡ (b == a)
    same a b = grind (arith, nat_tests)

    by : (a b : Bool) → a ≡ b → cond a (Some index) (noted_at old n) ≡ (if b && true then Some index else noted_at old n)
    by true true e = refl
    by true false e = absurd (true≢false e)
    by false true e = absurd (true≢false (sym e))
    by false false e = refl

pub none_copied : {A : Type 0} (o : Option (Bor A)) (b : Bool) → is_some o ≡ not b → b ≡ true → option_copied o ≡ None
none_copied None b is e = refl
none_copied (Some x) b is e = absurd (true≢false (is ∙ ap not e))
