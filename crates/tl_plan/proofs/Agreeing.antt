-- Walks against what is reached: the types are those, none of them too deep, or the walk stops at the first that is too deep or too many.
use Rattle.std.proofs.Common.{◌≡◌, ℕ, zero, suc, ◌+◌, ◌-◌, ◌<◌, ◌≤◌, List, [], ◌∷◌, ◌++◌, length, take, slice_get, Option, Some, None, Ok, Err, Bool, true, false, refl, ap, sym, ◌∙◌, subst, append_assoc, nat_lt, if◌then◌else◌, arith, length-append}
use Rattle.std.proofs.lemmas.List.{append-nil, map-append, length-map, take_all}
use Rattle.std.proofs.lemmas.Option.{slice_get-map, slice_get_past}
use Rattle.std.specs.Option.{option_map}
use Rattle.std.proofs.lemmas.Bool.Decides.{nat_tests}
use Rattle.tl_schema.specs.Types.{Shape}
use Rattle.tl_schema.specs.Schemas.{Declared}
use Rattle.tl_plan.specs.Types.{is_among, levels}
use Rattle.tl_plan.specs.Reached.{Named, all_reached, first_too_deep, meet, meet_all, named_by, reached, types_in, unnamed}
use Rattle.tl_plan.specs.Plans.{answer, answer_by, plan_of}
use Rattle.tl_plan.specs.declared.fault.PlanFault.{PlanFault}
use Rattle.tl_plan.specs.declared.fault.PlanFault.TheVariants.{TypeTooDeep, TooManyInstances, Memory}
use Rattle.tl_plan.specs.declared.fault.TheConstants.{MAX_INSTANCES, MAX_LEVELS}
use Rattle.tl_plan.specs.inner.Walks.{Walk, then_walk, add, add_all, expand, find, find_all, names_by, walked}

-- ---- how the two agree

abbrev Why : PlanFault → Named → List Named → Type 0
Why (TypeTooDeep d) x before = (d ≡ x.decl) × (nat_lt MAX_LEVELS (levels x.of) ≡ true)
Why TooManyInstances x before = (nat_lt MAX_LEVELS (levels x.of) ≡ false) × (length before ≡ MAX_INSTANCES)
Why Memory x before = ⊥

record Stops (e : PlanFault) (ns : List Named) : Type 0 where
  before : List Named
  x : Named
  rest : List Named
  splits : ns ≡ before ++ x ∷ rest
  shallow : first_too_deep before ≡ None
  few : length before ≤ MAX_INSTANCES
  why : Why e x before

record Goes (ts : List Shape) (ns : List Named) : Type 0 where
  types : types_in ns ≡ ts
  shallow : first_too_deep ns ≡ None
  few : length ns ≤ MAX_INSTANCES

abbrev Agrees : Walk → List Named → Type 0
Agrees (Ok ts) ns = Goes ts ns
Agrees (Err e) ns = Stops e ns

-- ---- one type more

stops_more : (e : PlanFault) (ns ms : List Named) → Stops e ns → Stops e (ns ++ ms)
stops_more e ns ms s = record {
  before = s.before;
  x = s.x;
  rest = s.rest ++ ms;
  splits = ap (λ (xs : List Named). xs ++ ms) s.splits ∙ append_assoc s.before (s.x ∷ s.rest) ms;
  shallow = s.shallow;
  few = s.few;
  why = s.why;
}

deep_push : (ns : List Named) (n : Named) → first_too_deep ns ≡ None → nat_lt MAX_LEVELS (levels n.of) ≡ false → first_too_deep (ns ++ n ∷ []) ≡ None
deep_push [] n e h = ap (λ b. if b then Some n.decl else None) h
deep_push (m ∷ ns) n e h = by (nat_lt MAX_LEVELS (levels m.of)) e (deep_push ns n)
  where
    by : (b : Bool) → (if b then Some m.decl else first_too_deep ns) ≡ None → (first_too_deep ns ≡ None → nat_lt MAX_LEVELS (levels n.of) ≡ false → first_too_deep (ns ++ n ∷ []) ≡ None) → (if b then Some m.decl else first_too_deep (ns ++ n ∷ [])) ≡ None
    by true is later = absurd cc
    by false is later = later is h

types_count : (ts : List Shape) (ns : List Named) → types_in ns ≡ ts → length ns ≡ length ts
types_count ts ns e = sym (length-map ns (λ n. n.of)) ∙ ap length e

add_agrees : (ts : List Shape) (ns : List Named) (n : Named) → Goes ts ns → Agrees (add ts n) (ns ++ n ∷ [])
add_agrees ts ns n g = by (nat_lt MAX_LEVELS (levels n.of)) refl (nat_lt (length ts) MAX_INSTANCES) refl
  where
    by : (a : Bool) → nat_lt MAX_LEVELS (levels n.of) ≡ a → (b : Bool) → nat_lt (length ts) MAX_INSTANCES ≡ b → Agrees (if a then Err (TypeTooDeep n.decl) else if b then Ok (ts ++ n.of ∷ []) else Err TooManyInstances) (ns ++ n ∷ [])
    by true deep b room = record { before = ns; x = n; rest = []; splits = refl; shallow = g.shallow; few = g.few; why = (refl, deep) }
    by false level true room = record {
      types = map-append (λ (m : Named). m.of) ns (n ∷ []) ∙ ap (λ (xs : List Shape). xs ++ n.of ∷ []) g.types;
      shallow = deep_push ns n g.shallow level;
      few = let count = types_count ts ns g.types in let below : length ts < MAX_INSTANCES = grind (arith, nat_tests) in omega (arith, count, below, length-append ns (n ∷ []));
    }
    by false level false room = record {
      before = ns;
      x = n;
      rest = [];
      splits = refl;
      shallow = g.shallow;
      few = g.few;
      why = (level, let count = types_count ts ns g.types in let past : MAX_INSTANCES ≤ length ts = grind (arith, nat_tests) in let few = g.few in omega (arith, count, past, few));
    }

find_agrees : (ts : List Shape) (ns : List Named) (n : Named) → Goes ts ns → Agrees (find ts n) (meet ns n)
find_agrees ts ns n g = subst (λ (us : List Shape). Agrees (find ts n) (if is_among n.of us then ns else ns ++ n ∷ [])) (sym g.types) (by (is_among n.of ts))
  where
    by : (b : Bool) → Agrees (if b then Ok ts else add ts n) (if b then ns else ns ++ n ∷ [])
    by true = g
    by false = add_agrees ts ns n g

-- ---- many types more

more_stops : (e : PlanFault) (ms ns : List Named) → Stops e ns → Stops e (meet_all ns ms)
more_stops e [] ns s = s
more_stops e (m ∷ ms) ns s = more_stops e ms (meet ns m) (by (is_among m.of (types_in ns)))
  where
    by : (b : Bool) → Stops e (if b then ns else ns ++ m ∷ [])
    by true = s
    by false = stops_more e ns (m ∷ []) s

find_all_agrees : (ms : List Named) (ts : List Shape) (ns : List Named) → Goes ts ns → Agrees (find_all ts ms) (meet_all ns ms)
find_all_agrees [] ts ns g = g
find_all_agrees (m ∷ ms) ts ns g = by (find ts m) (find_agrees ts ns m g) (λ us. find_all_agrees ms us (meet ns m))
  where
    by : (w : Walk) → Agrees w (meet ns m) → ((us : List Shape) → Goes us (meet ns m) → Agrees (find_all us ms) (meet_all (meet ns m) ms)) → Agrees (then_walk w (λ us. find_all us ms)) (meet_all (meet ns m) ms)
    by (Ok us) h later = later us h
    by (Err e) h later = more_stops e ms (meet ns m) h

add_all_agrees : (ms : List Named) (ts : List Shape) (ns : List Named) → Goes ts ns → Agrees (add_all ts ms) (ns ++ ms)
add_all_agrees [] ts ns g = subst (Goes ts) (sym (append-nil ns)) g
add_all_agrees (m ∷ ms) ts ns g = subst (Agrees (add_all ts (m ∷ ms))) (append_assoc ns (m ∷ []) ms) (by (add ts m) (add_agrees ts ns m g) (λ us. add_all_agrees ms us (ns ++ m ∷ [])))
  where
    by : (w : Walk) → Agrees w (ns ++ m ∷ []) → ((us : List Shape) → Goes us (ns ++ m ∷ []) → Agrees (add_all us ms) (ns ++ m ∷ [] ++ ms)) → Agrees (then_walk w (λ us. add_all us ms)) (ns ++ m ∷ [] ++ ms)
    by (Ok us) h later = later us h
    by (Err e) h later = stops_more e (ns ++ m ∷ []) ms h

module _ (S : Declared) (roots : List Shape) where
  named_same : (o : Option Named) → names_by S (option_map (λ n. n.of) o) ≡ named_by S o
  named_same None = refl
  named_same (Some n) = refl

  expand_agrees : (n : ℕ) (ts : List Shape) (ns : List Named) → Goes ts ns → Agrees (expand S n ts) (meet_all ns (named_by S (slice_get ns n)))
  expand_agrees n ts ns g =
      let same : names_by S (slice_get ts n) ≡ named_by S (slice_get ns n) = ap (λ (us : List Shape). names_by S (slice_get us n)) (sym g.types) ∙ ap (names_by S) (slice_get-map (λ (m : Named). m.of) ns n) ∙ named_same (slice_get ns n) in
      subst (λ (ms : List Named). Agrees (find_all ts ms) (meet_all ns (named_by S (slice_get ns n)))) (sym same) (find_all_agrees (named_by S (slice_get ns n)) ts ns g)

  walked_agrees : (n : ℕ) → Agrees (walked S roots n) (reached S roots n)
  unfolding walked reached
  walked_agrees zero = add_all_agrees (unnamed S roots) [] [] (record { types = refl; shallow = refl; few = omega arith })
  walked_agrees (suc n) = by (walked S roots n) (walked_agrees n)
    where
      by : (w : Walk) → Agrees w (reached S roots n) → Agrees (then_walk w (expand S n)) (meet_all (reached S roots n) (named_by S (slice_get (reached S roots n) n)))
      by (Ok ts) g = expand_agrees n ts (reached S roots n) g
      by (Err e) s = more_stops e (named_by S (slice_get (reached S roots n) n)) (reached S roots n) s

-- ---- the answer

-- the first that is too deep stands among the first
deep_first : (K : ℕ) (before rest : List Named) (x : Named) → first_too_deep before ≡ None → length before ≤ K → nat_lt MAX_LEVELS (levels x.of) ≡ true → first_too_deep (take (suc K) (before ++ x ∷ rest)) ≡ Some x.decl
deep_first K [] rest x none few deep = ap (λ b. if b then Some x.decl else first_too_deep (take K rest)) deep
deep_first zero (n ∷ before) rest x none few deep = absurd (omega (arith, few))
deep_first (suc K) (n ∷ before) rest x none few deep = by (nat_lt MAX_LEVELS (levels n.of)) none (λ is. deep_first K before rest x is (omega (arith, few)) deep)
  where
    by : (b : Bool) → (if b then Some n.decl else first_too_deep before) ≡ None → (first_too_deep before ≡ None → first_too_deep (take (suc K) (before ++ x ∷ rest)) ≡ Some x.decl) → (if b then Some n.decl else first_too_deep (take (suc K) (before ++ x ∷ rest))) ≡ Some x.decl
    by true is later = absurd cc
    by false is later = later is

-- none of the first is too deep
deep_none : (K : ℕ) (before rest : List Named) (x : Named) → first_too_deep before ≡ None → length before ≡ K → nat_lt MAX_LEVELS (levels x.of) ≡ false → first_too_deep (take (suc K) (before ++ x ∷ rest)) ≡ None
deep_none zero [] rest x none count level = ap (λ b. if b then Some x.decl else None) level
deep_none (suc K) [] rest x none count level = absurd (omega (arith, count))
deep_none zero (n ∷ before) rest x none count level = absurd (omega (arith, count))
deep_none (suc K) (n ∷ before) rest x none count level = by (nat_lt MAX_LEVELS (levels n.of)) none (λ is. deep_none K before rest x is (omega (arith, count)) level)
  where
    by : (b : Bool) → (if b then Some n.decl else first_too_deep before) ≡ None → (first_too_deep before ≡ None → first_too_deep (take (suc K) (before ++ x ∷ rest)) ≡ None) → (if b then Some n.decl else first_too_deep (take (suc K) (before ++ x ∷ rest))) ≡ None
    by true is later = absurd cc
    by false is later = later is

module _ (S : Declared) (count : ℕ) where
  answers_goes : (ns : List Named) (ts : List Shape) → Goes ts ns → answer_by S count ns (first_too_deep (take (MAX_INSTANCES + 1) ns)) ≡ Ok (plan_of S count ts)
  answers_goes ns ts g =
      let few = g.few in
      let none : first_too_deep (take (MAX_INSTANCES + 1) ns) ≡ None = ap first_too_deep (take_all (MAX_INSTANCES + 1) ns (omega (arith, few))) ∙ g.shallow in
      let level : nat_lt MAX_INSTANCES (length ns) ≡ false = grind (arith, nat_tests) in
      ap (answer_by S count ns) none ∙ ap (λ b. if b then Err TooManyInstances else Ok (plan_of S count (types_in ns))) level ∙ ap (λ (us : List Shape). Ok (plan_of S count us)) g.types

  answers_stops : (ns : List Named) (e : PlanFault) → Stops e ns → answer_by S count ns (first_too_deep (take (MAX_INSTANCES + 1) ns)) ≡ Err e
  answers_stops ns (TypeTooDeep d) s =
      ap (λ (ms : List Named). answer_by S count ns (first_too_deep (take (MAX_INSTANCES + 1) ms))) s.splits
      ∙ ap (answer_by S count ns) (deep_first MAX_INSTANCES s.before s.rest s.x s.shallow s.few s.why.1) ∙ ap (λ (k : ℕ). Err (TypeTooDeep k)) (sym s.why.0)
  answers_stops ns TooManyInstances s =
      let long : length ns ≡ length s.before + (1 + length s.rest) = ap length s.splits ∙ length-append s.before (s.x ∷ s.rest) ∙ omega arith in
      let count_is = s.why.1 in
      let past : nat_lt MAX_INSTANCES (length ns) ≡ true = grind (arith, nat_tests) in
      ap (λ (ms : List Named). answer_by S count ns (first_too_deep (take (MAX_INSTANCES + 1) ms))) s.splits
      ∙ ap (answer_by S count ns) (deep_none MAX_INSTANCES s.before s.rest s.x s.shallow s.why.1 s.why.0) ∙ ap (λ b. if b then Err TooManyInstances else Ok (plan_of S count (types_in ns))) past
  answers_stops ns Memory s = absurd s.why

-- what a whole walk came to is the answer
abbrev pub IsAnswer : Declared → List Shape → Walk → Type 0
IsAnswer S roots (Ok ts) = answer S roots ≡ Ok (plan_of S (length roots) ts)
IsAnswer S roots (Err e) = answer S roots ≡ Err e

pub walked_answers : (S : Declared) (roots : List Shape) → IsAnswer S roots (walked S roots (MAX_INSTANCES + 1))
unfolding answer all_reached
walked_answers S roots = by (walked S roots (MAX_INSTANCES + 1)) (walked_agrees S roots (MAX_INSTANCES + 1))
  where
    by : (w : Walk) → Agrees w (reached S roots (MAX_INSTANCES + 1)) → IsAnswer S roots w
    by (Ok ts) g = answers_goes S (length roots) (reached S roots (MAX_INSTANCES + 1)) ts g
    by (Err e) s = answers_stops S (length roots) (reached S roots (MAX_INSTANCES + 1)) e s

-- ---- walks that go on

module _ (S : Declared) (roots : List Shape) where
  -- where all types have named theirs, there are no more
  stays : (k n m : ℕ) (ts : List Shape) → m ≡ k + n → walked S roots n ≡ Ok ts → length ts ≤ n → walked S roots m ≡ Ok ts
  unfolding walked
  stays zero n m ts same e past = let here : m ≡ n = omega (arith, same) in ap (walked S roots) here ∙ e
  stays (suc k) n zero ts same e past = absurd (omega (arith, same))
  stays (suc k) n (suc m) ts same e past =
      let before : walked S roots m ≡ Ok ts = stays k n m ts (omega (arith, same)) e past in
      let none : slice_get ts m ≡ None = slice_get_past ts m (omega (arith, same, past)) in
      ap (λ (w : Walk). then_walk w (expand S m)) before ∙ ap (λ (o : Option Shape). find_all ts (names_by S o)) none

  -- a walk that ended stays so
  ended : (k n m : ℕ) (fault : PlanFault) → m ≡ k + n → walked S roots n ≡ Err fault → walked S roots m ≡ Err fault
  unfolding walked
  ended zero n m fault same e = let here : m ≡ n = omega (arith, same) in ap (walked S roots) here ∙ e
  ended (suc k) n zero fault same e = absurd (omega (arith, same))
  ended (suc k) n (suc m) fault same e = ap (λ (w : Walk). then_walk w (expand S m)) (ended k n m fault (omega (arith, same)) e)

  pub walk_done : (n : ℕ) (ts : List Shape) → walked S roots n ≡ Ok ts → length ts ≤ n → n ≤ MAX_INSTANCES → answer S roots ≡ Ok (plan_of S (length roots) ts)
  walk_done n ts e past few =
      subst (IsAnswer S roots) (stays (MAX_INSTANCES + 1 - n) n (MAX_INSTANCES + 1) ts (omega (arith, few)) e past) (walked_answers S roots)

  pub walk_failed : (n : ℕ) (fault : PlanFault) → walked S roots n ≡ Err fault → n ≤ MAX_INSTANCES + 1 → answer S roots ≡ Err fault
  walk_failed n fault e few = subst (IsAnswer S roots) (ended (MAX_INSTANCES + 1 - n) n (MAX_INSTANCES + 1) fault (omega (arith, few)) e) (walked_answers S roots)
