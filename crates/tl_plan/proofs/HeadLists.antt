-- The constructors of each type and the functions, collected over the declarations.
use Rattle.std.proofs.Common.{◌≡◌, ℕ, zero, suc, ◌+◌, ◌<◌, ◌≤◌, List, [], ◌∷◌, ◌++◌, length, take, replicate, get_or, set, slice_get, Some, Bool, true, false, refl, ap, ap₂, sym, ◌∙◌, arith, if◌then◌else◌, nat_lt, ◌==◌, eqb-true, Vec}
use Rattle.std.proofs.lemmas.Bool.Decides.{nat_tests}
use Rattle.std.proofs.lemmas.List.{get_or_past, map_push, take_all, length-take}
use Rattle.tl_names.specs.Indexes.{types_of}
use Rattle.tl_names.proofs.Maps.{take_push}
use Rattle.tl_schema.specs.Schemas.{Declaration, Declared}
use Rattle.tl_plan.specs.Entries.{constructors_of, indices_from}
use Rattle.tl_plan.specs.inner.Walks.{AreHeads, lists_of, noted}
use Rattle.tl_plan.proofs.TypeLists.{by_test}

-- ---- lists

get_replicate : (n h : ℕ) → get_or (replicate {A = List ℕ} n []) h [] ≡ []
get_replicate zero h = refl
get_replicate (suc n) zero = refl
get_replicate (suc n) (suc h) = get_replicate n h

noted_length : (lists : List (List ℕ)) (g i : ℕ) → length (noted lists g i) ≡ length lists
noted_length [] g i = refl
noted_length (is ∷ lists) zero i = refl
noted_length (is ∷ lists) (suc g) i = ap suc (noted_length lists g i)

noted_here : (lists : List (List ℕ)) (h i : ℕ) → h < length lists → get_or (noted lists h i) h [] ≡ get_or lists h [] ++ i ∷ []
noted_here [] h i below = absurd (omega (arith, below))
noted_here (is ∷ lists) zero i below = refl
noted_here (is ∷ lists) (suc h) i below = noted_here lists h i (omega (arith, below))

noted_apart : (lists : List (List ℕ)) (g h i : ℕ) → (g ≡ h → ⊥) → get_or (noted lists g i) h [] ≡ get_or lists h []
noted_apart [] g h i apart = refl
noted_apart (is ∷ lists) zero zero i apart = absurd (apart refl)
noted_apart (is ∷ lists) zero (suc h) i apart = refl
noted_apart (is ∷ lists) (suc g) zero i apart = refl
noted_apart (is ∷ lists) (suc g) (suc h) i apart = noted_apart lists g h i (λ e. apart (ap suc e))

indices_push : (test : Declaration → Bool) (ds : List Declaration) (d : Declaration) (i j : ℕ) → j ≡ i + length ds → indices_from i test (ds ++ d ∷ []) ≡ (if test d then indices_from i test ds ++ j ∷ [] else indices_from i test ds)
indices_push test [] d i j e = by (test d)
  where
    by : (b : Bool) → (if b then i ∷ [] else []) ≡ (if b then j ∷ [] else [])
    by true = let same : i ≡ j = omega (arith, e) in ap (λ (k : ℕ). k ∷ []) same
    by false = refl
indices_push test (c ∷ ds) d i j e = by (test c) (indices_push test ds d (suc i) j (omega (arith, e)))
  where
    by : (b : Bool) → indices_from (suc i) test (ds ++ d ∷ []) ≡ (if test d then indices_from (suc i) test ds ++ j ∷ [] else indices_from (suc i) test ds) → (if b then i ∷ indices_from (suc i) test (ds ++ d ∷ []) else indices_from (suc i) test (ds ++ d ∷ [])) ≡ (if test d then (if b then i ∷ indices_from (suc i) test ds else indices_from (suc i) test ds) ++ j ∷ [] else (if b then i ∷ indices_from (suc i) test ds else indices_from (suc i) test ds))
    by true later = ap (λ (ks : List ℕ). i ∷ ks) later ∙ under (test d)
      where
        under : (t : Bool) → (i ∷ (if t then indices_from (suc i) test ds ++ j ∷ [] else indices_from (suc i) test ds)) ≡ (if t then i ∷ indices_from (suc i) test ds ++ j ∷ [] else i ∷ indices_from (suc i) test ds)
        under true = refl
        under false = refl
    by false later = later

-- ---- the first n declarations

pub record HeadsSoFar (S : Declared) (n : ℕ) (lists : List (List ℕ)) (called : List ℕ) : Type 0 where
  pub count : length lists ≡ length (types_of S.program)
  pub each : (h : ℕ) → h < length lists → get_or lists h [] ≡ indices_from 0 (λ d. d.head == h) (take n S.decls)
  pub functions : called ≡ indices_from 0 (λ d. d.function) (take n S.decls)

length_replicate : (n : ℕ) → length (replicate {A = List ℕ} n []) ≡ n
length_replicate zero = refl
length_replicate (suc n) = ap suc (length_replicate n)

pub no_heads : (S : Declared) (lists : List (List ℕ)) → lists ≡ replicate (length (types_of S.program)) [] → HeadsSoFar S 0 lists []
no_heads S lists e = record {
  count = ap length e ∙ length_replicate (length (types_of S.program));
  each = λ h below. ap (λ (ls : List (List ℕ)). get_or ls h []) e ∙ get_replicate (length (types_of S.program)) h;
  functions = refl;
}

module _ (S : Declared) (n : ℕ) (lists : List (List ℕ)) (functions : List ℕ) (so_far : HeadsSoFar S n lists functions) (d : Declaration) (at : slice_get S.decls n ≡ Some d) (within : n < length S.decls) where
  many : n ≡ 0 + length (take n S.decls)
  many = let e = length-take n S.decls in omega (arith, e, within)

  more : (test : Declaration → Bool) → indices_from 0 test (take (n + 1) S.decls) ≡ (if test d then indices_from 0 test (take n S.decls) ++ n ∷ [] else indices_from 0 test (take n S.decls))
  more test = ap (indices_from 0 test) (take_push S.decls n d at) ∙ indices_push test (take n S.decls) d 0 n many

  pub next_heads : HeadsSoFar S (n + 1) (noted lists d.head n) (if d.function then functions ++ n ∷ [] else functions)
  next_heads = record {
    count = noted_length lists d.head n ∙ so_far.count;
    each = λ h below. by_test (d.head == h)
        (λ same.
        let here : d.head ≡ h = eqb-true d.head h same in
        let less : h < length lists = let e = noted_length lists d.head n in omega (arith, e, below) in
        ap (λ (g : ℕ). get_or (noted lists g n) h []) here ∙ noted_here lists h n less
        ∙ ap (λ (is : List ℕ). is ++ n ∷ []) (so_far.each h less) ∙ sym (more (λ c. c.head == h) ∙ ap (λ b. if b then indices_from 0 (λ c. c.head == h) (take n S.decls) ++ n ∷ [] else indices_from 0 (λ c. c.head == h) (take n S.decls)) same))
        (λ other.
        let apart : d.head ≡ h → ⊥ = λ e. grind (arith, nat_tests) in
        let less : h < length lists = let e = noted_length lists d.head n in omega (arith, e, below) in
        noted_apart lists d.head h n apart ∙ so_far.each h less ∙ sym (more (λ c. c.head == h) ∙ ap (λ b. if b then indices_from 0 (λ c. c.head == h) (take n S.decls) ++ n ∷ [] else indices_from 0 (λ c. c.head == h) (take n S.decls)) other));
    functions = ap (λ (is : List ℕ). if d.function then is ++ n ∷ [] else is) so_far.functions ∙ sym (more (λ c. c.function));
  }

pub all_heads : (S : Declared) (n : ℕ) (lists : List (List ℕ)) (functions : List ℕ) → HeadsSoFar S n lists functions → length S.decls ≤ n → AreHeads S lists functions
all_heads S n lists functions so_far past = record { constructors = each; functions = so_far.functions ∙ ap (indices_from 0 (λ d. d.function)) (take_all n S.decls past) }
  where
    each : (h : ℕ) → get_or lists h [] ≡ constructors_of S h
    each h = by_test (nat_lt h (length (types_of S.program)))
        (λ known.
        let below : h < length (types_of S.program) = grind (arith, nat_tests) in
        let e = so_far.count in
        so_far.each h (omega (arith, e, below)) ∙ ap (indices_from 0 (λ d. d.head == h)) (take_all n S.decls past) ∙ sym (ap (λ b. if b then indices_from 0 (λ d. d.head == h) S.decls else []) known))
        (λ unknown.
        let beyond : length (types_of S.program) ≤ h = grind (arith, nat_tests) in
        let e = so_far.count in
        get_or_past lists h [] (omega (arith, e, beyond)) ∙ sym (ap (λ b. if b then indices_from 0 (λ d. d.head == h) S.decls else []) unknown))

-- ---- the code's lists

pub lists_push : {A : Type 0} (lists : List (Vec ℕ A)) (v : Vec ℕ A) (n : ℕ) → lists_of lists ≡ replicate n [] → v.items ≡ [] → lists_of (lists ++ v ∷ []) ≡ replicate (n + 1) []
lists_push {A = A} lists v n so_far empty = map_push (λ (is : Vec ℕ A). is.items) lists v ∙ ap₂ (λ (xs : List (List ℕ)) (x : List ℕ). xs ++ x ∷ []) so_far empty ∙ replicate_push n
  where
    replicate_push : (n : ℕ) → replicate {A = List ℕ} n [] ++ [] ∷ [] ≡ replicate (n + 1) []
    replicate_push n = grow n ∙ (let e : suc n ≡ n + 1 = omega arith in ap (λ k. replicate {A = List ℕ} k []) e)
      where
        grow : (n : ℕ) → replicate {A = List ℕ} n [] ++ [] ∷ [] ≡ replicate (suc n) []
        grow zero = refl
        grow (suc n) = ap (λ (xs : List (List ℕ)). [] ∷ xs) (grow n)

pub set_noted : {A : Type 0} (lists : List (Vec ℕ A)) (h i : ℕ) (old new : Vec ℕ A) → old ≡ get_or lists h old → h < length lists → new.items ≡ old.items ++ i ∷ [] → lists_of (set lists h new) ≡ noted (lists_of lists) h i
set_noted [] h i old new is below e = absurd (omega (arith, below))
set_noted {A = A} (v ∷ lists) zero i old new is below e = ap (λ (x : List ℕ). x ∷ lists_of lists) (e ∙ ap (λ (w : Vec ℕ A). w.items ++ i ∷ []) is)
set_noted (v ∷ lists) (suc h) i old new is below e = ap (λ (xs : List (List ℕ)). v.items ∷ xs) (set_noted lists h i old new is (omega (arith, below)) e)

pub noted_past : (lists : List (List ℕ)) (h i : ℕ) → length lists ≤ h → lists ≡ noted lists h i
noted_past [] h i past = refl
noted_past (is ∷ lists) zero i past = absurd (omega (arith, past))
noted_past (is ∷ lists) (suc h) i past = ap (λ (xs : List (List ℕ)). is ∷ xs) (noted_past lists h i (omega (arith, past)))
