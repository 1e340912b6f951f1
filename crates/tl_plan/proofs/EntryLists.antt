-- The declarations of a type: they are those that they should be.
use Rattle.std.proofs.Common.{◌≡◌, ℕ, zero, suc, ◌+◌, ◌<◌, List, [], ◌∷◌, length, slice_get, Some, Bool, true, false, refl, ap, ◌∙◌, nat_lt, if◌then◌else◌, arith, eq-eqb, eqb-true, ◌==◌}
use Rattle.std.proofs.lemmas.Bool.Decides.{nat_tests}
use Rattle.tl_names.specs.Indexes.{types_of}
use Rattle.tl_schema.specs.Schemas.{Declaration, Declared}
use Rattle.tl_schema.specs.Formed.{IsFunction, IsMember}
use Rattle.tl_plan.specs.Entries.{constructors_of, functions_of, indices_from}
use Rattle.tl_plan.specs.PlanLaws.{AreThose, EntriesAreDeclared, StandsIn}
use Rattle.tl_plan.proofs.TypeLists.{none_some, some_is}

module _ (test : Declaration → Bool) where
  -- declaration i + m passes
  abbrev Passes : ℕ → List Declaration → ℕ → Type 0
  Passes i ds j = (m : ℕ) × (d : Declaration) × (j ≡ i + m) × (slice_get ds m ≡ Some d) × (test d ≡ true)

  passes_later : (i j : ℕ) (d : Declaration) (ds : List Declaration) → Passes (suc i) ds j → Passes i (d ∷ ds) j
  passes_later i j d ds p = let same = p.2 in (suc p.0, p.1, omega (arith, same), p.3, p.4)

  index_passes : (ds : List Declaration) (i k j : ℕ) → slice_get (indices_from i test ds) k ≡ Some j → Passes i ds j
  index_passes [] i k j at = absurd (none_some j at)
  index_passes (d ∷ ds) i k j at = by (test d) refl k at (λ h e. index_passes ds (suc i) h j e)
    where
      by : (b : Bool) → test d ≡ b → (h : ℕ) → slice_get (if b then i ∷ indices_from (suc i) test ds else indices_from (suc i) test ds) h ≡ Some j → ((h : ℕ) → slice_get (indices_from (suc i) test ds) h ≡ Some j → Passes (suc i) ds j) → Passes i (d ∷ ds) j
      by true is zero e later = let same : i ≡ j = some_is i j e in (0, d, omega (arith, same), refl, is)
      by true is (suc h) e later = passes_later i j d ds (later h e)
      by false is h e later = passes_later i j d ds (later h e)

  index_stands : (ds : List Declaration) (i m : ℕ) (d : Declaration) → slice_get ds m ≡ Some d → test d ≡ true → StandsIn (indices_from i test ds) (i + m)
  index_stands [] i m d at is = absurd (none_some d at)
  index_stands (e ∷ ds) i zero d at is = (0, ap (λ b. slice_get (if b then i ∷ indices_from (suc i) test ds else indices_from (suc i) test ds) 0) (ap test (some_is e d at) ∙ is) ∙ ap Some (omega arith))
  index_stands (e ∷ ds) i (suc m) d at is = by (test e) (index_stands ds (suc i) m d at is)
    where
      by : (b : Bool) → StandsIn (indices_from (suc i) test ds) (suc i + m) → StandsIn (if b then i ∷ indices_from (suc i) test ds else indices_from (suc i) test ds) (i + suc m)
      by true s = (suc s.0, s.1 ∙ ap Some (omega arith))
      by false s = (s.0, s.1 ∙ ap Some (omega arith))

  index_ascends : (ds : List Declaration) (i j k a b : ℕ) → j < k → slice_get (indices_from i test ds) j ≡ Some a → slice_get (indices_from i test ds) k ≡ Some b → a < b
  index_ascends [] i j k a b less p q = absurd (none_some a p)
  index_ascends (d ∷ ds) i j k a b less p q = by (test d) j k less p q (λ h l less. index_ascends ds (suc i) h l a b less)
    where
      by : (t : Bool) (j k : ℕ) → j < k → slice_get (if t then i ∷ indices_from (suc i) test ds else indices_from (suc i) test ds) j ≡ Some a → slice_get (if t then i ∷ indices_from (suc i) test ds else indices_from (suc i) test ds) k ≡ Some b → ((h l : ℕ) → h < l → slice_get (indices_from (suc i) test ds) h ≡ Some a → slice_get (indices_from (suc i) test ds) l ≡ Some b → a < b) → a < b
      by true j zero less p q later = absurd (omega (arith, less))
      by true zero (suc k) less p q later =
          let first : i ≡ a = some_is i a p in
          let after = (index_passes ds (suc i) k b q).2 in
          omega (arith, first, after)
      by true (suc j) (suc k) less p q later = later j k (omega (arith, less)) p q
      by false j k less p q later = later j k less p q

-- ---- constructors and functions

module _ (S : Declared) where
  known_is : (h : ℕ) → nat_lt h (length (types_of S.program)) ≡ true → h < length (types_of S.program)
  known_is h e = grind (arith, nat_tests)

  is_known : (h : ℕ) → h < length (types_of S.program) → nat_lt h (length (types_of S.program)) ≡ true
  is_known h e = grind (arith, nat_tests)

  abbrev heads_of : ℕ → List ℕ
  heads_of h = indices_from 0 (λ d. d.head == h) S.decls

  pub these_constructors : (h : ℕ) → AreThose (λ i. (d : Declaration) × IsMember S h i d) (constructors_of S h)
  these_constructors h = record {
    all = λ i m. has i m.0 m.1;
    only = λ i s. only_in i s.0 (nat_lt h (length (types_of S.program))) refl s.1;
    ascending = λ j k a b less p q. ascends j k a b less (nat_lt h (length (types_of S.program))) p q;
  }
    where
      has : (i : ℕ) (d : Declaration) → IsMember S h i d → StandsIn (constructors_of S h) i
      has i d m =
          let s = index_stands (λ d. d.head == h) S.decls 0 i d m.there (eq-eqb d.head h m.head) in
          (s.0, ap (λ b. slice_get (if b then heads_of h else []) s.0) (is_known h m.known) ∙ s.1 ∙ ap Some (omega arith))

      only_in : (i k : ℕ) (b : Bool) → nat_lt h (length (types_of S.program)) ≡ b → slice_get (if b then heads_of h else []) k ≡ Some i → (d : Declaration) × IsMember S h i d
      only_in i k true known at =
          let p = index_passes (λ d. d.head == h) S.decls 0 k i at in
          let same : i ≡ p.0 = let e = p.2 in omega (arith, e) in
          (p.1, record { there = ap (slice_get S.decls) same ∙ p.3; head = eqb-true p.1.head h p.4; known = known_is h known })
      only_in i k false known at = absurd (none_some i at)

      ascends : (j k a b : ℕ) → j < k → (t : Bool) → slice_get (if t then heads_of h else []) j ≡ Some a → slice_get (if t then heads_of h else []) k ≡ Some b → a < b
      ascends j k a b less true p q = index_ascends (λ d. d.head == h) S.decls 0 j k a b less p q
      ascends j k a b less false p q = absurd (none_some a p)

  pub these_functions : AreThose (λ i. (d : Declaration) × IsFunction S i d) (functions_of S)
  these_functions = record {
    all = λ i m. let s = index_stands (λ d. d.function) S.decls 0 i m.0 m.1.there m.1.function in (s.0, s.1 ∙ ap Some (omega arith));
    only = λ i s. only_in i s.0 s.1;
    ascending = λ j k a b less p q. index_ascends (λ d. d.function) S.decls 0 j k a b less p q;
  }
    where
      only_in : (i k : ℕ) → slice_get (functions_of S) k ≡ Some i → (d : Declaration) × IsFunction S i d
      only_in i k at =
          let p = index_passes (λ d. d.function) S.decls 0 k i at in
          let same : i ≡ p.0 = let e = p.2 in omega (arith, e) in
          (p.1, record { there = ap (slice_get S.decls) same ∙ p.3; function = p.4 })

pub entries_are_declared : EntriesAreDeclared
entries_are_declared S = record { constructors = λ h args. these_constructors S h; functions = these_functions S }
