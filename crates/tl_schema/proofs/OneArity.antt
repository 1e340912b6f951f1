-- The number of variables of a name: there is one or none, and which is decided.
use Rattle.std.proofs.Common.{◌≡◌, ◌≢◌, ◌⊎◌, inl, inr, ℕ, Bool, true, false, ◌||◌, List, length, slice_get, Option, Some, None, bytes_eq, refl, sym, ap, ◌∙◌}
use Rattle.std.specs.Prelude.{codes}
use Rattle.std.proofs.lemmas.Bool.{both_ways, cases_Bool, cases_eq, cases_order}
use Rattle.std.proofs.lemmas.Option.{same_Some, slice_get_within}
use Rattle.std.proofs.lemmas.Slice.Eq.{bytes_eq-Decides}
use Rattle.tl_lexer.proofs.Whole.{Decided}
use Rattle.tl_combinators.proofs.Decided.{decided_as, decided_not}
use Rattle.tl_program.specs.Program.{DeclText}
use Rattle.tl_graph.specs.Firsts.{First}
use Rattle.tl_names.specs.Writing.{At, is_type_name, is_vector_name, is_built_in, is_variable, IsConstructorOf, IsConstructorNamed}
use Rattle.tl_schema.specs.WrongArity.{HasArity, variable, vector, built_in, type, constructor}
use Rattle.tl_schema.specs.inner.Arities.{FirstAt}
use Rattle.tl_schema.proofs.WritingDecided.{constructor_at_decided, named_at_decided}
use Rattle.tl_schema.proofs.Firsts.{first_of}

-- ---- the first declaration that is such

module _ (ds : List DeclText) (Q : ℕ → DeclText → Type 0) (at : (j : ℕ) (c : DeclText) → Q j c → At ds j c) where
  -- the first of them is one declaration
  one_there : (i j : ℕ) (b c : DeclText) → FirstAt Q i b → FirstAt Q j c → b ≡ c
  one_there i j b c first second = elim (cases_order i j) [
    | inl e ↦ same_Some b c (sym (at i b first.0) ∙ ap (slice_get ds) e ∙ at j c second.0)
    | inr (inl less) ↦ absurd (second.1 i b less first.0)
    | inr (inr more) ↦ absurd (first.1 j c more second.0)
  ]

  found : (o : Option ℕ) → First (λ j. (c : DeclText) × Q j c) o → Decided ((j : ℕ) × (c : DeclText) × FirstAt Q j c)
  found (Some j) f = inl (j, f.0.0, (f.0.1, λ i b less there. f.1 i less (b, there)))
  found None none = inr (λ h. none h.0 (h.1, h.2.0))

  first_decided : ((j : ℕ) → Decided ((c : DeclText) × Q j c)) → Decided ((j : ℕ) × (c : DeclText) × FirstAt Q j c)
  first_decided test =
      let f = first_of (λ j. (c : DeclText) × Q j c) (length ds) test (λ j h. slice_get_within ds j h.0 (at j h.0 h.1)) in found f.0 f.1

-- ---- vectors are built in

vector_cases : (name : List ℕ) (b c : Bool) → bytes_eq name (codes "vector") ≡ b → bytes_eq name (codes "Vector") ≡ c → (b || c) ≡ true → is_built_in name ≡ true
vector_cases name true c e f h = ap is_built_in ((bytes_eq-Decides name (codes "vector")).0 e)
vector_cases name false true e f h = ap is_built_in ((bytes_eq-Decides name (codes "Vector")).0 f)
vector_cases name false false e f h = absurd cc

vector_built_in : (name : List ℕ) → is_vector_name name ≡ true → is_built_in name ≡ true
vector_built_in name h = vector_cases name _ _ refl refl h

-- ---- the number of variables

-- the name has this number of variables and no other, or it has none
abbrev pub Arity : List DeclText → DeclText → List ℕ → Type 0
Arity ds d name =
    ((n : ℕ) × HasArity ds d name n × ((m : ℕ) → HasArity ds d name m → m ≡ n)) ⊎ (((m : ℕ) × HasArity ds d name m) → ⊥)

abbrev FirstOf : List DeclText → List ℕ → ℕ → DeclText → Type 0
FirstOf ds name = FirstAt (IsConstructorOf ds name)

abbrev FirstNamed : List DeclText → List ℕ → ℕ → DeclText → Type 0
FirstNamed ds name = FirstAt (IsConstructorNamed ds name)

module _ (ds : List DeclText) (d : DeclText) (name : List ℕ) where
  variable_has : is_variable d name ≡ true → (m : ℕ) → HasArity ds d name m → m ≡ 0
  variable_has v _ (variable w) = refl
  variable_has v _ (vector w x) = absurd (both_ways _ w v)
  variable_has v _ (built_in w x y) = absurd (both_ways _ w v)
  variable_has v _ (type j c w x y there first) = absurd (both_ways _ w v)
  variable_has v _ (constructor j c w x y there first) = absurd (both_ways _ w v)

  module _ (v : is_variable d name ≡ false) where
    vector_has : is_vector_name name ≡ true → (m : ℕ) → HasArity ds d name m → m ≡ 1
    vector_has x _ (variable w) = absurd (both_ways _ v w)
    vector_has x _ (vector w y) = refl
    vector_has x _ (built_in w y z) = absurd (both_ways _ y x)
    vector_has x _ (type j c w y z there first) = absurd (both_ways _ y (vector_built_in name x))
    vector_has x _ (constructor j c w y z there first) = absurd (both_ways _ y (vector_built_in name x))

    built_in_has : is_vector_name name ≡ false → is_built_in name ≡ true → (m : ℕ) → HasArity ds d name m → m ≡ 0
    built_in_has x b _ (variable w) = absurd (both_ways _ v w)
    built_in_has x b _ (vector w y) = absurd (both_ways _ x y)
    built_in_has x b _ (built_in w y z) = refl
    built_in_has x b _ (type j c w y z there first) = absurd (both_ways _ y b)
    built_in_has x b _ (constructor j c w y z there first) = absurd (both_ways _ y b)

    module _ (b : is_built_in name ≡ false) where
      -- a type has the number of its first constructor
      pub type_has : is_type_name name ≡ true → (m : ℕ) → HasArity ds d name m → (j : ℕ) × (c : DeclText) × FirstOf ds name j c × (m ≡ length c.vars)
      type_has u _ (variable w) = absurd (both_ways _ v w)
      type_has u _ (vector w x) = absurd (both_ways _ b (vector_built_in name x))
      type_has u _ (built_in w x y) = absurd (both_ways _ b y)
      type_has u _ (type j c w x y there first) = (j, c, (there, first), refl)
      type_has u _ (constructor j c w x y there first) = absurd (both_ways _ y u)

      type_arity : is_type_name name ≡ true → Decided ((j : ℕ) × (c : DeclText) × FirstOf ds name j c) → Arity ds d name
      type_arity u (inl (j, c, f)) =
          inl (length c.vars, type j c v b u f.0 f.1, λ m h. let g = type_has u m h in g.3 ∙ ap (λ (x : DeclText). length x.vars) (one_there ds (IsConstructorOf ds name) (λ i a there. there.there) g.0 j g.1 c g.2 f))
      type_arity u (inr none) = inr (λ h. let g = type_has u h.0 h.1 in none (g.0, g.1, g.2))

      -- and any other name that of the first constructor of this name
      pub name_has : is_type_name name ≡ false → (m : ℕ) → HasArity ds d name m → (j : ℕ) × (c : DeclText) × FirstNamed ds name j c × (m ≡ length c.vars)
      name_has u _ (variable w) = absurd (both_ways _ v w)
      name_has u _ (vector w x) = absurd (both_ways _ b (vector_built_in name x))
      name_has u _ (built_in w x y) = absurd (both_ways _ b y)
      name_has u _ (type j c w x y there first) = absurd (both_ways _ u y)
      name_has u _ (constructor j c w x y there first) = (j, c, (there, first), refl)

      name_arity : is_type_name name ≡ false → Decided ((j : ℕ) × (c : DeclText) × FirstNamed ds name j c) → Arity ds d name
      name_arity u (inl (j, c, f)) =
          inl (length c.vars, constructor j c v b u f.0 f.1, λ m h. let g = name_has u m h in g.3 ∙ ap (λ (x : DeclText). length x.vars) (one_there ds (IsConstructorNamed ds name) (λ i a there. there.there) g.0 j g.1 c g.2 f))
      name_arity u (inr none) = inr (λ h. let g = name_has u h.0 h.1 in none (g.0, g.1, g.2))

      declared_arity : (is_type_name name ≡ true) ⊎ (is_type_name name ≡ false) → Arity ds d name
      declared_arity (inl u) = type_arity u (first_decided ds (IsConstructorOf ds name) (λ j c there. there.there) (constructor_at_decided ds name))
      declared_arity (inr u) = name_arity u (first_decided ds (IsConstructorNamed ds name) (λ j c there. there.there) (named_at_decided ds name))

    no_vector_arity : is_vector_name name ≡ false → (is_built_in name ≡ true) ⊎ (is_built_in name ≡ false) → Arity ds d name
    no_vector_arity x (inl b) = inl (0, built_in v x b, built_in_has x b)
    no_vector_arity x (inr b) = declared_arity b (cases_Bool (is_type_name name))

    no_variable_arity : (is_vector_name name ≡ true) ⊎ (is_vector_name name ≡ false) → Arity ds d name
    no_variable_arity (inl x) = inl (1, vector v x, vector_has x)
    no_variable_arity (inr x) = no_vector_arity x (cases_Bool (is_built_in name))

  arity_by : (is_variable d name ≡ true) ⊎ (is_variable d name ≡ false) → Arity ds d name
  arity_by (inl v) = inl (0, variable v, variable_has v)
  arity_by (inr v) = no_variable_arity v (cases_Bool (is_vector_name name))

  pub arity : Arity ds d name
  arity = arity_by (cases_Bool (is_variable d name))

  one_of : Arity ds d name → (m n : ℕ) → HasArity ds d name m → HasArity ds d name n → m ≡ n
  one_of (inl (l, h, only)) m n f g = only m f ∙ sym (only n g)
  one_of (inr none) m n f g = absurd (none (m, f))

  -- a name has at most one number of variables
  pub one_arity : (m n : ℕ) → HasArity ds d name m → HasArity ds d name n → m ≡ n
  one_arity = one_of arity

  other_of : (k : ℕ) → Arity ds d name → Decided ((n : ℕ) × HasArity ds d name n × (k ≢ n))
  other_of k (inl (n, h, only)) = decided_as (λ other. (n, h, other)) (λ g e. g.2 (e ∙ sym (only g.0 g.1))) (decided_not (cases_eq k n))
  other_of k (inr none) = inr (λ h. none (h.0, h.1))

  -- it has another number of them
  pub other_arity_decided : (k : ℕ) → Decided ((n : ℕ) × HasArity ds d name n × (k ≢ n))
  other_arity_decided k = other_of k arity
