-- The declaration with a number: whether it is found.
use Rattle.std.proofs.Common.{◌≡◌, ◌≢◌, ℕ, zero, suc, ◌+◌, ◌<◌, ◌^◌, List, [], ◌∷◌, length, Some, None, refl, ap, sym, ◌∙◌, arith, Bool, true, false, true≢false, ◌&&◌}
use Rattle.std.specs.Prelude.{slice_get}
use Rattle.std.proofs.lemmas.Bool.{eqb-true, eq-eqb}
use Rattle.tl_numbers.specs.declared.numbers.TheConstants.{PACKED}
use Rattle.tl_schema.specs.Schemas.{Declaration, Declared}
use Rattle.tl_names.specs.Indexes.{types_of}
use Rattle.tl_schema.specs.Formed.{IsMember, IsFunction, IsOwn}
use Rattle.tl_types.specs.Refusal.{IsMemberNumber, IsFunctionNumber}
use Rattle.tl_types.specs.inner.Reading.{first_from, is_member, is_function, fields_in}

-- what is used of the numbers of a schema's declarations
pub record NumbersTell (schema : Declared) : Type 0 where
  pub members : (h i j : ℕ) (d e : Declaration) → IsMember schema h i d → IsMember schema h j e → d.number ≡ e.number → i ≡ j
  pub functions : (i j : ℕ) (d e : Declaration) → IsFunction schema i d → IsFunction schema j e → d.number ≡ e.number → i ≡ j
  pub fits : (i : ℕ) (d : Declaration) → slice_get schema.decls i ≡ Some d → d.number < 2 ^ 32
  pub unpacked : (i : ℕ) (d : Declaration) → slice_get schema.decls i ≡ Some d → d.number ≢ PACKED
  pub constructs : (h i : ℕ) (d : Declaration) → IsMember schema h i d → d.function ≡ false
  pub own_members : (h i : ℕ) (d : Declaration) → IsMember schema h i d → IsOwn schema i
  pub own_functions : (i : ℕ) (d : Declaration) → IsFunction schema i d → IsOwn schema i

pub some_is : {A : Type 0} (x y : A) → Some x ≡ Some y → x ≡ y
some_is x y e = cc

none_is_some : {A : Type 0} (x : A) → None ≡ Some x → ⊥
none_is_some x e = cc

both_true : (a b : Bool) → a ≡ true → b ≡ true → (a && b) ≡ true
both_true true b e h = h
both_true false b e h = absurd cc

both_of : (a b : Bool) → (a && b) ≡ true → (a ≡ true) × (b ≡ true)
both_of true b e = (refl, e)
both_of false b e = absurd cc

pub by_test : (b : Bool) → {P : Type 0} → (b ≡ true → P) → (b ≡ false → P) → P
by_test true {P = P} holds fails = holds refl
by_test false {P = P} holds fails = fails refl

fails_test : (b : Bool) → (b ≡ true → ⊥) → b ≡ false
fails_test true h = absurd (h refl)
fails_test false h = refl

-- ---- the first that passes a test

-- declaration i passes the test
abbrev PassesTest : (Declaration → Bool) → List Declaration → ℕ → Type 0
PassesTest test ds i = (d : Declaration) × (slice_get ds i ≡ Some d) × (test d ≡ true)

finds : (test : Declaration → Bool) (ds : List Declaration) (i j : ℕ) → PassesTest test ds i → ((k : ℕ) → PassesTest test ds k → k ≡ i) → first_from test j ds ≡ Some (j + i)
finds test [] i j (d, there, is) only = absurd (none_is_some d there)
finds test (e ∷ ds) zero j (d, there, is) only = let here : test e ≡ true = ap test (some_is e d there) ∙ is in rw here (ap Some (omega arith))
finds test (e ∷ ds) (suc i) j (d, there, is) only =
    let other : test e ≡ false = fails_test (test e) (λ same. let z : 0 ≡ suc i = only 0 (e, refl, same) in absurd (omega (arith, z))) in
    rw other (finds test ds i (suc j) (d, there, is) (λ k p. let up : suc k ≡ suc i = only (suc k) p in omega (arith, up)) ∙ ap Some (omega arith))

finds_none : (test : Declaration → Bool) (ds : List Declaration) (j : ℕ) → ((i : ℕ) → PassesTest test ds i → ⊥) → first_from test j ds ≡ None
finds_none test [] j none = refl
finds_none test (e ∷ ds) j none =
    let other : test e ≡ false = fails_test (test e) (λ same. none 0 (e, refl, same)) in
    rw other (finds_none test ds (suc j) (λ i p. none (suc i) p))

-- one passes, or none does
pub data Sought (test : Declaration → Bool) (ds : List Declaration) : Type 0 where
  found : (i : ℕ) (d : Declaration) → slice_get ds i ≡ Some d → test d ≡ true → Sought test ds
  not_found : ((i : ℕ) (d : Declaration) → slice_get ds i ≡ Some d → test d ≡ true → ⊥) → Sought test ds

pub seek : (test : Declaration → Bool) (ds : List Declaration) → Sought test ds
seek test [] = not_found (λ i d there is. none_is_some d there)
seek test (e ∷ ds) =
    by_test (test e)
    (λ is. found 0 e refl is)
    (λ other. after (seek test ds) other)
  where
    after : Sought test ds → test e ≡ false → Sought test (e ∷ ds)
    after (found i d there is) other = found (suc i) d there is
    after (not_found not_there) other = not_found no_one
      where
        no_one : (i : ℕ) (d : Declaration) → slice_get (e ∷ ds) i ≡ Some d → test d ≡ true → ⊥
        no_one zero d there is = true≢false (sym is ∙ ap test (sym (some_is e d there)) ∙ other)
        no_one (suc i) d there is = not_there i d there is

pub fields_there : (ds : List Declaration) (i : ℕ) (d : Declaration) → slice_get ds i ≡ Some d → fields_in ds i ≡ d.fields
fields_there [] i d there = absurd (none_is_some d there)
fields_there (e ∷ ds) zero d there = ap (λ (x : Declaration). x.fields) (some_is e d there)
fields_there (e ∷ ds) (suc i) d there = fields_there ds i d there

-- ---- constructors of a type, and functions

-- a declaration of this kind has the number w, or none has
pub data SoughtNumber (Is : ℕ → Declaration → Type 0) (w : ℕ) : Type 0 where
  has : (i : ℕ) (d : Declaration) → Is i d → d.number ≡ w → SoughtNumber Is w
  lacks : ((i : ℕ) × (d : Declaration) × Is i d × (d.number ≡ w) → ⊥) → SoughtNumber Is w

module _ (schema : Declared) (tell : NumbersTell schema) where
  pub member_found : (h i : ℕ) (d : Declaration) → IsMember schema h i d → first_from (is_member h d.number) 0 schema.decls ≡ Some i
  member_found h i d m =
      finds (is_member h d.number) schema.decls i 0 (d, m.there, both_true _ _ (eq-eqb _ _ m.head) (eq-eqb _ _ refl))
      (λ k p.
      let both = both_of _ _ p.2 in
      tell.members h k i p.0 d (record { there = p.1; head = eqb-true _ _ both.0; known = m.known }) m (eqb-true _ _ both.1))
      ∙ ap Some (omega arith)

  pub function_found : (i : ℕ) (d : Declaration) → IsFunction schema i d → first_from (is_function d.number) 0 schema.decls ≡ Some i
  function_found i d m =
      finds (is_function d.number) schema.decls i 0 (d, m.there, both_true _ _ m.function (eq-eqb _ _ refl))
      (λ k p.
      let both = both_of _ _ p.2 in
      tell.functions k i p.0 d (record { there = p.1; function = both.0 }) m (eqb-true _ _ both.1))
      ∙ ap Some (omega arith)

  pub no_member : (h w : ℕ) → h < length (types_of schema.program) → (IsMemberNumber schema h w → ⊥) → first_from (is_member h w) 0 schema.decls ≡ None
  no_member h w known none =
      finds_none (is_member h w) schema.decls 0
      (λ i p.
      let both = both_of _ _ p.2 in
      none (i, p.0, record { there = p.1; head = eqb-true _ _ both.0; known = known }, eqb-true _ _ both.1))

  pub no_function : (w : ℕ) → (IsFunctionNumber schema w → ⊥) → first_from (is_function w) 0 schema.decls ≡ None
  no_function w none =
      finds_none (is_function w) schema.decls 0
      (λ i p.
      let both = both_of _ _ p.2 in
      none (i, p.0, record { there = p.1; function = both.0 }, eqb-true _ _ both.1))

  -- a constructor of the type with the number w, or none
  pub seek_member : (h w : ℕ) → h < length (types_of schema.program) → SoughtNumber (IsMember schema h) w
  seek_member h w known = told (seek (is_member h w) schema.decls)
    where
      told : Sought (is_member h w) schema.decls → SoughtNumber (IsMember schema h) w
      told (found i d there is) = let both = both_of _ _ is in has i d (record { there = there; head = eqb-true _ _ both.0; known = known }) (eqb-true _ _ both.1)
      told (not_found no_one) = lacks (λ m. no_one m.0 m.1 m.2.there (both_true _ _ (eq-eqb _ _ m.2.head) (eq-eqb _ _ m.3)))

  -- a function with the number w, or none
  pub seek_function : (w : ℕ) → SoughtNumber (IsFunction schema) w
  seek_function w = told (seek (is_function w) schema.decls)
    where
      told : Sought (is_function w) schema.decls → SoughtNumber (IsFunction schema) w
      told (found i d there is) = let both = both_of _ _ is in has i d (record { there = there; function = both.0 }) (eqb-true _ _ both.1)
      told (not_found no_one) = lacks (λ m. no_one m.0 m.1 m.2.there (both_true _ _ m.2.function (eq-eqb _ _ m.3)))
