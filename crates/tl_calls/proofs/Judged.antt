-- The traits of types from those of their parts, with others in place of variables.
use Rattle.std.proofs.Common.{◌≡◌, ◌⊎◌, inl, inr, ℕ, zero, suc, ◌+◌, ◌-◌, ◌<◌, ◌≤◌, ◌^◌, min, max, List, [], ◌∷◌, ◌++◌, length, map, get_or, set, replicate, Option, Some, Bool, true, false, ◌||◌, IsTrue, ◌↔◌, refl, ap, sym, ◌∙◌, subst, true≢false, take, arith, Vec, Global}
use Rattle.std.specs.Prelude.{Box}
use Rattle.std.proofs.lemmas.Bool.Decides.{Decides-or}
use Rattle.std.proofs.lemmas.List.{map_push, take_more, take_all, replicate-append-replicate}
use Rattle.tl_schema.specs.Types.{Shape, Shapes, no_shapes, shape, shapes_of}
use Rattle.tl_schema.specs.Types as type
use Rattle.tl_schema.specs.Schemas.{Declared}
use Rattle.tl_schema.specs.Closing.{closed, closed_each}
use Rattle.tl_schema.specs.Formed.{IsEmpty}
use Rattle.tl_names.specs.BareFields.{TakesNone}
use Rattle.tl_plan.specs.Types.{levels, deepest}
use Rattle.tl_schema.specs.Seen as seen
use Rattle.tl_schema.specs.declared.schema.TypeRef as ref
use Rattle.tl_schema.specs.declared.schema.TypeRef.{TypeRef}
use Rattle.tl_types.proofs.Views.{shape-Var, shape-Vector, shape-Boxed, shape-Bare}
use Rattle.tl_calls.specs.Results.{HasEmptyArgument, HasEmptyAmong, with_result}
use Rattle.tl_calls.specs.inner.Judging.{counted, plain, AreTraits, AreTraitsAmong, KnowsTraits, TraitsStand, TraitsStandAmong}
use Rattle.tl_calls.specs.declared.traits.Traits.{Traits}

-- no arguments
abbrev pub no_arguments : Traits
no_arguments = record { levels = 0; empty = false; holds_empty = false }

never : IsTrue false ↔ ⊥
never = (λ h. true≢false (sym h), λ h. absurd h)

one_more : (n k : ℕ) → k ≡ counted n → min (k + 1) (2 ^ 64 - 1) ≡ counted (suc n)
one_more n k e = omega (arith, e)

-- whether the type is no variable and has no parts
abbrev pub is_leaf : Shape → Bool
is_leaf (type.var i) = false
is_leaf (type.vector is_boxed T) = false
is_leaf (type.boxed h args) = false
is_leaf (type.bare i args) = false
is_leaf T = true

module _ (schema : Declared) where
  -- ---- types of one level

  pub plain_any : AreTraits schema type.call plain
  plain_any = record { deep = omega arith; empty = never; holds_empty = never }

  pub plain_var : (i : ℕ) → AreTraits schema (type.var i) plain
  plain_var i = record { deep = omega arith; empty = never; holds_empty = never }

  leaf_traits : (Ts : List Shape) (T : Shape) → is_leaf T ≡ true → AreTraits schema (closed Ts T) plain
  leaf_traits Ts type.int e = record { deep = omega arith; empty = never; holds_empty = never }
  leaf_traits Ts type.long e = record { deep = omega arith; empty = never; holds_empty = never }
  leaf_traits Ts type.nat e = record { deep = omega arith; empty = never; holds_empty = never }
  leaf_traits Ts (type.opaque n) e = record { deep = omega arith; empty = never; holds_empty = never }
  leaf_traits Ts type.str e = record { deep = omega arith; empty = never; holds_empty = never }
  leaf_traits Ts type.raw e = record { deep = omega arith; empty = never; holds_empty = never }
  leaf_traits Ts type.flag e = record { deep = omega arith; empty = never; holds_empty = never }
  leaf_traits Ts type.call e = record { deep = omega arith; empty = never; holds_empty = never }
  leaf_traits Ts (type.var i) e = absurd (true≢false (sym e))
  leaf_traits Ts (type.vector is_boxed T) e = absurd (true≢false (sym e))
  leaf_traits Ts (type.boxed h args) e = absurd (true≢false (sym e))
  leaf_traits Ts (type.bare i args) e = absurd (true≢false (sym e))

  -- ---- what is applied

  pub vector_traits : (is_boxed : Bool) (T : Shape) (t : Traits) (n : ℕ) (holds : Bool) → n ≡ min (t.levels + 1) (2 ^ 64 - 1) → holds ≡ (t.empty || t.holds_empty) → AreTraits schema T t
      → AreTraits schema (type.vector is_boxed T) (record { levels = n; empty = false; holds_empty = holds })
  vector_traits is_boxed T t n holds count is are =
      let or = Decides-or t.empty t.holds_empty are.empty are.holds_empty in record {
        deep = count ∙ one_more (levels T) t.levels are.deep;
        empty = never;
        holds_empty = (λ h. or.0 (sym is ∙ h), λ h. is ∙ or.1 h);
      }

  pub boxed_traits : (h : ℕ) (args : List Shape) (t : Traits) (n : ℕ) → n ≡ min (t.levels + 1) (2 ^ 64 - 1) → AreTraitsAmong schema args t
      → AreTraits schema (type.boxed h (shapes_of args)) (record { levels = n; empty = false; holds_empty = t.holds_empty })
  boxed_traits h args t n count are = record { deep = count ∙ one_more (deepest (shapes_of args)) t.levels are.deep; empty = never; holds_empty = are.holds_empty }

  pub bare_traits : (i : ℕ) (args : List Shape) (t : Traits) (n : ℕ) (empty : Bool) → n ≡ min (t.levels + 1) (2 ^ 64 - 1) → (IsTrue empty ↔ TakesNone schema.program i) → AreTraitsAmong schema args t
      → AreTraits schema (type.bare i (shapes_of args)) (record { levels = n; empty = empty; holds_empty = t.holds_empty })
  bare_traits i args t n empty count is are = record { deep = count ∙ one_more (deepest (shapes_of args)) t.levels are.deep; empty = is; holds_empty = are.holds_empty }

  -- ---- arguments

  pub none_among : AreTraitsAmong schema [] no_arguments
  none_among = record { deep = omega arith; holds_empty = never }

  deepest_push : (Ts : List Shape) (T : Shape) → deepest (shapes_of (Ts ++ T ∷ [])) ≡ max (deepest (shapes_of Ts)) (levels T)
  deepest_push [] T = omega arith
  deepest_push (U ∷ Ts) T = let rest = deepest_push Ts T in omega (arith, rest)

  empty_push : (Ts : List Shape) (T : Shape) → HasEmptyAmong schema (shapes_of (Ts ++ T ∷ [])) ↔ (HasEmptyAmong schema (shapes_of Ts) ⊎ (IsEmpty schema T ⊎ HasEmptyArgument schema T))
  empty_push [] T = (
    λ h. elim h [
      | inl e ↦ inr (inl e)
      | inr rest ↦ elim rest [
        | inl e ↦ inr (inr e)
        | inr e ↦ absurd e
      ]
    ],
    λ h. elim h [
      | inl e ↦ absurd e
      | inr last ↦ elim last [
        | inl e ↦ inl e
        | inr e ↦ inr (inl e)
      ]
    ],
  )
  empty_push (U ∷ Ts) T = let rest = empty_push Ts T in (
    λ h. elim h [
      | inl e ↦ inl (inl e)
      | inr later ↦ elim later [
        | inl e ↦ inl (inr (inl e))
        | inr e ↦ elim (rest.0 e) [
          | inl before ↦ inl (inr (inr before))
          | inr last ↦ inr last
        ]
      ]
    ],
    λ h. elim h [
      | inl before ↦ elim before [
        | inl e ↦ inl e
        | inr later ↦ elim later [
          | inl e ↦ inr (inl e)
          | inr e ↦ inr (inr (rest.1 (inl e)))
        ]
      ]
      | inr last ↦ inr (inr (rest.1 (inr last)))
    ],
  )

  pub joined_traits : (Ts : List Shape) (T : Shape) (among last : Traits) (n : ℕ) (holds : Bool) → n ≡ max among.levels last.levels → holds ≡ (among.holds_empty || (last.empty || last.holds_empty)) → AreTraitsAmong schema Ts among → AreTraits schema T last
      → AreTraitsAmong schema (Ts ++ T ∷ []) (record { levels = n; empty = false; holds_empty = holds })
  joined_traits Ts T among last n holds count is before at =
      let push = empty_push Ts T in
      let or = Decides-or among.holds_empty (last.empty || last.holds_empty) before.holds_empty (Decides-or last.empty last.holds_empty at.empty at.holds_empty) in record {
        deep = (let a = before.deep in let b = at.deep in let e = deepest_push Ts T in omega (arith, count, a, b, e));
        holds_empty = (λ h. push.1 (or.0 (sym is ∙ h)), λ h. is ∙ or.1 (push.0 h));
      }

  -- ---- variables

  known_at : (Ts : List Shape) (ts : List Traits) (k : ℕ) (d : Shape) → KnowsTraits schema Ts ts → AreTraits schema d plain → AreTraits schema (get_or Ts k d) (get_or ts k plain)
  known_at [] [] k d knows past = past
  known_at [] (t ∷ ts) k d knows past = absurd knows
  known_at (T ∷ Ts) [] k d knows past = absurd knows
  known_at (T ∷ Ts) (t ∷ ts) zero d knows past = knows.0
  known_at (T ∷ Ts) (t ∷ ts) (suc k) d knows past = known_at Ts ts k d knows.1 past

  pub var_stands : (known : List Traits) (i : ℕ) → TraitsStand schema known (type.var i) (get_or known i plain)
  var_stands known i = λ Ts knows. known_at Ts known i (type.var i) knows (plain_var i)

  -- so many calls of any function
  pub knows_any : (n : ℕ) → KnowsTraits schema (replicate n type.call) (replicate n plain)
  knows_any zero = tt
  knows_any (suc n) = (plain_any, knows_any n)

  pub knows_set : (Ts : List Shape) (ts : List Traits) (i : ℕ) (T : Shape) (t : Traits) → KnowsTraits schema Ts ts → AreTraits schema T t → KnowsTraits schema (set Ts i T) (set ts i t)
  knows_set [] [] i T t knows are = knows
  knows_set [] (u ∷ ts) i T t knows are = absurd knows
  knows_set (U ∷ Ts) [] i T t knows are = absurd knows
  knows_set (U ∷ Ts) (u ∷ ts) zero T t knows are = (are, knows.1)
  knows_set (U ∷ Ts) (u ∷ ts) (suc i) T t knows are = (knows.0, knows_set Ts ts i T t knows.1 are)

  -- the result of a variable is known
  pub knows_one : (o : Option ℕ) (i : ℕ) (T : Shape) (Ts : List Shape) (t : Traits) (old new : List Traits) → o ≡ Some i → new ≡ set old i t → KnowsTraits schema Ts old → AreTraits schema T t → KnowsTraits schema (with_result o T Ts) new
  knows_one o i T Ts t old new is put knows are =
      subst (λ (p : Option ℕ). KnowsTraits schema (with_result p T Ts) new) (sym is) (subst (KnowsTraits schema (set Ts i T)) (sym put) (knows_set Ts old i T t knows are))

-- arguments are closed one by one
pub closed_args : (Ts : List Shape) (args : List Shape) → closed_each Ts (shapes_of args) ≡ shapes_of (map (closed Ts) args)
closed_args Ts [] = refl
closed_args Ts (T ∷ args) = ap (shape (closed Ts T)) (closed_args Ts args)

-- one more plain type
pub plain_more : (all : List Traits) (n : ℕ) → all ≡ replicate n plain → all ++ plain ∷ [] ≡ replicate (n + 1) plain
plain_more all n before = ap (λ (ts : List Traits). ts ++ plain ∷ []) before ∙ replicate-append-replicate n 1 plain

-- ---- the code's own types

module _ (schema : Declared) (known : List Traits) where
  pub stands_var : (t : TypeRef) (i : ℕ) (r : Traits) → t ≡ ref.Var i → r ≡ get_or known i plain → TraitsStand schema known (seen.shape t) r
  stands_var t i r is e = λ Ts knows.
      subst (λ (T : Shape). AreTraits schema (closed Ts T) r) (sym (shape-Var t i is)) (subst (AreTraits schema (closed Ts (type.var i))) (sym e) (var_stands schema known i Ts knows))

  pub stands_vector : (t : TypeRef) (is_boxed : Bool) (item : Box TypeRef Global) (u : TypeRef) (inner : Traits) (n : ℕ) (holds : Bool) → t ≡ ref.Vector is_boxed item → u ≡ item.value → n ≡ min (inner.levels + 1) (2 ^ 64 - 1) → holds ≡ (inner.empty || inner.holds_empty)
      → TraitsStand schema known (seen.shape u) inner → TraitsStand schema known (seen.shape t) (record { levels = n; empty = false; holds_empty = holds })
  stands_vector t is_boxed item u inner n holds is inside count or stands = λ Ts knows.
      subst (λ (T : Shape). AreTraits schema (closed Ts T) (record { levels = n; empty = false; holds_empty = holds })) (sym (shape-Vector t is_boxed item is ∙ ap (λ (x : TypeRef). type.vector is_boxed (seen.shape x)) (sym inside)))
      (vector_traits schema is_boxed (closed Ts (seen.shape u)) inner n holds count or (stands Ts knows))

  pub stands_boxed : (t : TypeRef) (h : ℕ) (args : Vec TypeRef Global) (inner : Traits) (n : ℕ) → t ≡ ref.Boxed h args → n ≡ min (inner.levels + 1) (2 ^ 64 - 1)
      → TraitsStandAmong schema known (map seen.shape args.items) inner → TraitsStand schema known (seen.shape t) (record { levels = n; empty = false; holds_empty = inner.holds_empty })
  stands_boxed t h args inner n is count stands = λ Ts knows.
      subst (λ (T : Shape). AreTraits schema T (record { levels = n; empty = false; holds_empty = inner.holds_empty }))
      (sym (ap (closed Ts) (shape-Boxed t h args is) ∙ ap (type.boxed h) (closed_args Ts (map seen.shape args.items)))) (boxed_traits schema h (map (closed Ts) (map seen.shape args.items)) inner n count (stands Ts knows))

  pub stands_bare : (t : TypeRef) (i : ℕ) (args : Vec TypeRef Global) (inner : Traits) (n : ℕ) (empty : Bool) → t ≡ ref.Bare i args → n ≡ min (inner.levels + 1) (2 ^ 64 - 1) → (IsTrue empty ↔ TakesNone schema.program i)
      → TraitsStandAmong schema known (map seen.shape args.items) inner → TraitsStand schema known (seen.shape t) (record { levels = n; empty = empty; holds_empty = inner.holds_empty })
  stands_bare t i args inner n empty is count takes stands = λ Ts knows.
      subst (λ (T : Shape). AreTraits schema T (record { levels = n; empty = empty; holds_empty = inner.holds_empty }))
      (sym (ap (closed Ts) (shape-Bare t i args is) ∙ ap (type.bare i) (closed_args Ts (map seen.shape args.items)))) (bare_traits schema i (map (closed Ts) (map seen.shape args.items)) inner n empty count takes (stands Ts knows))

  pub stands_leaf : (t : TypeRef) → is_leaf (seen.shape t) ≡ true → TraitsStand schema known (seen.shape t) plain
  stands_leaf t e = λ Ts knows. leaf_traits schema Ts (seen.shape t) e

  pub stand_none : TraitsStandAmong schema known [] no_arguments
  stand_none = λ Ts knows. none_among schema

  -- one more argument
  pub stand_more : (ts : List TypeRef) (i : ℕ) (t : TypeRef) (among last joined : Traits) → i < length ts → t ≡ get_or ts i t
      → ((S : Declared) (Ts : List Shape) (T : Shape) → AreTraitsAmong S Ts among → AreTraits S T last → AreTraitsAmong S (Ts ++ T ∷ []) joined)
      → TraitsStandAmong schema known (map seen.shape (take i ts)) among → TraitsStand schema known (seen.shape t) last → TraitsStandAmong schema known (map seen.shape (take (i + 1) ts)) joined
  stand_more ts i t among last joined within at joins before stands = λ Ts knows.
      let close : Shape → Shape = closed Ts in
      let push : map close (map seen.shape (take (i + 1) ts)) ≡ map close (map seen.shape (take i ts)) ++ close (seen.shape t) ∷ [] =
      ap (λ (us : List TypeRef). map close (map seen.shape us)) (take_more ts i t within ∙ ap (λ (x : TypeRef). take i ts ++ x ∷ []) (sym at)) ∙ ap (map close) (map_push seen.shape (take i ts) t) ∙ map_push close (map seen.shape (take i ts)) (seen.shape t) in
      subst (λ (Us : List Shape). AreTraitsAmong schema Us joined) (sym push) (joins schema (map close (map seen.shape (take i ts))) (close (seen.shape t)) (before Ts knows) (stands Ts knows))

  pub stand_all : (ts all : List TypeRef) (i : ℕ) (among : Traits) → ts ≡ all → length ts ≤ i → TraitsStandAmong schema known (map seen.shape (take i ts)) among → TraitsStandAmong schema known (map seen.shape all) among
  stand_all ts all i among same past stands = subst (λ (us : List TypeRef). TraitsStandAmong schema known (map seen.shape us) among) (take_all i ts past ∙ same) stands
