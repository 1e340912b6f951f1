-- A call that is answered in its result has a formed one.
use Rattle.std.proofs.Common.{◌≡◌, inl, inr, ℕ, zero, suc, ◌<◌, List, [], ◌∷◌, length, get_or, set, replicate, slice_get, Option, Some, None, Bool, true, false, refl, ap, ◌∙◌, subst, arith, if◌then◌else◌}
use Rattle.tl_schema.specs.Types.{Shape, Shapes, int, long, nat, opaque, str, raw, flag, call, var, vector, boxed, bare, no_shapes, shape}
use Rattle.tl_schema.specs.Schemas.{Slot, Declaration, Declared}
use Rattle.tl_schema.specs.CheckedPrograms.{IsSchema}
use Rattle.tl_schema.specs.Closing.{closed, closed_each}
use Rattle.tl_schema.specs.Formed.{IsFormed, IsFormedOver, AreArguments, AppliesType, AppliesBare, count_of}
use Rattle.tl_types.specs.Values.{ValueView, ValueViews, no_values, value}
use Rattle.tl_types.specs.Values as view
use Rattle.tl_types.specs.Parts.{fields_in}
use Rattle.tl_calls.specs.Results.{HasEmptyArgument, HasEmptyAmong, function_in, if_function, vars_in, result_in, result_type, results, with_result}
use Rattle.tl_schema.specs.FormedLaws.{ResultsAreFormed}
use Rattle.tl_calls.specs.Laws.{AnsweredInFormed}

module _ (schema : Declared) where
  abbrev mutual
    -- a closed type that is formed but for arguments and elements that take no bytes
    IsApplied : Shape → Type 0
    IsApplied flag = ⊥
    IsApplied (var i) = ⊥
    IsApplied (vector is_boxed s) = IsApplied s
    IsApplied (boxed h ss) = AppliesType schema h (count_of ss) × AreApplied ss
    IsApplied (bare i ss) = AppliesBare schema i (count_of ss) × AreApplied ss
    IsApplied s = Unit {0}

    AreApplied : Shapes → Type 0
    AreApplied no_shapes = Unit {0}
    AreApplied (shape s ss) = IsApplied s × AreApplied ss

  mutual
    formed_of : (s : Shape) → IsApplied s → (HasEmptyArgument schema s → ⊥) → IsFormed schema s
    formed_of int a full = tt
    formed_of long a full = tt
    formed_of nat a full = tt
    formed_of (opaque k) a full = tt
    formed_of str a full = tt
    formed_of raw a full = tt
    formed_of flag a full = absurd a
    formed_of call a full = tt
    formed_of (var i) a full = absurd a
    formed_of (vector is_boxed s) a full = (formed_of s a (λ h. full (inr h)), λ h. full (inl h))
    formed_of (boxed h ss) a full = (a.0, all_formed ss a.1 full)
    formed_of (bare i ss) a full = (a.0, all_formed ss a.1 full)

    all_formed : (ss : Shapes) → AreApplied ss → (HasEmptyAmong schema ss → ⊥) → AreArguments schema 0 ss
    all_formed no_shapes a full = tt
    all_formed (shape s ss) a full = (formed_of s a.0 (λ h. full (inr (inl h))), λ h. full (inl h), all_formed ss a.1 (λ h. full (inr (inr h))))

  -- each of these types is such, and they are so many
  record AllApplied (n : ℕ) (Ts : List Shape) : Type 0 where
    count : length Ts ≡ n
    each : (k : ℕ) (d : Shape) → k < length Ts → IsApplied (get_or Ts k d)

  count_closed : (Ts : List Shape) (ss : Shapes) → count_of ss ≡ count_of (closed_each Ts ss)
  count_closed Ts no_shapes = refl
  count_closed Ts (shape s ss) = ap suc (count_closed Ts ss)

  module _ (n : ℕ) (Ts : List Shape) (are : AllApplied n Ts) where
    mutual
      closes : (s : Shape) → IsFormedOver schema n s → IsApplied (closed Ts s)
      closes int h = tt
      closes long h = tt
      closes nat h = tt
      closes (opaque k) h = tt
      closes str h = tt
      closes raw h = tt
      closes flag h = absurd h
      closes call h = tt
      closes (var i) h = are.each i (var i) (let count = are.count in omega (arith, h, count))
      closes (vector is_boxed s) h = closes s h.0
      closes (boxed k ss) h = (subst (AppliesType schema k) (count_closed Ts ss) h.0, closes_each ss h.1)
      closes (bare k ss) h = (subst (AppliesBare schema k) (count_closed Ts ss) h.0, closes_each ss h.1)

      closes_each : (ss : Shapes) → AreArguments schema n ss → AreApplied (closed_each Ts ss)
      closes_each no_shapes h = tt
      closes_each (shape s ss) h = (closes s h.0, closes_each ss h.2)

  -- so many calls of any function
  all_calls : (n : ℕ) → AllApplied n (replicate n call)
  all_calls zero = record { count = refl; each = λ k d below. absurd (omega (arith, below)) }
  all_calls (suc n) = let rest = all_calls n in record { count = ap suc rest.count; each = at rest }
    where
      at : AllApplied n (replicate n call) → (k : ℕ) (d : Shape) → k < suc (length (replicate n call)) → IsApplied (get_or (call ∷ replicate n call) k d)
      at rest zero d below = tt
      at rest (suc k) d below = rest.each k d (omega (arith, below))

  set_count : (Ts : List Shape) (i : ℕ) (T : Shape) → length (set Ts i T) ≡ length Ts
  set_count [] i T = refl
  set_count (U ∷ Ts) zero T = refl
  set_count (U ∷ Ts) (suc i) T = ap suc (set_count Ts i T)

  set_applied : (Ts : List Shape) (i : ℕ) (T : Shape) → IsApplied T → ((k : ℕ) (d : Shape) → k < length Ts → IsApplied (get_or Ts k d)) → (k : ℕ) (d : Shape) → k < length Ts → IsApplied (get_or (set Ts i T) k d)
  set_applied [] i T a each k d below = absurd (omega (arith, below))
  set_applied (U ∷ Ts) zero T a each zero d below = a
  set_applied (U ∷ Ts) zero T a each (suc k) d below = each (suc k) d below
  set_applied (U ∷ Ts) (suc i) T a each zero d below = each zero d below
  set_applied (U ∷ Ts) (suc i) T a each (suc k) d below = set_applied Ts i T a (λ j e less. each (suc j) e (omega (arith, less))) k d (omega (arith, below))

  one_more : (n : ℕ) (o : Option ℕ) (T : Shape) (Ts : List Shape) → IsApplied T → AllApplied n Ts → AllApplied n (with_result o T Ts)
  one_more n None T Ts a are = are
  one_more n (Some i) T Ts a are = record {
    count = set_count Ts i T ∙ are.count;
    each = λ k d below. set_applied Ts i T a are.each k d (let same = set_count Ts i T in omega (arith, below, same));
  }

  module _ (results_are_formed : ResultsAreFormed) (good : IsSchema schema) where
    is_function : (o : Option Declaration) (d : Declaration) → if_function o ≡ Some d → (o ≡ Some d) × (d.function ≡ true)
    is_function None d e = cc
    is_function (Some x) d e = by x.function refl e
      where
        by : (b : Bool) → x.function ≡ b → (if b then Some x else None) ≡ Some d → (Some x ≡ Some d) × (d.function ≡ true)
        by true is same = (same, subst (λ (y : Declaration). y.function ≡ true) (some_is x d same) is)
          where
            some_is : (a b : Declaration) → Some a ≡ Some b → a ≡ b
            some_is a b s = cc
        by false is same = cc

    result_formed : (i : ℕ) (o : Option Declaration) → function_in schema.decls i ≡ o → IsFormedOver schema (vars_in o) (result_in o)
    result_formed i None e = tt
    result_formed i (Some d) e = let f = is_function (slice_get schema.decls i) d e in results_are_formed schema good i d (record { there = f.0; function = f.1 })

    mutual
      applied : (v : ValueView) → IsApplied (result_type schema.decls v)
      applied (view.int z) = tt
      applied (view.long z) = tt
      applied (view.nat n) = tt
      applied (view.opaque s) = tt
      applied (view.text s) = tt
      applied view.truth = tt
      applied view.absent = tt
      applied (view.list vs) = tt
      applied (view.node i vs) = tt
      applied (view.call i vs) =
          let f = function_in schema.decls i in
          closes (vars_in f) (results schema.decls (replicate (vars_in f) call) (fields_in f) vs) (all_applied (vars_in f) vs (fields_in f) (replicate (vars_in f) call) (all_calls (vars_in f))) (result_in f) (result_formed i f refl)

      all_applied : (n : ℕ) (vs : ValueViews) (fs : List Slot) (Ts : List Shape) → AllApplied n Ts → AllApplied n (results schema.decls Ts fs vs)
      all_applied n no_values fs Ts are = are
      all_applied n (value v vs) [] Ts are = are
      all_applied n (value v vs) (f ∷ fs) Ts are = all_applied n vs fs (with_result f.var (result_type schema.decls v) Ts) (one_more n f.var (result_type schema.decls v) Ts (applied v) are)

pub answered_in_formed : ResultsAreFormed → AnsweredInFormed
answered_in_formed results schema good v has = formed_of schema (result_type schema.decls v) (applied schema results good v) has.full
