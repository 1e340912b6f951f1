-- A call's result, field by field.
use Rattle.std.proofs.Common.{◌≡◌, ℕ, ◌+◌, ◌<◌, ◌≤◌, List, [], length, map, drop, get_or, replicate, Option, Some, None, Bool, true, false, refl, ap, ap₂, sym, ◌∙◌, subst, true≢false, add-one, drop-cons, Vec, Global}
use Rattle.std.proofs.lemmas.List.{drop_all}
use Rattle.tl_schema.specs.Types.{Shape}
use Rattle.tl_schema.specs.Types as type
use Rattle.tl_schema.specs.Schemas.{Slot, Declaration}
use Rattle.tl_schema.specs.Closing.{closed}
use Rattle.tl_schema.specs.Seen.{shape, slot, declaration}
use Rattle.tl_schema.specs.declared.schema.SchemaField.{SchemaField}
use Rattle.tl_schema.specs.declared.schema.Entry.{Entry}
use Rattle.tl_types.specs.Values.{ValueView, ValueViews, no_values, value}
use Rattle.tl_types.specs.Values as view
use Rattle.tl_types.specs.Parts.{fields_in}
use Rattle.tl_types.specs.Seen.{view, views}
use Rattle.tl_types.specs.declared.value.Value as own
use Rattle.tl_types.specs.declared.value.Value.{Value}
use Rattle.tl_types.proofs.Views.{view-Call}
use Rattle.tl_calls.specs.Results.{function_in, vars_in, result_in, result_type, results, with_result}
use Rattle.tl_calls.specs.inner.Making.{KnownSoFar}

-- ---- a call

-- whether the value is a call
abbrev pub is_call : ValueView → Bool
is_call (view.call i vs) = true
is_call v = false

pub result_no_call : (ds : List Declaration) (v : ValueView) → is_call v ≡ false → result_type ds v ≡ type.call
result_no_call ds (view.int z) e = refl
result_no_call ds (view.long z) e = refl
result_no_call ds (view.nat n) e = refl
result_no_call ds (view.opaque s) e = refl
result_no_call ds (view.text s) e = refl
result_no_call ds view.truth e = refl
result_no_call ds view.absent e = refl
result_no_call ds (view.list vs) e = refl
result_no_call ds (view.node i vs) e = refl
result_no_call ds (view.call i vs) e = absurd (true≢false e)

abbrev result_over : List Declaration → Option Declaration → ValueViews → Shape
result_over ds f vs = closed (results ds (replicate (vars_in f) type.call) (fields_in f) vs) (result_in f)

called_in : (ds : List Declaration) (v : Value) (i : ℕ) (fields : Vec Value Global) (f : Option Declaration) → v ≡ own.Call i fields → function_in ds i ≡ f → result_type ds (view v) ≡ result_over ds f (views fields.items)
called_in ds v i fields f is there = ap (result_type ds) (ap view is ∙ view-Call i fields) ∙ ap (λ (g : Option Declaration). result_over ds g (views fields.items)) there

-- a call of no function has the result `call`
pub result_not_called : (ds : List Declaration) (v : Value) (i : ℕ) (fields : Vec Value Global) → v ≡ own.Call i fields → function_in ds i ≡ None → result_type ds (view v) ≡ type.call
result_not_called ds v i fields is none = called_in ds v i fields None is none

-- a call of a function has its declared result, with those of the fields in place of its variables
pub result_called : (ds : List Declaration) (v : Value) (i : ℕ) (fields : Vec Value Global) (e : Entry) (vs : List Value) (fs : List SchemaField)
    → v ≡ own.Call i fields → function_in ds i ≡ Some (declaration e) → vs ≡ fields.items → fs ≡ e.fields.items
    → result_type ds (view v) ≡ closed (results ds (replicate e.vars type.call) (map slot fs) (views vs)) (shape e.result)
result_called ds v i fields e vs fs is there values slots =
    called_in ds v i fields (Some (declaration e)) is there
    ∙ ap₂ (λ (gs : List SchemaField) (ws : List Value). closed (results ds (replicate e.vars type.call) (map slot gs) (views ws)) (shape e.result)) (sym slots) (sym values)

-- ---- fields and values one by one

module _ (ds : List Declaration) (fs : List SchemaField) (vs : List Value) (whole : List Shape) where
  abbrev pub SoFar : (List Shape → Type 0) → ℕ → Type 0
  SoFar Knows i = KnownSoFar ds Knows (map slot (drop i fs)) (views (drop i vs)) whole

  module _ (Knows : List Shape → Type 0) (i : ℕ) where
    no_field : (Ts : List Shape) (ws : ValueViews) → results ds Ts [] ws ≡ Ts
    no_field Ts no_values = refl
    no_field Ts (value v ws) = refl

    -- no value is left
    pub no_value_left : length vs ≤ i → SoFar Knows i → Knows whole
    no_value_left past s =
        subst Knows (sym (ap (λ (ws : List Value). results ds s.Ts (map slot (drop i fs)) (views ws)) (drop_all i vs past)) ∙ s.rest) s.known

    -- no field is left
    pub no_field_left : length fs ≤ i → SoFar Knows i → Knows whole
    no_field_left past s =
        subst Knows (sym (ap (λ (gs : List SchemaField). results ds s.Ts (map slot gs) (views (drop i vs))) (drop_all i fs past) ∙ no_field s.Ts (views (drop i vs))) ∙ s.rest) s.known

  module _ (i : ℕ) (v : Value) (f : SchemaField) (within : i < length vs) (at : v ≡ get_or vs i v) (declared : i < length fs) (there : f ≡ get_or fs i f) where
    unrolled : (Ts : List Shape) → results ds Ts (map slot (drop i fs)) (views (drop i vs)) ≡ results ds (with_result f.var (result_type ds (view v)) Ts) (map slot (drop (i + 1) fs)) (views (drop (i + 1) vs))
    unrolled Ts = rw (add-one i, drop-cons vs i v within, drop-cons fs i f declared, ← at, ← there) refl

    -- one more field and its value
    pub next_field : (Knows After : List Shape → Type 0) → ((Ts : List Shape) → Knows Ts → After (with_result f.var (result_type ds (view v)) Ts)) → SoFar Knows i → SoFar After (i + 1)
    next_field Knows After step s = record {
      Ts = with_result f.var (result_type ds (view v)) s.Ts;
      known = step s.Ts s.known;
      rest = sym (unrolled s.Ts) ∙ s.rest;
    }

-- before the first field
pub known_first : (ds : List Declaration) (fs : List Slot) (vs : ValueViews) (Knows : List Shape → Type 0) (Ts : List Shape) → Knows Ts → KnownSoFar ds Knows fs vs (results ds Ts fs vs)
known_first ds fs vs Knows Ts knows = record { Ts = Ts; known = knows; rest = refl }
