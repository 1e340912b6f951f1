-- The misfits of elements and of fields, one after the other.
use Rattle.std.proofs.Common.{◌≡◌, ℕ, ◌+◌, ◌<◌, ◌^◌, List, [], ◌∷◌, ◌++◌, length, drop, take, get_or, map, Option, None, Err, refl, sym, ap, ◌∙◌, add-one, drop-cons, arith, Vec, Global}
use Rattle.std.proofs.lemmas.List.{map_push, take_more}
use Rattle.tl_schema.specs.Types.{Shape}
use Rattle.tl_schema.specs.Closing.{closed}
use Rattle.tl_schema.specs.Schemas.{Declaration}
use Rattle.tl_schema.specs.Seen.{shape, slot}
use Rattle.tl_schema.specs.declared.schema.SchemaField.{SchemaField}
use Rattle.tl_types.specs.Fitting.{Bit, MisfitView, TellsMisfit, bit_of, each_misfit, field_misfit, inside, misfit, node_misfit, or_else}
use Rattle.tl_types.specs.Seen.{view, views}
use Rattle.tl_types.specs.declared.misfit.FitFault.{FitFault}
use Rattle.tl_types.specs.declared.misfit.FitFault.TheVariants as fault
use Rattle.tl_types.specs.declared.value.Value as own
use Rattle.tl_types.specs.declared.value.Value.{Value}
use Rattle.tl_types.proofs.NodePasses.{few_elements}
use Rattle.tl_types.proofs.ValueCounts.{counted}
use Rattle.tl_types.proofs.Views.{view-List}

-- a part's fault is the whole's
tells_first : (whole m later : Option MisfitView) (e : FitFault) → whole ≡ or_else m later → TellsMisfit m (Err e) → TellsMisfit whole (Err e)
tells_first whole m later (fault.Misfit told) is h = is ∙ rw h refl
tells_first whole m later fault.Memory is h = tt

-- a part that fits tells nothing of the whole
after_none : (m later : Option MisfitView) → m ≡ None → or_else m later ≡ later
after_none m later e = rw e refl

-- ---- elements

-- there are few of them
pub few_items : (ds : List Declaration) (n : ℕ) (bit : Bit) (T : Shape) (v : Value) (items : Vec Value Global) → v ≡ own.List items → node_misfit ds n bit T (view v) ≡ None → length items.items < 2 ^ 32
few_items ds n bit T v items is none =
    let few = few_elements ds n bit T (views items.items) (sym (ap (node_misfit ds n bit T) (ap view is ∙ view-List items)) ∙ none) in
    omega (arith, few, counted items.items)

module _ (ds : List Declaration) (n : ℕ) (T : Shape) (vs : List Value) (v : Value) (i : ℕ)
    (within : i < length vs) (at : v ≡ get_or vs i v) (before : each_misfit ds n T 0 (views vs) ≡ each_misfit ds n T i (views (drop i vs))) where
  own_misfit : Option MisfitView
  own_misfit = inside i (misfit ds n None T (view v))

  each_step : each_misfit ds n T 0 (views vs) ≡ or_else own_misfit (each_misfit ds n T (i + 1) (views (drop (i + 1) vs)))
  unfolding own_misfit
  each_step = before ∙ rw (add-one i, drop-cons vs i v within, ← at) refl

  pub each_fault : (e : FitFault) → TellsMisfit (inside i (misfit ds n None T (view v))) (Err e) → TellsMisfit (each_misfit ds n T 0 (views vs)) (Err e)
  unfolding own_misfit
  each_fault e h = tells_first _ own_misfit _ e each_step h

  pub each_more : inside i (misfit ds n None T (view v)) ≡ None → each_misfit ds n T 0 (views vs) ≡ each_misfit ds n T (i + 1) (views (drop (i + 1) vs))
  unfolding own_misfit
  each_more h = each_step ∙ after_none own_misfit _ h

-- ---- fields

module _ (ds : List Declaration) (n : ℕ) (bit : Bit) (args : List Shape) (fs : List SchemaField) (vs : List Value) (f : SchemaField) (v : Value) (i : ℕ)
    (within : i < length vs) (at : v ≡ get_or vs i v) (declared : i < length fs) (there : f ≡ get_or fs i f)
    (stands : bit ≡ bit_of f.cond (map view (take i vs)))
    (before : field_misfit ds n args [] 0 (map slot fs) (views vs) ≡ field_misfit ds n args (map view (take i vs)) i (map slot (drop i fs)) (views (drop i vs))) where
  field_own : Option MisfitView
  field_own = inside i (misfit ds n bit (closed args (shape f.of)) (view v))

  after_fields : Option MisfitView
  after_fields = field_misfit ds n args (map view (take (i + 1) vs)) (i + 1) (map slot (drop (i + 1) fs)) (views (drop (i + 1) vs))

  one_more : map view (take (i + 1) vs) ≡ map view (take i vs) ++ view v ∷ []
  one_more = ap (map view) (take_more vs i v within ∙ ap (λ (x : Value). take i vs ++ x ∷ []) (sym at)) ∙ map_push view (take i vs) v

  field_step : field_misfit ds n args [] 0 (map slot fs) (views vs) ≡ or_else field_own after_fields
  unfolding field_own after_fields
  field_step = before ∙ rw (one_more, stands, add-one i, drop-cons vs i v within, drop-cons fs i f declared, ← at, ← there) refl

  pub field_fault : (e : FitFault) → TellsMisfit (inside i (misfit ds n bit (closed args (shape f.of)) (view v))) (Err e) → TellsMisfit (field_misfit ds n args [] 0 (map slot fs) (views vs)) (Err e)
  unfolding field_own
  field_fault e h = tells_first _ field_own after_fields e field_step h

  pub field_more : inside i (misfit ds n bit (closed args (shape f.of)) (view v)) ≡ None
      → field_misfit ds n args [] 0 (map slot fs) (views vs) ≡ field_misfit ds n args (map view (take (i + 1) vs)) (i + 1) (map slot (drop (i + 1) fs)) (views (drop (i + 1) vs))
  unfolding field_own after_fields
  field_more h = field_step ∙ after_none field_own after_fields h
