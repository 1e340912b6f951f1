-- The next part of a frame.
use Rattle.std.proofs.Common.{◌≡◌, ℕ, zero, suc, ◌+◌, ◌<◌, ◌≤◌, Bor, List, [], ◌∷◌, ◌++◌, length, drop, take, get_or, map, Option, None, Bool, refl, sym, ap, ◌∙◌, subst, add-one, arith}
use Rattle.std.proofs.lemmas.List.{drop_all, drop_more, map_push, take_more}
use Rattle.tl_schema.specs.declared.schema.SchemaField.{SchemaField}
use Rattle.tl_plan.specs.Plans.{PlanView}
use Rattle.tl_types.specs.Fitting.{bit_of, inside, misfit, or_else}
use Rattle.tl_types.specs.Seen.{view, views}
use Rattle.tl_types.specs.declared.value.Value.{Value}
use Rattle.tl_encode.specs.declared.frames.WalkFrame.{WalkFrame}
use Rattle.tl_encode.specs.declared.frames.Part.{Part}
use Rattle.tl_encode.specs.declared.frames.PartInstances.{PartInstances}
use Rattle.tl_encode.specs.declared.frames.PartInstances.TheVariants.{Elements, Fields}
use Rattle.tl_encode.specs.inner.Bytes.{spelling}
use Rattle.tl_encode.specs.inner.Walks.{AreInstances, HasInstances, IsNextPart, bytes_from, misfit_from, type_at, weight, weights}

module _ (p : PlanView) where
  -- the instance of a field is one of the plan's
  pub instance_at : (ks : List ℕ) (i k : ℕ) → AreInstances p ks → i < length ks → k ≡ get_or ks i k → k < length p.instances
  instance_at ks i k are lt is = at ks i k are lt (sym is)
    where
      at : (ks : List ℕ) (i k : ℕ) → AreInstances p ks → i < length ks → get_or ks i k ≡ k → k < length p.instances
      at [] i k are lt is = absurd (omega (arith, lt))
      at (j ∷ ks) zero k are lt is = subst (λ (n : ℕ). n < length p.instances) is are.0
      at (j ∷ ks) (suc i) k are lt is = at ks i k are.1 (omega (arith, lt)) is

  module _ (vs : List Value) (i : ℕ) (v : Value) (within : i < length vs) (is : v ≡ get_or vs i v) where
    cut : drop i vs ≡ v ∷ drop (i + 1) vs
    cut = drop_more vs i v within ∙ ap (λ (x : Value). x ∷ drop (i + 1) vs) (sym is)

    pub weight_step : 1 + weights (views (drop i vs)) ≡ weight (view v) + (1 + weights (views (drop (i + 1) vs)))
    weight_step = ap (λ (l : List Value). 1 + weights (views l)) cut ∙ omega arith

    pub element_misfit : (of n : ℕ) → misfit_from p n (Elements of) vs i ≡ or_else (inside i (misfit p.schema.decls n None (type_at p of) (view v))) (misfit_from p n (Elements of) vs (i + 1))
    element_misfit of n = rw (cut, add-one i) refl

    pub element_bytes : (of : ℕ) → bytes_from p (Elements of) vs i ≡ spelling p.schema.decls (type_at p of) (view v) ++ bytes_from p (Elements of) vs (i + 1)
    element_bytes of = rw (cut) refl

    module _ (of : Bor (List ℕ)) (slots : Bor (List SchemaField)) (k : ℕ) (f : SchemaField)
        (own : i < length of.now) (own_is : k ≡ get_or of.now i k) (declared : i < length slots.now) (declared_is : f ≡ get_or slots.now i f) where
      cut_of : drop i of.now ≡ k ∷ drop (i + 1) of.now
      cut_of = drop_more of.now i k own ∙ ap (λ (x : ℕ). x ∷ drop (i + 1) of.now) (sym own_is)

      cut_slots : drop i slots.now ≡ f ∷ drop (i + 1) slots.now
      cut_slots = drop_more slots.now i f declared ∙ ap (λ (x : SchemaField). x ∷ drop (i + 1) slots.now) (sym declared_is)

      one_more : map view (take i vs) ++ view v ∷ [] ≡ map view (take (i + 1) vs)
      one_more = sym (ap (map view) (take_more vs i v within ∙ ap (λ (x : Value). take i vs ++ x ∷ []) (sym is)) ∙ map_push view (take i vs) v)

      pub field_misfit_step : (n : ℕ) (bit : Option Bool) → bit ≡ bit_of f.cond (map view (take i vs))
          → misfit_from p n (Fields of slots) vs i ≡ or_else (inside i (misfit p.schema.decls n bit (type_at p k) (view v))) (misfit_from p n (Fields of slots) vs (i + 1))
      field_misfit_step n bit stands = rw (← one_more, stands, cut, cut_of, cut_slots, add-one i) refl

      pub field_bytes_step : bytes_from p (Fields of slots) vs i ≡ spelling p.schema.decls (type_at p k) (view v) ++ bytes_from p (Fields of slots) vs (i + 1)
      field_bytes_step = rw (cut, cut_of) refl

  -- ---- the part that is told

  pub element_next : (f : WalkFrame) (of : ℕ) (x : Part) → f.parts ≡ Elements of → f.at < length f.values.now → x.value.now ≡ get_or f.values.now f.at x.value.now → x.of ≡ of → x.bit ≡ None
      → HasInstances p f.parts → IsNextPart p f x
  element_next f of x parts within is of_is bit_is are =
      let here = subst (HasInstances p) parts are in
      record {
        instance = subst (λ (k : ℕ). k < length p.instances) (sym of_is) here;
        misfit = λ n. rw (parts, of_is, bit_is) (element_misfit f.values.now f.at x.value.now within is of n);
        bytes = rw (parts, of_is) (element_bytes f.values.now f.at x.value.now within is of);
        weight = weight_step f.values.now f.at x.value.now within is;
      }

  pub field_next : (f : WalkFrame) (of : Bor (List ℕ)) (slots : Bor (List SchemaField)) (x : Part) (s : SchemaField) → f.parts ≡ Fields of slots → f.at < length f.values.now
      → x.value.now ≡ get_or f.values.now f.at x.value.now → f.at < length of.now → x.of ≡ get_or of.now f.at x.of → f.at < length slots.now → s ≡ get_or slots.now f.at s
      → x.bit ≡ bit_of s.cond (map view (take f.at f.values.now)) → HasInstances p f.parts → IsNextPart p f x
  field_next f of slots x s parts within is own own_is declared declared_is stands are =
      let here = subst (HasInstances p) parts are in
      record {
        instance = instance_at of.now f.at x.of here own own_is;
        misfit = λ n. rw (parts) (field_misfit_step f.values.now f.at x.value.now within is of slots x.of s own own_is declared declared_is n x.bit stands);
        bytes = rw (parts) (field_bytes_step f.values.now f.at x.value.now within is of slots x.of s own own_is declared declared_is);
        weight = weight_step f.values.now f.at x.value.now within is;
      }

  -- ---- where no part is left

  pub none_left : (n : ℕ) (parts : PartInstances) (vs : List Value) (i : ℕ) → length vs ≤ i → misfit_from p n parts vs i ≡ None
  none_left n (Elements of) vs i past = rw (drop_all i vs past) refl
  none_left n (Fields of slots) vs i past = rw (drop_all i vs past) refl

  pub no_bytes_left : (parts : PartInstances) (vs : List Value) (i : ℕ) → length vs ≤ i → bytes_from p parts vs i ≡ []
  no_bytes_left (Elements of) vs i past = rw (drop_all i vs past) refl
  no_bytes_left (Fields of slots) vs i past = rw (drop_all i vs past) refl
