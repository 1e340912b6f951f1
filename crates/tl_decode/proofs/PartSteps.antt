-- The parts of a list or a record, one after the other, and a value that closes.
use Rattle.std.proofs.Common.{◌≡◌, ℕ, suc, ◌+◌, ◌-◌, ◌*◌, ◌≤◌, List, [], ◌∷◌, ◌++◌, length, map, drop, slice_get, Vec, Some, Ok, Err, refl, ap, sym, ◌∙◌, subst, arith, true, false}
use Rattle.std.specs.declared.alloc.Global.{Global}
use Rattle.std.proofs.lemmas.List.{length-map, map_push, length_push, drop_more, drop_all}
use Rattle.std.proofs.lemmas.Option.{slice_get_within, get_or_from_slice_get}
use Rattle.tl_schema.specs.Types.{Shape}
use Rattle.tl_schema.specs.Closing.{closed}
use Rattle.tl_schema.specs.Schemas.{Slot, Declaration}
use Rattle.tl_plan.specs.Types.{arguments_of}
use Rattle.tl_plan.specs.Plans.{PlanView}
use Rattle.tl_plan.specs.PlanLaws.{IsInstance}
use Rattle.tl_plan.specs.declared.instances.Member.{Member}
use Rattle.tl_types.specs.Values.{ValueView, values_of}
use Rattle.tl_types.specs.Values as value
use Rattle.tl_types.specs.Conditions.{stands_by}
use Rattle.tl_types.specs.Seen.{view}
use Rattle.tl_types.specs.inner.Reading.{Spot, Read, ◌>>=◌, value_at, each_at, fields_at, at_field, fields_in}
use Rattle.tl_types.specs.declared.value.Value.{Value}
use Rattle.tl_decode.specs.declared.stack.StackFrame.{StackFrame}
use Rattle.tl_decode.specs.declared.stack.StackFrame.TheVariants as frame
use Rattle.tl_decode.specs.declared.stack.Next.TheVariants as next
use Rattle.tl_decode.specs.declared.stack.Found.TheVariants as found
use Rattle.tl_decode.specs.declared.stack.Advance.TheVariants as step
use Rattle.tl_decode.specs.inner.Frames.{StackFrameView, in_list, in_record, frame_view, views, with_value, type_in, entry_in, goes_on, resume, resumes, made, levels_in, levels_below, cost, IsInPlan, AreWell, IsWellFrame, StepsFrom, parts_left, parts_after}
use Rattle.tl_decode.proofs.FrameLists.{bind_again, closing, resumes_push, levels_push, works_push, well_push, well_pop, one_part}
use Rattle.tl_decode.proofs.PlanTypes.{IsHere, instance_type, instance_within}

-- ---- one part is read, and then the others

list_goes : (ds : List Declaration) (n left k : ℕ) (T : Shape) (before : List ValueView) (s : Spot) → left ≡ suc k → goes_on ds n (in_list T left before) s ≡ closing ds n (in_list T k before) (value_at ds n T s)
unfolding goes_on each_at closing
list_goes ds n left k T before s e = rw e (bind_again (value_at ds n T s) (λ x. each_at (value_at ds n T) k (before ++ x.0 ∷ []) x.1) (λ x. Ok (value.list (values_of x.0), x.1)))

list_ends : (ds : List Declaration) (n left : ℕ) (T : Shape) (before : List ValueView) (s : Spot) → left ≡ 0 → goes_on ds n (in_list T left before) s ≡ Ok (value.list (values_of before), s)
unfolding goes_on each_at
list_ends ds n left T before s e = rw e refl

slots_from : (slots : List Slot) (k : ℕ) (f : Slot) → slice_get slots k ≡ Some f → drop k slots ≡ f ∷ drop (k + 1) slots
slots_from slots k f at = drop_more slots k f (slice_get_within slots k f at) ∙ ap (λ (x : Slot). x ∷ drop (k + 1) slots) (get_or_from_slice_get slots k f f at)

field_then : (ds : List Declaration) (n i : ℕ) (T : Shape) (slots : List Slot) (before : List ValueView) (r : Read ValueView)
    → ((r >>= λ x. fields_at (value_at ds n) (arguments_of T) (before ++ x.0 ∷ []) (drop (length before + 1) slots) x.1) >>= λ x. Ok (made T i (values_of x.0), x.1)) ≡ closing ds n (in_record T i slots before) r
unfolding goes_on closing
field_then ds n i T slots before (Ok x) = ap (λ (k : ℕ). fields_at (value_at ds n) (arguments_of T) (before ++ x.0 ∷ []) (drop k slots) x.1 >>= λ y. Ok (made T i (values_of y.0), y.1)) (sym (length_push before x.0))
field_then ds n i T slots before (Err e) = refl

field_goes : (ds : List Declaration) (n i : ℕ) (T : Shape) (slots : List Slot) (before : List ValueView) (f : Slot) (s : Spot) → slice_get slots (length before) ≡ Some f
    → goes_on ds n (in_record T i slots before) s ≡ closing ds n (in_record T i slots before) (at_field (value_at ds n) (arguments_of T) before f s)
unfolding goes_on fields_at
field_goes ds n i T slots before f s at = rw (slots_from slots (length before) f at) (field_then ds n i T slots before (at_field (value_at ds n) (arguments_of T) before f s))

record_ends : (ds : List Declaration) (n i : ℕ) (T : Shape) (slots : List Slot) (before : List ValueView) (s : Spot) → length slots ≤ length before → goes_on ds n (in_record T i slots before) s ≡ Ok (made T i (values_of before), s)
unfolding goes_on fields_at
record_ends ds n i T slots before s le = rw (drop_all (length before) slots le) refl

closing_ok : (ds : List Declaration) (n : ℕ) (f : StackFrameView) (v : ValueView) (s : Spot) → closing ds n f (Ok (v, s)) ≡ goes_on ds n (with_value f v) s
unfolding closing
closing_ok ds n f v s = refl

left_with : (f : StackFrameView) (v : ValueView) → parts_left (with_value f v) ≡ parts_after f
left_with (in_list T left before) v = refl
left_with (in_record T i slots before) v = ap (λ (k : ℕ). length slots - k) (length_push before v)

none_left : (p : PlanView) (v : Value) (s : Spot) → resumes p [] (Ok (view v, s)) ≡ Ok (view v, s)
unfolding resume
none_left p v s = refl

-- ---- a value closes

pub closes_all : (p : PlanView) (old new : List StackFrame) (v : Value) → old ≡ [] → new ≡ [] → StepsFrom p old (next.Close v) new (Ok (step.Stops (found.Done v)))
closes_all p old new v e f = rw (e, f) (record { frames = tt; is_well = tt; same = none_left p v }, omega arith)

pub closes_in : (p : PlanView) (old fs : List StackFrame) (f g : StackFrame) (v : Value) → old ≡ fs ++ f ∷ [] → AreWell p old → frame_view p g ≡ with_value (frame_view p f) (view v) → (IsWellFrame p f → IsWellFrame p g)
    → StepsFrom p old (next.Close v) fs (Ok (step.Goes (next.Part g)))
closes_in p old fs f g v e all seen ok =
    let both = well_pop p fs f (subst (AreWell p) e all) in
    let c = cost (levels_below (views p fs)) + 1 in
    let more = works_push p fs f in
    let same_left : parts_left (frame_view p g) * c ≡ parts_after (frame_view p f) * c = ap (λ (k : ℕ). k * c) (ap parts_left seen ∙ left_with (frame_view p f) (view v)) in
    rw e (
      record {
        frames = both.0;
        is_well = ok both.1;
        same = λ s.
            resumes_push p fs f (Ok (view v, s))
            ∙ ap (resumes p (views p fs)) (closing_ok p.schema.decls (levels_below (views p fs)) (frame_view p f) (view v) s ∙ ap (λ (h : StackFrameView). goes_on p.schema.decls (levels_below (views p fs)) h s) (sym seen));
      },
      omega (arith, more, same_left),
    )

module _ (p : PlanView) (fs : List StackFrame) (well : AreWell p fs) where
  abbrev vs : List StackFrameView
  vs = views p fs

  abbrev ds : List Declaration
  ds = p.schema.decls

  -- ---- elements

  pub list_closes : (j left : ℕ) (items : Vec Value Global) (v : Value) → left ≡ 0 → view v ≡ value.list (values_of (map view items.items)) → StepsFrom p fs (next.Part (frame.List j left items)) fs (Ok (step.Goes (next.Close v)))
  list_closes j left items v e seen = (
    record {
      frames = well;
      is_well = tt;
      same = λ s. ap (resumes p vs) (list_ends ds (levels_below vs) left (type_in p j) (map view items.items) s e ∙ ap (λ (x : ValueView). Ok (x, s)) (sym seen));
    },
    omega arith,
  )

  pub list_opens : (j left k : ℕ) (items : Vec Value Global) (new : List StackFrame) → left ≡ suc k → new ≡ fs ++ frame.List j k items ∷ [] → IsInPlan p j → StepsFrom p fs (next.Part (frame.List j left items)) new (Ok (step.Goes (next.Open j)))
  list_opens j left k items new e is within =
      let f = frame.List j k items in
      let c = cost (levels_below vs) in
      let levels = levels_push p fs f in
      let more = works_push p fs f in
      let cost_is : cost (levels_in (views p (fs ++ f ∷ []))) ≡ c = ap cost levels in
      let parts : left * (c + 1) ≡ (c + 1) + k * (c + 1) = ap (λ (x : ℕ). x * (c + 1)) e ∙ one_part k (c + 1) in
      rw is (
        record {
          frames = well_push p fs f well within;
          is_well = within;
          same = λ s.
              ap (resumes p vs) (list_goes ds (levels_below vs) left k (type_in p j) (map view items.items) s e)
              ∙ sym (resumes_push p fs f (value_at ds (levels_in (views p (fs ++ f ∷ []))) (type_in p j) s) ∙ ap (λ (n : ℕ). resumes p vs (closing ds (levels_below vs) (frame_view p f) (value_at ds n (type_in p j) s))) levels);
        },
        omega (arith, more, cost_is, parts),
      )

  -- ---- fields

  module _ (j m : ℕ) (here : Member) (is_here : IsHere p j m here) (fields : Vec Value Global) where
    abbrev T : Shape
    T = type_in p j

    abbrev before : List ValueView
    before = map view fields.items

    slots_are : fields_in ds (entry_in p j m) ≡ is_here.d.fields
    slots_are = is_here.slots

    long : length before ≡ length fields.items
    long = length-map fields.items view

    pub record_closes : (v : Value) → length here.fields.items ≤ length fields.items → view v ≡ made T here.entry (values_of before) → StepsFrom p fs (next.Part (frame.Record j m fields)) fs (Ok (step.Goes (next.Close v)))
    record_closes v all seen =
        let none : length (fields_in ds (entry_in p j m)) ≤ length before = omega (arith, all, long, is_here.count, ap length slots_are) in (
          record {
            frames = well;
            is_well = tt;
            same = λ s.
                ap (resumes p vs)
                (record_ends ds (levels_below vs) (entry_in p j m) T (fields_in ds (entry_in p j m)) before s none ∙ ap (λ (i : ℕ). Ok (made T i (values_of before), s)) is_here.entry ∙ ap (λ (x : ValueView). Ok (x, s)) (sym seen));
          },
          omega arith,
        )

    module _ (f : Slot) (at : slice_get is_here.d.fields (length fields.items) ≡ Some f) where
      at_before : slice_get (fields_in ds (entry_in p j m)) (length before) ≡ Some f
      at_before = ap (λ (k : ℕ). slice_get (fields_in ds (entry_in p j m)) k) long ∙ ap (λ (xs : List Slot). slice_get xs (length fields.items)) slots_are ∙ at

      one_less : length (fields_in ds (entry_in p j m)) - length before ≡ suc (length (fields_in ds (entry_in p j m)) - (length before + 1))
      one_less = let lt = slice_get_within (fields_in ds (entry_in p j m)) (length before) f at_before in omega (arith, lt)

      parts_one : (c : ℕ) → (length (fields_in ds (entry_in p j m)) - length before) * c ≡ c + (length (fields_in ds (entry_in p j m)) - (length before + 1)) * c
      parts_one c = ap (λ (x : ℕ). x * c) one_less ∙ one_part _ c

      pub field_absent : (v : Value) (after : Vec Value Global) → stands_by f.cond before ≡ false → view v ≡ value.absent → after.items ≡ fields.items ++ v ∷ [] → IsWellFrame p (frame.Record j m fields)
          → StepsFrom p fs (next.Part (frame.Record j m fields)) fs (Ok (step.Goes (next.Part (frame.Record j m after))))
      field_absent v after off seen more ok =
          let then : map view after.items ≡ before ++ value.absent ∷ [] = ap (map view) more ∙ map_push view fields.items v ∙ ap (λ (x : ValueView). before ++ x ∷ []) seen in
          let c = cost (levels_below vs) + 1 in
          let len : length (map view after.items) ≡ length before + 1 = ap length then ∙ length_push before value.absent in
          let parts = parts_one c in
          let now : (length (fields_in ds (entry_in p j m)) - length (map view after.items)) * c ≡ (length (fields_in ds (entry_in p j m)) - (length before + 1)) * c = ap (λ (k : ℕ). (length (fields_in ds (entry_in p j m)) - k) * c) len in (
            record {
              frames = well;
              is_well = ok;
              same = λ s.
                  ap (resumes p vs)
                  (field_goes ds (levels_below vs) (entry_in p j m) T (fields_in ds (entry_in p j m)) before f s at_before
                  ∙ ap (closing ds (levels_below vs) (in_record T (entry_in p j m) (fields_in ds (entry_in p j m)) before)) (rw off refl)
                  ∙ closing_ok ds (levels_below vs) (in_record T (entry_in p j m) (fields_in ds (entry_in p j m)) before) value.absent s
                  ∙ ap (λ (vs : List ValueView). goes_on ds (levels_below (views p fs)) (in_record T (entry_in p j m) (fields_in ds (entry_in p j m)) vs) s) (sym then));
            },
            omega (arith, parts, now),
          )

      pub field_opens : (h : ℕ) (new : List StackFrame) → stands_by f.cond before ≡ true → IsInstance p h (closed (arguments_of T) f.of) → new ≡ fs ++ frame.Record j m fields ∷ [] → IsWellFrame p (frame.Record j m fields)
          → StepsFrom p fs (next.Part (frame.Record j m fields)) new (Ok (step.Goes (next.Open h)))
      field_opens h new on own is ok =
          let r = frame.Record j m fields in
          let c = cost (levels_below vs) in
          let levels = levels_push p fs r in
          let more = works_push p fs r in
          let cost_is : cost (levels_in (views p (fs ++ r ∷ []))) ≡ c = ap cost levels in
          let parts = parts_one (c + 1) in
          rw is (
            record {
              frames = well_push p fs r well ok;
              is_well = instance_within p h (closed (arguments_of T) f.of) own;
              same = λ s.
                  ap (resumes p vs)
                  (field_goes ds (levels_below vs) (entry_in p j m) T (fields_in ds (entry_in p j m)) before f s at_before
                  ∙ ap (closing ds (levels_below vs) (frame_view p r)) (rw on (ap (λ (U : Shape). value_at ds (levels_below vs) U s) (sym (instance_type p h (closed (arguments_of T) f.of) own)))))
                  ∙ sym (resumes_push p fs r (value_at ds (levels_in (views p (fs ++ r ∷ []))) (type_in p h) s) ∙ ap (λ (n : ℕ). resumes p vs (closing ds (levels_below vs) (frame_view p r) (value_at ds n (type_in p h) s))) levels);
            },
            omega (arith, more, cost_is, parts),
          )
