-- The frames of lists, records and calls.
use Rattle.std.proofs.Common.{◌≡◌, inl, inr, ℕ, zero, suc, ◌+◌, ◌<◌, ◌^◌, List, [], ◌∷◌, ◌++◌, length, map, Option, Some, None, Bool, true, false, ◌&&◌, ◌||◌, refl, sym, ap, ◌∙◌, subst, arith, true≢false, eqb-true, ltb-true}
use Rattle.std.specs.Prelude.{slice_get}
use Rattle.std.specs.Option.{option_map}
use Rattle.std.proofs.lemmas.List.{length-map}
use Rattle.std.proofs.lemmas.Option.{slice_get-map, slice_get_within}
use Rattle.tl_names.specs.Indexes.{types_of}
use Rattle.tl_schema.specs.Types.{Shape, Shapes}
use Rattle.tl_schema.specs.Types as type
use Rattle.tl_schema.specs.Closing.{closed}
use Rattle.tl_schema.specs.Schemas.{Slot, Declaration, Declared}
use Rattle.tl_schema.specs.Seen.{slot}
use Rattle.tl_plan.specs.Plans.{InstanceView, IsFlagOrFormed, IsPlan, MemberView, PlanView}
use Rattle.tl_plan.specs.PlanLaws.{IsInstance, StandsIn, entries_in}
use Rattle.tl_plan.specs.Seen.{Shows, member_view}
use Rattle.tl_plan.specs.Types as plan_types
use Rattle.tl_plan.specs.declared.instances.Instance.{Instance}
use Rattle.tl_plan.specs.declared.instances.Member.{Member}
use Rattle.tl_plan.proofs.PlanFacts.{instances_are_formed, instances_have_members, items_have_instances}
use Rattle.tl_types.specs.Values.{ValueView, list, node, call, ValueViews, no_values, value, count}
use Rattle.tl_types.specs.Parts.{arguments_of, fields_in, is_absent}
use Rattle.tl_types.specs.Fitting.{Bit, constructs, field_misfit, has_constructor, has_count, has_kind, is_in_range, is_called, is_constructor, is_kind, node_misfit}
use Rattle.tl_types.specs.Seen.{views}
use Rattle.tl_types.specs.declared.value.Value.{Value}
use Rattle.tl_types.proofs.NodePasses.{Passes, passes}
use Rattle.tl_types.proofs.Members.{some_is}
use Rattle.tl_types.proofs.ValueCounts.{counted}
use Rattle.tl_encode.specs.declared.frames.WalkFrame.{WalkFrame}
use Rattle.tl_encode.specs.declared.frames.PartInstances.{PartInstances}
use Rattle.tl_encode.specs.declared.frames.PartInstances.TheVariants.{Elements, Fields}
use Rattle.tl_encode.specs.inner.Bytes.{spelling_fields}
use Rattle.tl_encode.specs.inner.Frames.{IsCounted}
use Rattle.tl_encode.specs.inner.Openings.{Ascend, AscendEntries, HasFieldParts, IsFieldsFrame, IsNamed, Names, entries_of}
use Rattle.tl_encode.specs.inner.Walks.{AreInstances, HasInstances, IsFrameOf, fields_bytes, fields_misfit, weights, frame_bytes, frame_misfit, frame_weight, type_at, type_in}

-- ---- kinds

and_false : (a : Bool) → (a && false) ≡ false
and_false true = refl
and_false false = refl

or_false : (a b : Bool) → b ≡ false → (a || b) ≡ a
or_false true b e = refl
or_false false b e = e

-- what is there is of its type's kind
there_kind : (bit : Bit) (T : Shape) (v : ValueView) → is_absent v ≡ false → has_kind bit T v ≡ true → is_kind T v ≡ true
there_kind None T v there kind = sym (or_false (is_kind T v) false refl) ∙ kind
there_kind (Some b) T v there kind = sym (or_false (is_kind T v) (is_absent v) there) ∙ kind

list_type : (T : Shape) (vs : ValueViews) → is_kind T (list vs) ≡ true → (b : Bool) × (U : Shape) × (T ≡ type.vector b U)
list_type (type.vector b U) vs e = (b, U, refl)
list_type T vs e = absurd (true≢false (sym e))

call_type : (T : Shape) (i : ℕ) (vs : ValueViews) → is_kind T (call i vs) ≡ true → T ≡ type.call
call_type type.call i vs e = refl
call_type T i vs e = absurd (true≢false (sym e))

constructed : (h : ℕ) (o : Option Declaration) → constructs h o ≡ true → (d : Declaration) × (o ≡ Some d) × (d.head ≡ h)
constructed h None e = absurd (true≢false (sym e))
constructed h (Some d) e = (d, refl, eqb-true d.head h e)

is_function : (o : Option Declaration) → is_called o ≡ true → (d : Declaration) × (o ≡ Some d) × (d.function ≡ true)
is_function None e = absurd (true≢false (sym e))
is_function (Some d) e = (d, refl, e)

same_arguments : (T : Shape) → plan_types.arguments_of T ≡ arguments_of T
same_arguments type.int = refl
same_arguments T = refl

module _ (p : PlanView) (good : IsPlan p) (k : ℕ) (x : InstanceView) (at : slice_get p.instances k ≡ Some x) where
  abbrev S : Declared
  S = p.schema

  type_is : type_at p k ≡ x.of
  type_is = ap type_in at

  -- ---- lists

  pub element_instance : (b : Bool) (U : Shape) → x.of ≡ type.vector b U → (j : ℕ) × (x.item ≡ Some j) × (j < length p.instances) × (type_at p j ≡ U)
  element_instance b U is =
      let found = items_have_instances p good k x b U at is in
      (found.0, found.1, slice_get_within p.instances found.0 found.2.0 found.2.1, ap type_in found.2.1 ∙ found.2.2)

  -- ---- members

  -- a record's or call's declaration is one of the members, and these ascend
  abbrev HasEntry : ℕ → Type 0
  HasEntry i = StandsIn (entries_in x) i × AscendEntries (entries_in x)

  one_entry : (i j : ℕ) → entries_in x ≡ j ∷ [] → i ≡ j → HasEntry i
  one_entry i j is same = (
    (0, ap (λ (es : List ℕ). slice_get es 0) is ∙ ap Some (sym same)),
    λ a b m n lt here later. absurd (only b n (omega (arith, lt)) (sym (ap (λ (es : List ℕ). slice_get es b) is) ∙ later)),
  )
    where
      only : (b n : ℕ) → 0 < b → slice_get (j ∷ []) b ≡ Some n → ⊥
      only zero n lt e = omega (arith, lt)
      only (suc b) n lt e = cc

  known : {h : ℕ} {args : Shapes} → IsFlagOrFormed S (type.boxed h args) → h < length (types_of S.program)
  known (inl flag) = absurd cc
  known (inr formed) = formed.0.known

  record_entry : (T : Shape) (i : ℕ) (vs : ValueViews) → x.of ≡ T → is_kind T (node i vs) ≡ true → is_constructor S.decls T i ≡ true → HasEntry i
  record_entry (type.boxed h args) i vs is kind test =
      let d = constructed h (slice_get S.decls i) test in
      let own = known (subst (IsFlagOrFormed S) is (instances_are_formed p good k x at)) in
      let all = (instances_have_members p good k x at).of_boxed h args is in
      (all.all i (d.0, record { there = d.1; head = d.2; known = own }), all.ascending)
  record_entry (type.bare j args) i vs is kind test = one_entry i j ((instances_have_members p good k x at).of_bare j args is) (eqb-true i j test)
  record_entry T i vs is kind test = absurd (true≢false (sym kind))

  call_entry : (i : ℕ) → x.of ≡ type.call → is_called (slice_get S.decls i) ≡ true → HasEntry i
  call_entry i is test =
      let d = is_function (slice_get S.decls i) test in
      let all = (instances_have_members p good k x at).of_call is in
      (all.all i (d.0, record { there = d.1; function = d.2 }), all.ascending)

  -- ---- the frame of a list

  pub elements_frame : (b : Bool) (U : Shape) (vs : List Value) (f : WalkFrame) (j : ℕ) → x.of ≡ type.vector b U → x.item ≡ Some j → f.parts ≡ Elements j → f.values.now ≡ vs → f.at ≡ 0 → length vs < 2 ^ 32
      → IsFrameOf p x.of (list (views vs)) f
  elements_frame b U vs f j is item parts values start few =
      let own = element_instance b U is in
      let same : own.0 ≡ j = some_is own.0 j (sym own.1 ∙ item) in
      let there = subst (λ (k : ℕ). (k < length p.instances) × (type_at p k ≡ U)) same (own.2, own.3) in
      record {
        deep = refl;
        counted = (rw values few, rw parts tt);
        instances = rw parts there.0;
        at = start;
        misfit = λ n. rw (parts, values, start, there.1, is) refl;
        bytes = rw (parts, values, start, there.1, is) refl;
        weight = let left : frame_weight f ≡ 1 + weights (views vs) = rw (values, start) refl in omega (arith, left);
      }

  -- ---- the frame of a record or call

  -- each field has the instance of its type
  abbrev AreFields : List Shape → List ℕ → List Slot → Type 0
  AreFields args [] [] = Unit {0}
  AreFields args [] (f ∷ fs) = ⊥
  AreFields args (j ∷ js) [] = ⊥
  AreFields args (j ∷ js) (f ∷ fs) = (j < length p.instances) × (type_at p j ≡ closed args f.of) × AreFields args js fs

  fields_are : (args : List Shape) (js : List ℕ) (fs : List Slot) → length js ≡ length fs
      → ((l : ℕ) (f : Slot) → slice_get fs l ≡ Some f → (j : ℕ) × (slice_get js l ≡ Some j) × IsInstance p j (closed args f.of)) → AreFields args js fs
  fields_are args [] [] count each = tt
  fields_are args [] (f ∷ fs) count each = absurd (omega (arith, count))
  fields_are args (j ∷ js) [] count each = absurd (omega (arith, count))
  fields_are args (j ∷ js) (f ∷ fs) count each =
      let first = each 0 f refl in
      let same : first.0 ≡ j = sym (some_is j first.0 first.1) in
      let there = subst (λ (n : ℕ). (n < length p.instances) × (type_at p n ≡ closed args f.of)) same (slice_get_within p.instances first.0 first.2.0 first.2.1, ap type_in first.2.1 ∙ first.2.2) in
      (there.0, there.1, fields_are args js fs (omega (arith, count)) (λ l g at. each (suc l) g at))

  within : (args : List Shape) (js : List ℕ) (fs : List Slot) → AreFields args js fs → AreInstances p js
  within args [] [] are = tt
  within args [] (f ∷ fs) are = absurd are
  within args (j ∷ js) [] are = absurd are
  within args (j ∷ js) (f ∷ fs) are = (are.0, within args js fs are.2)

  same_misfit : (args : List Shape) (n : ℕ) (before : List ValueView) (i : ℕ) (js : List ℕ) (fs : List Slot) (vs : ValueViews) → AreFields args js fs
      → fields_misfit p n before i js fs vs ≡ field_misfit S.decls n args before i fs vs
  same_misfit args n before i js fs no_values are = refl
  same_misfit args n before i [] [] (value v vs) are = refl
  same_misfit args n before i [] (f ∷ fs) (value v vs) are = absurd are
  same_misfit args n before i (j ∷ js) [] (value v vs) are = absurd are
  same_misfit args n before i (j ∷ js) (f ∷ fs) (value v vs) are =
      rw (are.1, same_misfit args n (before ++ v ∷ []) (suc i) js fs vs are.2) refl

  same_bytes : (args : List Shape) (js : List ℕ) (fs : List Slot) (vs : ValueViews) → AreFields args js fs → fields_bytes p js vs ≡ spelling_fields S.decls args fs vs
  same_bytes args js fs no_values are = refl
  same_bytes args [] [] (value v vs) are = refl
  same_bytes args [] (f ∷ fs) (value v vs) are = absurd are
  same_bytes args (j ∷ js) [] (value v vs) are = absurd are
  same_bytes args (j ∷ js) (f ∷ fs) (value v vs) are = rw (are.1, same_bytes args js fs vs are.2) refl

  -- what is left in the frame of the fields of declaration i
  pub record IsRecordFrame (i : ℕ) (vs : List Value) (f : WalkFrame) : Type 0 where
    pub counted : IsCounted f
    pub instances : HasInstances p f.parts
    pub start : f.at ≡ 0
    pub misfit : (n : ℕ) → frame_misfit p n f ≡ field_misfit S.decls n (arguments_of x.of) [] 0 (fields_in (slice_get S.decls i)) (views vs)
    pub bytes : frame_bytes p f ≡ spelling_fields S.decls (arguments_of x.of) (fields_in (slice_get S.decls i)) (views vs)
    pub weight : frame_weight f ≡ 1 + weights (views vs)

  module _ (inst : Instance) (shows : Shows x inst) (i : ℕ) (vs : List Value) (count : length vs ≡ length (fields_in (slice_get S.decls i))) where
    shown : (m : Member) (k : ℕ) → slice_get inst.members.items k ≡ Some m → slice_get x.members k ≡ Some (member_view m)
    shown m k there = ap (λ (ms : List MemberView). slice_get ms k) (sym shows.members) ∙ slice_get-map member_view inst.members.items k ∙ ap (option_map member_view) there

    -- the fields of its declaration
    declared : (m : Member) → IsNamed inst.members.items i m → AreFields (arguments_of x.of) m.fields.items (fields_in (slice_get S.decls i)) × (length m.fields.items ≡ length vs)
    declared m (h, there, same) =
        let found = (instances_have_members p good k x at).each h (member_view m) (shown m h there) in
        let fields : found.0.fields ≡ fields_in (slice_get S.decls i) = sym (ap fields_in (ap (slice_get S.decls) (sym same) ∙ found.1.there)) in
        let args : plan_types.arguments_of x.of ≡ arguments_of x.of = same_arguments x.of in
        let are = fields_are (plan_types.arguments_of x.of) m.fields.items found.0.fields found.1.count found.1.fields in (
          subst (λ (us : List Shape). AreFields us m.fields.items (fields_in (slice_get S.decls i))) args (subst (λ (fs : List Slot). AreFields (plan_types.arguments_of x.of) m.fields.items fs) fields are),
          found.1.count ∙ ap length fields ∙ sym count,
        )

    from_parts : (parts : PartInstances) (f : WalkFrame) → f.parts ≡ parts → f.values.now ≡ vs → f.at ≡ 0 → HasFieldParts inst.members.items S.decls i parts → IsRecordFrame i vs f
    from_parts (Elements of) f parts values start has = absurd has
    from_parts (Fields of slots) f parts values start (m, named, own, kinds, few) =
        let d = declared m named in
        let are = subst (λ (js : List ℕ). AreFields (arguments_of x.of) js (fields_in (slice_get S.decls i))) (sym own) d.0 in
        let slots_count : length slots.now ≡ length vs = sym (length-map slots.now slot) ∙ ap length kinds ∙ sym count in
        record {
          counted = (rw values (let n : length vs < 2 ^ 32 = omega (arith, slots_count, few) in n), rw (parts, values) (ap length own ∙ d.1, slots_count));
          instances = rw parts (within (arguments_of x.of) of.now (fields_in (slice_get S.decls i)) are);
          start = start;
          misfit = λ n. rw (parts, values, start) (ap (λ (fs : List Slot). fields_misfit p n [] 0 of.now fs (views vs)) kinds ∙ same_misfit (arguments_of x.of) n [] 0 of.now (fields_in (slice_get S.decls i)) (views vs) are);
          bytes = rw (parts, values, start) (same_bytes (arguments_of x.of) of.now (fields_in (slice_get S.decls i)) (views vs) are);
          weight = rw (values, start) refl;
        }

    pub record_frame : (f : WalkFrame) → IsFieldsFrame inst.members.items S.decls i vs f → IsRecordFrame i vs f
    record_frame f is = from_parts f.parts f refl is.values is.at is.parts

  pub node_frame : (i : ℕ) (vs : List Value) (f : WalkFrame) → IsRecordFrame i vs f → IsFrameOf p x.of (node i (views vs)) f
  node_frame i vs f is = record { deep = refl; counted = is.counted; instances = is.instances; at = is.start; misfit = is.misfit; bytes = is.bytes; weight = omega (arith, is.weight) }

  pub call_frame : (i : ℕ) (vs : List Value) (f : WalkFrame) → x.of ≡ type.call → IsRecordFrame i vs f → IsFrameOf p x.of (call i (views vs)) f
  call_frame i vs f called is =
      let none : arguments_of x.of ≡ [] = ap arguments_of called in
      record {
        deep = refl;
        counted = is.counted;
        instances = is.instances;
        at = is.start;
        misfit = λ n. is.misfit n ∙ ap (λ (args : List Shape). field_misfit S.decls n args [] 0 (fields_in (slice_get S.decls i)) (views vs)) none;
        bytes = is.bytes ∙ ap (λ (args : List Shape). spelling_fields S.decls args (fields_in (slice_get S.decls i)) (views vs)) none;
        weight = omega (arith, is.weight);
      }

  -- ---- the frame of a value that passes

  entries_shown : (ms : List Member) → map (λ (m : MemberView). m.entry) (map member_view ms) ≡ entries_of ms
  entries_shown [] = refl
  entries_shown (m ∷ ms) = ap (λ (is : List ℕ). m.entry ∷ is) (entries_shown ms)

  module _ (bit : Bit) (v : ValueView) (fits : (n : ℕ) × (node_misfit S.decls n bit (type_at p k) v ≡ None)) (inst : Instance) (shows : Shows x inst) where
    own : Passes S.decls fits.0 bit x.of v
    own = passes S.decls fits.0 bit x.of v (subst (λ (T : Shape). node_misfit S.decls fits.0 bit T v ≡ None) type_is fits.1)

    entries : entries_in x ≡ entries_of inst.members.items
    entries = ap (map (λ (m : MemberView). m.entry)) (sym shows.members) ∙ entries_shown inst.members.items

    named_of : (i : ℕ) → HasEntry i → Names inst.members.items i × Ascend inst.members.items
    named_of i has = subst (λ (is : List ℕ). StandsIn is i × AscendEntries is) entries has

    of_type : (w : ValueView) (f : WalkFrame) → v ≡ w → IsFrameOf p x.of w f → IsFrameOf p (type_at p k) v f
    of_type w f is frame = subst (λ (u : ValueView). IsFrameOf p (type_at p k) u f) (sym is) (subst (λ (T : Shape). IsFrameOf p T w f) (sym type_is) frame)

    -- ---- a list

    vector_is : (vs : List Value) → v ≡ list (views vs) → (b : Bool) × (U : Shape) × (x.of ≡ type.vector b U)
    vector_is vs is = list_type x.of (views vs) (there_kind bit x.of (list (views vs)) refl (subst (λ (w : ValueView). has_kind bit x.of w ≡ true) is own.kind))

    pub list_item : {P : Type 0} (vs : List Value) → v ≡ list (views vs) → inst.item ≡ None → P
    list_item vs is none = let t = vector_is vs is in let there = element_instance t.0 t.1 t.2 in let clash = sym there.1 ∙ sym shows.item ∙ none in absurd cc

    pub list_frame : (vs : List Value) (f : WalkFrame) (j : ℕ) → v ≡ list (views vs) → inst.item ≡ Some j → f.parts ≡ Elements j → f.values.now ≡ vs → f.at ≡ 0 → IsFrameOf p (type_at p k) v f
    list_frame vs f j is item parts values start =
        let t = vector_is vs is in
        let few = ltb-true (count (views vs)) (2 ^ 31) (subst (λ (w : ValueView). is_in_range w ≡ true) is own.range) in
        of_type (list (views vs)) f is (elements_frame t.0 t.1 vs f j t.2 (sym shows.item ∙ item) parts values start (let n : length vs < 2 ^ 32 = omega (arith, few, counted vs) in n))

    -- ---- a record

    pub node_named : (i : ℕ) (vs : List Value) → v ≡ node i (views vs) → Names inst.members.items i × Ascend inst.members.items
    node_named i vs is =
        named_of i (record_entry x.of i (views vs) refl (there_kind bit x.of (node i (views vs)) refl (subst (λ (w : ValueView). has_kind bit x.of w ≡ true) is own.kind))
        (subst (λ (w : ValueView). has_constructor S.decls x.of w ≡ true) is own.constructor))

    pub node_opened : (i : ℕ) (vs : List Value) (f : WalkFrame) → v ≡ node i (views vs) → IsFieldsFrame inst.members.items S.decls i vs f → IsFrameOf p (type_at p k) v f
    node_opened i vs f is fields =
        let same = eqb-true (count (views vs)) (length (fields_in (slice_get S.decls i))) (subst (λ (w : ValueView). has_count S.decls x.of w ≡ true) is own.count) in
        of_type (node i (views vs)) f is (node_frame i vs f (record_frame inst shows i vs (sym (counted vs) ∙ same) f fields))

    -- ---- a call

    called : (i : ℕ) (vs : List Value) → v ≡ call i (views vs) → x.of ≡ type.call
    called i vs is = call_type x.of i (views vs) (there_kind bit x.of (call i (views vs)) refl (subst (λ (w : ValueView). has_kind bit x.of w ≡ true) is own.kind))

    pub call_named : (i : ℕ) (vs : List Value) → v ≡ call i (views vs) → Names inst.members.items i × Ascend inst.members.items
    call_named i vs is = named_of i (call_entry i (called i vs is) (subst (λ (w : ValueView). has_constructor S.decls x.of w ≡ true) is own.constructor))

    pub call_opened : (i : ℕ) (vs : List Value) (f : WalkFrame) → v ≡ call i (views vs) → IsFieldsFrame inst.members.items S.decls i vs f → IsFrameOf p (type_at p k) v f
    call_opened i vs f is fields =
        let same = eqb-true (count (views vs)) (length (fields_in (slice_get S.decls i))) (subst (λ (w : ValueView). has_count S.decls x.of w ≡ true) is own.count) in
        of_type (call i (views vs)) f is (call_frame i vs f (called i vs is) (record_frame inst shows i vs (sym (counted vs) ∙ same) f fields))
