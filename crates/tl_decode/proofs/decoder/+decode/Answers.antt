use Rattle.std.proofs.Common.{◌≡◌, ◌-◌, ◌+◌, List, [], ◌∷◌, ◌++◌, map, drop, refl, sym, ap, ◌∙◌, rules, arith, Vec, Global, Bool, true, false}
use Rattle.std.specs.Prelude.{Box}
use Rattle.tl_schema.specs.declared.schema.TypeRef.{TypeRef, Vector, the_lemmas}
use Rattle.tl_types.specs.Values.{ValueView}
use Rattle.std.proofs.lemmas.Result.{err_from_is_err_and}
use Rattle.std.proofs.lemmas.List.{map_push}
use Rattle.tl_base.proofs.Uses.{used_none}
use Rattle.tl_schema.specs.Seen.{shape, slot}
use Rattle.tl_types.specs.Seen.{view}
use Rattle.tl_types.specs.Values as value
use Rattle.tl_schema.specs.Types as type
use Rattle.tl_schema.specs.Types.{Shape, shapes_of}
use Rattle.tl_types.specs.inner.Reading.{value_at, deep_at, each_at, fields_at, at_field, first_from, is_member, is_function, ◌>>=◌}
use Rattle.tl_types.specs.declared.value.Value.{Value}
use Rattle.tl_types.proofs.Views.{shape-Vector, shape-Boxed, shape-Bare, shape-Call, view-List, view-Node, view-Call}
use Rattle.tl_decode.proofs.Steps.{continues_none, continues_more, continues_fails, continues_done}
use Rattle.tl_decode.proofs.Loops.{next_element, no_element, next_field, no_field}
use Rattle.tl_decode.proofs.Values.{deep_as, deep_plain, deep_boxed, deep_bare, value_plain, value_too_deep, value_deep, wide_fails, wide_wrong, wide_read, list_fails, list_many, list_inner, list_read, number_fails, number_wrong, number_inner, number_read, bare_fails, bare_read, bare_none, fields_are, fields_past}
use Rattle.tl_types.proofs.Closings.{no_arguments}
use Rattle.tl_decode.proofs.Closings.{field_as_it_is}
use Rattle.tl_decode.proofs.decoder.+decode.Goals as goal

vector_is : (t : TypeRef) (w v : Bool) (item : Box TypeRef Global) (u : TypeRef) → t ≡ Vector w item → w ≡ v → u ≡ item.value → shape t ≡ type.vector v (shape u)
vector_is t w v item u is width same = shape-Vector t w item is ∙ rw (width, same) refl

pub value_of-returns-then-not-has_parts-clause-read : goal.value_of-returns-then-not-has_parts-clause-read
value_of-returns-then-not-has_parts-clause-read g t c =
    value_plain _ _ c.args.at.now _ c.args.walk.levels _ c.args.walk.schema.now.decls (shape c.args.of.now) (sym c.has_parts.ensures ∙ c.if-not-has_parts.true) c.plain_of.ensures.read

pub value_of-returns-then-walk-eq0-clause-read : goal.value_of-returns-then-walk-eq0-clause-read
value_of-returns-then-walk-eq0-clause-read g t c =
    value_too_deep _ c.args.at.now _ c.args.walk.levels c.args.walk.schema.now.decls (shape c.args.of.now) (sym c.has_parts.ensures ∙ c.if-not-has_parts.false) c.if-walk-eq0.true

pub value_of-returns-clause-read : goal.value_of-returns-clause-read
value_of-returns-clause-read g t c =
    value_deep _ _ c.args.at.now _ c.args.walk.levels (c.args.walk.levels - 1) _ c.args.walk.schema.now.decls (shape c.args.of.now) (sym c.has_parts.ensures ∙ c.if-not-has_parts.false) (omega arith) c.deep_of.ensures.read

pub deep_of-returns-then-boxed-clause-read : goal.deep_of-returns-then-boxed-clause-read
unfolding deep_at
deep_of-returns-then-boxed-clause-read g t c =
    deep_as _ _ c.args.at.now _ _ c.args.walk.schema.now.decls (value_at c.args.walk.schema.now.decls c.args.walk.levels) _ (type.vector true (shape c.deref.result.now)) (vector_is _ _ true c.in-Vector.item c.deref.result.now c.in-Vector.is c.if-boxed.true c.deref.ensures) c.wide_of.ensures.read

pub deep_of-returns-else-boxed-clause-read : goal.deep_of-returns-else-boxed-clause-read
unfolding deep_at
deep_of-returns-else-boxed-clause-read g t c =
    deep_as _ _ c.args.at.now _ _ c.args.walk.schema.now.decls (value_at c.args.walk.schema.now.decls c.args.walk.levels) _ (type.vector false (shape c.deref-else-boxed.result.now)) (vector_is _ _ false c.in-Vector.item c.deref-else-boxed.result.now c.in-Vector.is c.if-boxed.false c.deref-else-boxed.ensures) c.list_of.ensures.read

pub deep_of-returns-in-Boxed-clause-read : goal.deep_of-returns-in-Boxed-clause-read
deep_of-returns-in-Boxed-clause-read g t c =
    deep_as _ _ c.args.at.now _ _ c.args.walk.schema.now.decls (value_at c.args.walk.schema.now.decls c.args.walk.levels) _ (type.boxed c.in-Boxed.head (shapes_of (map shape c.deref-in-Boxed.result.now))) (shape-Boxed _ _ _ c.in-Boxed.is ∙ rw c.deref-in-Boxed.ensures.value refl) (deep_boxed _ _ c.args.at.now _ _ c.args.walk.schema.now.decls (value_at c.args.walk.schema.now.decls c.args.walk.levels) c.in-Boxed.head (map shape c.deref-in-Boxed.result.now) c.boxed_of.ensures.read)

pub deep_of-returns-in-Bare-clause-read : goal.deep_of-returns-in-Bare-clause-read
deep_of-returns-in-Bare-clause-read g t c =
    deep_as _ _ c.args.at.now _ _ c.args.walk.schema.now.decls (value_at c.args.walk.schema.now.decls c.args.walk.levels) _ (type.bare c.in-Bare.entry (shapes_of (map shape c.deref-in-Bare.result.now))) (shape-Bare _ _ _ c.in-Bare.is ∙ rw c.deref-in-Bare.ensures.value refl) (deep_bare _ _ c.args.at.now _ _ c.args.walk.schema.now.decls (value_at c.args.walk.schema.now.decls c.args.walk.levels) c.in-Bare.entry (map shape c.deref-in-Bare.result.now) c.bare_of.ensures.read)

pub deep_of-returns-in-Call-clause-read : goal.deep_of-returns-in-Call-clause-read
unfolding deep_at
deep_of-returns-in-Call-clause-read g t c =
    deep_as _ _ c.args.at.now _ _ c.args.walk.schema.now.decls (value_at c.args.walk.schema.now.decls c.args.walk.levels) _ type.call (shape-Call _ c.in-Call.is) c.call_of.ensures.read

pub deep_of-returns-in_default-clause-read : goal.deep_of-returns-in_default-clause-read
deep_of-returns-in_default-clause-read g t c =
    deep_plain _ _ c.args.at.now _ _ c.args.walk.schema.now.decls (value_at c.args.walk.schema.now.decls c.args.walk.levels) (shape c.args.of.now) (search (rules, the_lemmas)) c.plain_of.ensures.read

pub wide_of-returns-in_err-word-clause-read : goal.wide_of-returns-in_err-word-clause-read
wide_of-returns-in_err-word-clause-read g t c =
    let p = err_from_is_err_and c.from_residual.result c.from_residual.ensures.1 in
    rw (p.1, p.2) (wide_fails _ _ c.args.at.now c.word_of.new.at c.word_of.new.at c.in_err-word.field-0.0 (value_at c.args.walk.schema.now.decls c.args.walk.levels (shape c.args.item.now)) c.in_err-word.ensures.read)

pub wide_of-returns-then-word-ne-BOXED_VECTOR-clause-read : goal.wide_of-returns-then-word-ne-BOXED_VECTOR-clause-read
wide_of-returns-then-word-ne-BOXED_VECTOR-clause-read g t c =
    wide_wrong _ _ c.args.at.now _ _ c.in_ok-word.word _ (value_at c.args.walk.schema.now.decls c.args.walk.levels (shape c.args.item.now)) c.in_ok-word.ensures.read c.if-word-ne-BOXED_VECTOR.true c.wrong.ensures

pub wide_of-returns-clause-read : goal.wide_of-returns-clause-read
wide_of-returns-clause-read g t c =
    wide_read _ _ _ c.args.at.now _ _ c.in_ok-word.word _ (value_at c.args.walk.schema.now.decls c.args.walk.levels (shape c.args.item.now)) c.in_ok-word.ensures.read c.if-word-ne-BOXED_VECTOR.false c.list_of.ensures.read

pub list_of-returns-in_err-count-clause-read : goal.list_of-returns-in_err-count-clause-read
list_of-returns-in_err-count-clause-read g t c =
    let p = err_from_is_err_and c.from_residual.result c.from_residual.ensures.1 in
    rw (p.1, p.2) (list_fails _ _ c.args.at.now c.word_of.new.at c.word_of.new.at c.in_err-count.field-0.0 (value_at c.args.walk.schema.now.decls c.args.walk.levels (shape c.args.item.now)) c.in_err-count.ensures.read)

pub list_of-returns-then-count-ge2147483648-clause-read : goal.list_of-returns-then-count-ge2147483648-clause-read
list_of-returns-then-count-ge2147483648-clause-read g t c =
    list_many _ _ c.args.at.now _ _ c.in_ok-count.count (value_at c.args.walk.schema.now.decls c.args.walk.levels (shape c.args.item.now)) c.in_ok-count.ensures.read (omega arith)

pub list_of-returns-in_err-items-clause-read : goal.list_of-returns-in_err-items-clause-read
list_of-returns-in_err-items-clause-read g t c =
    let p = err_from_is_err_and c.from_residual-in_err-items.result c.from_residual-in_err-items.ensures.1 in
    rw (p.1, p.2) (list_inner (λ (v : Vec Value Global). map view v.items) _ _ _ c.args.at.now c.word_of.new.at c.elements_of.new.at c.elements_of.new.at c.in_ok-count.count c.in_err-items.field-0.0 (value_at c.args.walk.schema.now.decls c.args.walk.levels (shape c.args.item.now)) c.in_ok-count.ensures.read (omega arith) c.in_err-items.ensures.read)

pub list_of-returns-clause-read : goal.list_of-returns-clause-read
list_of-returns-clause-read g t c =
    list_read (λ (v : Vec Value Global). map view v.items) _ _ _ c.args.at.now _ _ c.in_ok-count.count c.in_ok-items.items _ (value_at c.args.walk.schema.now.decls c.args.walk.levels (shape c.args.item.now)) c.in_ok-count.ensures.read (omega arith) c.in_ok-items.ensures.read (view-List _)

pub elements_of-loop-i-init : goal.elements_of-loop-i-init
elements_of-loop-i-init g t c =
    record { read = rw c.new-items.ensures.items (continues_none (each_at (value_at c.args.walk.schema.now.decls c.args.walk.levels (shape c.args.item.now)) c.args.count []) (each_at (value_at c.args.walk.schema.now.decls c.args.walk.levels (shape c.args.item.now)) (c.args.count - 0) []) _ c.args.at.now (λ s. ap (λ (k : _). each_at (value_at c.args.walk.schema.now.decls c.args.walk.levels (shape c.args.item.now)) k [] s) (omega arith))); used = used_none _ ⊥ (λ f. f) }

pub elements_of-loop-i-preserved : goal.elements_of-loop-i-preserved
elements_of-loop-i-preserved g t c =
    let f = (value_at c.args.walk.schema.now.decls c.args.walk.levels (shape c.args.item.now)) in
    record {
      read = rw (c.in_ok-push.ensures.items, map_push) (continues_more view (each_at f c.args.count []) (each_at f (c.args.count - c.loop-i.i) (map view c.loop-i.items.items)) (each_at f (c.args.count - (c.loop-i.i + 1)) (map view c.loop-i.items.items ++ view c.in_ok-value.value ∷ [])) _ _ _ c.args.at.now _ _ c.in_ok-value.value f (λ x. each_at f (c.args.count - (c.loop-i.i + 1)) (map view c.loop-i.items.items ++ x.0 ∷ []) x.1) c.loop-i.invariant.read c.in_ok-value.ensures.read (λ s. next_element f c.args.count c.loop-i.i (map view c.loop-i.items.items) s (omega arith)) (λ s. refl));
      used = search rules;
    }

pub elements_of-returns-in_err-value-clause-read : goal.elements_of-returns-in_err-value-clause-read
elements_of-returns-in_err-value-clause-read g t c =
    let p = err_from_is_err_and c.from_residual.result c.from_residual.ensures.1 in
    rw (p.1, p.2) (continues_fails view (λ (v : Vec Value Global). map view v.items) (each_at (value_at c.args.walk.schema.now.decls c.args.walk.levels (shape c.args.item.now)) c.args.count []) (each_at (value_at c.args.walk.schema.now.decls c.args.walk.levels (shape c.args.item.now)) (c.args.count - c.loop-i.i) (map view c.loop-i.items.items)) _ _ _ c.args.at.now c.loop-i.at c.value_of.new.at c.value_of.new.at c.in_err-value.field-0.0 (value_at c.args.walk.schema.now.decls c.args.walk.levels (shape c.args.item.now)) (λ x. each_at (value_at c.args.walk.schema.now.decls c.args.walk.levels (shape c.args.item.now)) (c.args.count - (c.loop-i.i + 1)) (map view c.loop-i.items.items ++ x.0 ∷ []) x.1) c.loop-i.invariant.read c.in_err-value.ensures.read (λ s. next_element (value_at c.args.walk.schema.now.decls c.args.walk.levels (shape c.args.item.now)) c.args.count c.loop-i.i (map view c.loop-i.items.items) s (omega arith)))

pub elements_of-returns-clause-read : goal.elements_of-returns-clause-read
elements_of-returns-clause-read g t c =
    continues_done (λ (v : Vec Value Global). map view v.items) (each_at (value_at c.args.walk.schema.now.decls c.args.walk.levels (shape c.args.item.now)) c.args.count []) (each_at (value_at c.args.walk.schema.now.decls c.args.walk.levels (shape c.args.item.now)) (c.args.count - c.loop-i.i) (map view c.loop-i.items.items)) _ _ c.args.at.now _ c.loop-i.items c.loop-i.invariant.read (λ s. no_element (value_at c.args.walk.schema.now.decls c.args.walk.levels (shape c.args.item.now)) c.args.count c.loop-i.i _ s (omega arith))

pub boxed_of-returns-in_err-word-clause-read : goal.boxed_of-returns-in_err-word-clause-read
boxed_of-returns-in_err-word-clause-read g t c =
    let p = err_from_is_err_and c.from_residual.result c.from_residual.ensures.1 in
    rw (p.1, p.2) (number_fails _ _ c.args.at.now c.word_of.new.at c.word_of.new.at c.in_err-word.field-0.0 (fields_at (value_at c.args.walk.schema.now.decls c.args.walk.levels) (map shape c.args.args.now) []) value.node c.args.walk.schema.now.decls (λ w. first_from (is_member c.args.head w) 0 c.args.walk.schema.now.decls) c.in_err-word.ensures.read)

pub boxed_of-returns-in-None-clause-read : goal.boxed_of-returns-in-None-clause-read
boxed_of-returns-in-None-clause-read g t c =
    number_wrong _ _ c.args.at.now _ _ c.in_ok-word.word _ (fields_at (value_at c.args.walk.schema.now.decls c.args.walk.levels) (map shape c.args.args.now) []) value.node c.args.walk.schema.now.decls (λ w. first_from (is_member c.args.head w) 0 c.args.walk.schema.now.decls) c.in_ok-word.ensures.read c.in-None.ensures.found c.wrong.ensures

pub boxed_of-returns-in_err-fields-in-Some-clause-read : goal.boxed_of-returns-in_err-fields-in-Some-clause-read
boxed_of-returns-in_err-fields-in-Some-clause-read g t c =
    let kinds = fields_are c.args.walk.schema.now.decls c.in-Some.i c.entry.result.now c.entry.ensures in
    let p = err_from_is_err_and c.from_residual-in_err-fields-in-Some.result c.from_residual-in_err-fields-in-Some.ensures.1 in
    rw (p.1, p.2) (number_inner (λ (v : Vec Value Global). map view v.items) _ _ _ c.args.at.now c.word_of.new.at c.fields_of.new.at c.fields_of.new.at c.in_ok-word.word c.in-Some.i c.in_err-fields-in-Some.field-0.0 (fields_at (value_at c.args.walk.schema.now.decls c.args.walk.levels) (map shape c.args.args.now) []) value.node c.args.walk.schema.now.decls (λ w. first_from (is_member c.args.head w) 0 c.args.walk.schema.now.decls) _ c.in_ok-word.ensures.read c.in-Some.ensures.found (kinds ∙ sym (ap (map slot) c.deref.ensures.value)) c.in_err-fields-in-Some.ensures.read)

pub boxed_of-returns-in_ok-fields-in-Some-clause-read : goal.boxed_of-returns-in_ok-fields-in-Some-clause-read
boxed_of-returns-in_ok-fields-in-Some-clause-read g t c =
    let kinds = fields_are c.args.walk.schema.now.decls c.in-Some.i c.entry.result.now c.entry.ensures in
    number_read (λ (v : Vec Value Global). map view v.items) _ _ _ c.args.at.now _ _ c.in_ok-word.word c.in-Some.i c.in_ok-fields-in-Some.fields _ (fields_at (value_at c.args.walk.schema.now.decls c.args.walk.levels) (map shape c.args.args.now) []) value.node c.args.walk.schema.now.decls (λ w. first_from (is_member c.args.head w) 0 c.args.walk.schema.now.decls) _ c.in_ok-word.ensures.read c.in-Some.ensures.found (kinds ∙ sym (ap (map slot) c.deref.ensures.value)) c.in_ok-fields-in-Some.ensures.read (view-Node _ _)

pub call_of-returns-in_err-word-clause-read : goal.call_of-returns-in_err-word-clause-read
call_of-returns-in_err-word-clause-read g t c =
    let p = err_from_is_err_and c.from_residual.result c.from_residual.ensures.1 in
    rw (p.1, p.2) (number_fails _ _ c.args.at.now c.word_of.new.at c.word_of.new.at c.in_err-word.field-0.0 (fields_at (value_at c.args.walk.schema.now.decls c.args.walk.levels) [] []) value.call c.args.walk.schema.now.decls (λ w. first_from (is_function w) 0 c.args.walk.schema.now.decls) c.in_err-word.ensures.read)

pub call_of-returns-in-None-clause-read : goal.call_of-returns-in-None-clause-read
call_of-returns-in-None-clause-read g t c =
    number_wrong _ _ c.args.at.now _ _ c.in_ok-word.word _ (fields_at (value_at c.args.walk.schema.now.decls c.args.walk.levels) [] []) value.call c.args.walk.schema.now.decls (λ w. first_from (is_function w) 0 c.args.walk.schema.now.decls) c.in_ok-word.ensures.read c.in-None.ensures.found c.wrong.ensures

pub call_of-returns-in_err-fields-in-Some-clause-read : goal.call_of-returns-in_err-fields-in-Some-clause-read
call_of-returns-in_err-fields-in-Some-clause-read g t c =
    let kinds = fields_are c.args.walk.schema.now.decls c.in-Some.i c.entry.result.now c.entry.ensures in
    let p = err_from_is_err_and c.from_residual-in_err-fields-in-Some.result c.from_residual-in_err-fields-in-Some.ensures.1 in
    rw (p.1, p.2) (number_inner (λ (v : Vec Value Global). map view v.items) _ _ _ c.args.at.now c.word_of.new.at c.fields_of.new.at c.fields_of.new.at c.in_ok-word.word c.in-Some.i c.in_err-fields-in-Some.field-0.0 (fields_at (value_at c.args.walk.schema.now.decls c.args.walk.levels) [] []) value.call c.args.walk.schema.now.decls (λ w. first_from (is_function w) 0 c.args.walk.schema.now.decls) _ c.in_ok-word.ensures.read c.in-Some.ensures.found (kinds ∙ sym (ap (map slot) c.deref.ensures.value)) c.in_err-fields-in-Some.ensures.read)

pub call_of-returns-in_ok-fields-in-Some-clause-read : goal.call_of-returns-in_ok-fields-in-Some-clause-read
call_of-returns-in_ok-fields-in-Some-clause-read g t c =
    let kinds = fields_are c.args.walk.schema.now.decls c.in-Some.i c.entry.result.now c.entry.ensures in
    number_read (λ (v : Vec Value Global). map view v.items) _ _ _ c.args.at.now _ _ c.in_ok-word.word c.in-Some.i c.in_ok-fields-in-Some.fields _ (fields_at (value_at c.args.walk.schema.now.decls c.args.walk.levels) [] []) value.call c.args.walk.schema.now.decls (λ w. first_from (is_function w) 0 c.args.walk.schema.now.decls) _ c.in_ok-word.ensures.read c.in-Some.ensures.found (kinds ∙ sym (ap (map slot) c.deref.ensures.value)) c.in_ok-fields-in-Some.ensures.read (view-Call _ _)

pub bare_of-returns-then-entry-count-clause-read : goal.bare_of-returns-then-entry-count-clause-read
unfolding fields_at
bare_of-returns-then-entry-count-clause-read g t c =
    bare_none _ c.args.at.now c.args.entry _ (fields_at (value_at c.args.walk.schema.now.decls c.args.walk.levels) (map shape c.args.args.now) []) c.args.walk.schema.now.decls (fields_past c.args.walk.schema.now.decls c.args.entry (omega arith)) (λ s. refl) (view-Node _ _ ∙ rw c.new.ensures.items refl)

pub bare_of-returns-in_err-fields-clause-read : goal.bare_of-returns-in_err-fields-clause-read
bare_of-returns-in_err-fields-clause-read g t c =
    let kinds = fields_are c.args.walk.schema.now.decls c.args.entry c.entry.result.now c.entry.ensures in
    let p = err_from_is_err_and c.from_residual.result c.from_residual.ensures.1 in
    rw (p.1, p.2) (bare_fails (λ (v : Vec Value Global). map view v.items) _ _ c.args.at.now c.fields_of.new.at c.fields_of.new.at c.args.entry c.in_err-fields.field-0.0 (fields_at (value_at c.args.walk.schema.now.decls c.args.walk.levels) (map shape c.args.args.now) []) c.args.walk.schema.now.decls _ (kinds ∙ sym (ap (map slot) c.deref.ensures.value)) c.in_err-fields.ensures.read)

pub bare_of-returns-clause-read : goal.bare_of-returns-clause-read
bare_of-returns-clause-read g t c =
    let kinds = fields_are c.args.walk.schema.now.decls c.args.entry c.entry.result.now c.entry.ensures in
    bare_read (λ (v : Vec Value Global). map view v.items) _ _ c.args.at.now _ c.args.entry c.in_ok-fields.fields _ (fields_at (value_at c.args.walk.schema.now.decls c.args.walk.levels) (map shape c.args.args.now) []) c.args.walk.schema.now.decls _ (kinds ∙ sym (ap (map slot) c.deref.ensures.value)) c.in_ok-fields.ensures.read (view-Node _ _)

pub fields_of-loop-field-init : goal.fields_of-loop-field-init
fields_of-loop-field-init g t c =
    record { read = rw c.in_ok-fields.ensures.items (continues_none (fields_at (value_at c.args.walk.schema.now.decls c.args.walk.levels) (map shape c.args.args.now) [] (map slot c.args.slots.now)) (fields_at (value_at c.args.walk.schema.now.decls c.args.walk.levels) (map shape c.args.args.now) [] (map slot c.args.slots.now)) _ c.args.at.now (λ s. refl)); used = used_none _ ⊥ (λ f. f) }

pub fields_of-loop-field-preserved : goal.fields_of-loop-field-preserved
fields_of-loop-field-preserved g t c =
    record {
      read = rw (c.in_ok-push.ensures.items, map_push) (continues_more view (fields_at (value_at c.args.walk.schema.now.decls c.args.walk.levels) (map shape c.args.args.now) [] (map slot c.args.slots.now)) (fields_at (value_at c.args.walk.schema.now.decls c.args.walk.levels) (map shape c.args.args.now) (map view c.loop-field.fields.items) (map slot (drop c.loop-field.field-index c.args.slots.now))) (fields_at (value_at c.args.walk.schema.now.decls c.args.walk.levels) (map shape c.args.args.now) ((map view c.loop-field.fields.items) ++ view c.in_ok-value.value ∷ []) (map slot (drop (c.loop-field.field-index + 1) c.args.slots.now))) _ _ _ c.args.at.now _ _ c.in_ok-value.value (at_field (value_at c.args.walk.schema.now.decls c.args.walk.levels) (map shape c.args.args.now) (map view c.deref.result.now) (slot c.field-item.result)) (λ x. fields_at (value_at c.args.walk.schema.now.decls c.args.walk.levels) (map shape c.args.args.now) ((map view c.loop-field.fields.items) ++ x.0 ∷ []) (map slot (drop (c.loop-field.field-index + 1) c.args.slots.now)) x.1) c.loop-field.invariant.read c.in_ok-value.ensures.read (λ s. next_field (value_at c.args.walk.schema.now.decls c.args.walk.levels) (map shape c.args.args.now) c.args.slots.now c.loop-field.field-index c.field-item.result (map view c.loop-field.fields.items) s (omega arith) c.field-item.is ∙ ap (λ (b : List ValueView). at_field (value_at c.args.walk.schema.now.decls c.args.walk.levels) (map shape c.args.args.now) b (slot c.field-item.result) s >>= (λ x. fields_at (value_at c.args.walk.schema.now.decls c.args.walk.levels) (map shape c.args.args.now) ((map view c.loop-field.fields.items) ++ x.0 ∷ []) (map slot (drop (c.loop-field.field-index + 1) c.args.slots.now)) x.1)) (sym (ap (map view) c.deref.ensures.value))) (λ s. refl));
      used = search rules;
    }

pub fields_of-returns-in_err-value-clause-read : goal.fields_of-returns-in_err-value-clause-read
fields_of-returns-in_err-value-clause-read g t c =
    let p = err_from_is_err_and c.from_residual-in_err-value.result c.from_residual-in_err-value.ensures.1 in
    rw (p.1, p.2) (continues_fails view (λ (v : Vec Value Global). map view v.items) (fields_at (value_at c.args.walk.schema.now.decls c.args.walk.levels) (map shape c.args.args.now) [] (map slot c.args.slots.now)) (fields_at (value_at c.args.walk.schema.now.decls c.args.walk.levels) (map shape c.args.args.now) (map view c.loop-field.fields.items) (map slot (drop c.loop-field.field-index c.args.slots.now))) _ _ _ c.args.at.now c.loop-field.at c.field_of.new.at c.field_of.new.at c.in_err-value.field-0.0 (at_field (value_at c.args.walk.schema.now.decls c.args.walk.levels) (map shape c.args.args.now) (map view c.deref.result.now) (slot c.field-item.result)) (λ x. fields_at (value_at c.args.walk.schema.now.decls c.args.walk.levels) (map shape c.args.args.now) ((map view c.loop-field.fields.items) ++ x.0 ∷ []) (map slot (drop (c.loop-field.field-index + 1) c.args.slots.now)) x.1) c.loop-field.invariant.read c.in_err-value.ensures.read (λ s. next_field (value_at c.args.walk.schema.now.decls c.args.walk.levels) (map shape c.args.args.now) c.args.slots.now c.loop-field.field-index c.field-item.result (map view c.loop-field.fields.items) s (omega arith) c.field-item.is ∙ ap (λ (b : List ValueView). at_field (value_at c.args.walk.schema.now.decls c.args.walk.levels) (map shape c.args.args.now) b (slot c.field-item.result) s >>= (λ x. fields_at (value_at c.args.walk.schema.now.decls c.args.walk.levels) (map shape c.args.args.now) ((map view c.loop-field.fields.items) ++ x.0 ∷ []) (map slot (drop (c.loop-field.field-index + 1) c.args.slots.now)) x.1)) (sym (ap (map view) c.deref.ensures.value))))

pub fields_of-returns-clause-read : goal.fields_of-returns-clause-read
fields_of-returns-clause-read g t c =
    continues_done (λ (v : Vec Value Global). map view v.items) (fields_at (value_at c.args.walk.schema.now.decls c.args.walk.levels) (map shape c.args.args.now) [] (map slot c.args.slots.now)) (fields_at (value_at c.args.walk.schema.now.decls c.args.walk.levels) (map shape c.args.args.now) (map view c.loop-field.fields.items) (map slot (drop c.loop-field.field-index c.args.slots.now))) _ _ c.args.at.now _ c.loop-field.fields c.loop-field.invariant.read (λ s. no_field (value_at c.args.walk.schema.now.decls c.args.walk.levels) (map shape c.args.args.now) c.args.slots.now c.loop-field.field-index _ s (omega arith))

pub field_of-returns-then-is_empty-clause-read : goal.field_of-returns-then-is_empty-clause-read
field_of-returns-then-is_empty-clause-read g t c =
    field_as_it_is _ _ c.args.at.now c.value_of.new.at c.value_of.result (value_at c.args.walk.schema.now.decls c.args.walk.levels) (map shape c.args.args.now) (map view c.args.before.now) (slot c.args.field.now) (no_arguments c.args.args.now c.is_empty.result c.is_empty.ensures c.if-is_empty.true) (sym c.stands.ensures ∙ c.if-not-stands.false) c.value_of.ensures.read
