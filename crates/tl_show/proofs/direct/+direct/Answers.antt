use Rattle.std.proofs.Common.{◌≡◌, ◌-◌, ◌<◌, ◌∷◌, length, map, None, Some, refl, sym, ap, ◌∙◌, arith, rules, codes}
use Rattle.json.specs.Token.{Token}
use Rattle.json.specs.Json.{after_end_array, items, read_key, value}
use Rattle.json.specs.Reads.{token_of}
use Rattle.json.proofs.Grammar.{read_key-shorter}
use Rattle.serde_json.specs.Data.{boolean, member, no_members, put, string}
use Rattle.serde_json.specs.Read.{converted, of_items}
use Rattle.serde_json.specs.View.{view as data_of, members_view}
use Rattle.serde_json.specs.declared.value.Value.{Bool, Object, the_lemmas}
use Rattle.serde_json.proofs.Views.{view-Object}
use Rattle.tl_schema.specs.Types as type
use Rattle.tl_schema.specs.declared.schema.TypeRef.{TypeRef}
use Rattle.tl_schema.specs.Seen.{shape}
use Rattle.tl_types.proofs.Closings.{closed_none, no_arguments}
use Rattle.tl_types.proofs.Views.{shape-Vector, view-List}
use Rattle.std.proofs.lemmas.Slice.Eq.{bytes_eq-Decides}
use Rattle.tl_show.specs.inner.Direct.{lacks_any}
use Rattle.tl_show.proofs.DirectFields.{begins_fields, filled, found_at, one_key, record_read}
use Rattle.tl_show.proofs.DirectTokens.{after_key, begins_same, bool_begins, list_begins, name_first, number_begins, object_begins, record_begins, text_begins}
use Rattle.tl_show.proofs.ElementTurns.{begins, ends, goes_on}
use Rattle.tl_show.proofs.JsonTurns.{item_read, items_over, member_read, members_over}
use Rattle.tl_show.proofs.direct.+direct.Goals as goal

pub value_in-returns-in-Number-clause-value : goal.value_in-returns-in-Number-clause-value
value_in-returns-in-Number-clause-value t c =
    let first : c.args.tokens.now ≡ token_of c.in_ok-token.token ∷ c.next.new.self = grind arith in
    let is : c.args.tokens.now ≡ Token.number c.in-Number.text.now ∷ c.next.new.self = grind (arith, first) in
    number_begins c.args.schema.now.decls (shape c.args.of.now) c.args.depth _ _ c.in-Number.text.now c.number_in.result is c.number_in.ensures

pub value_in-returns-in-String-clause-value : goal.value_in-returns-in-String-clause-value
value_in-returns-in-String-clause-value t c =
    let first : c.args.tokens.now ≡ token_of c.in_ok-token.token ∷ c.next.new.self = grind arith in
    let is : c.args.tokens.now ≡ Token.string c.in-String.text.now ∷ c.next.new.self = grind (arith, first) in
    text_begins c.args.schema.now.decls (shape c.args.of.now) c.args.depth _ _ c.in-String.text.now c.text_in.result is c.text_in.ensures

pub value_in-returns-in-Bool-clause-value : goal.value_in-returns-in-Bool-clause-value
value_in-returns-in-Bool-clause-value t c =
    let first : c.args.tokens.now ≡ token_of c.in_ok-token.token ∷ c.next.new.self = grind arith in
    let is : c.args.tokens.now ≡ Token.boolean c.in-Bool.b ∷ c.next.new.self = grind (arith, first) in
    let seen : data_of (Bool c.in-Bool.b) ≡ boolean c.in-Bool.b = search (rules, the_lemmas) in
    bool_begins c.args.schema.now.decls (shape c.args.of.now) c.args.depth _ _ c.in-Bool.b (data_of (Bool c.in-Bool.b)) c.plain_in.result is seen c.plain_in.ensures

pub value_in-returns-in-BeginArray-clause-value : goal.value_in-returns-in-BeginArray-clause-value
value_in-returns-in-BeginArray-clause-value t c =
    let first : c.args.tokens.now ≡ token_of c.in_ok-token.token ∷ c.next.new.self = grind arith in
    begins_same c.args.schema.now.decls (shape c.args.of.now) c.args.depth _ _ (Token.begin_array ∷ c.next.new.self) c.list_in.result (first ∙ ap (λ k. token_of k ∷ c.next.new.self) c.in-BeginArray.is) c.list_in.ensures.value

pub value_in-returns-in-BeginObject-clause-value : goal.value_in-returns-in-BeginObject-clause-value
value_in-returns-in-BeginObject-clause-value t c =
    let first : c.args.tokens.now ≡ token_of c.in_ok-token.token ∷ c.next.new.self = grind arith in
    begins_same c.args.schema.now.decls (shape c.args.of.now) c.args.depth _ _ (Token.begin_object ∷ c.next.new.self) c.object_in.result (first ∙ ap (λ k. token_of k ∷ c.next.new.self) c.in-BeginObject.is) c.object_in.ensures.value

pub list_in-returns-clause-value : goal.list_in-returns-clause-value
list_in-returns-clause-value t c =
    let vector = c.in-Vector in
    let values = c.in_ok-values.values in
    let found = c.in_ok-values.ensures.elements in
    let of = shape-Vector c.args.of.now vector.boxed vector.item vector.is ∙ ap (λ (r : TypeRef). type.vector vector.boxed (shape r)) (sym c.deref.ensures) in
    list_begins c.args.schema.now.decls (shape c.args.of.now) (shape c.deref.result.now) vector.boxed c.args.depth _ _ found.0 values.items _ of (omega arith) found.1 found.2 (view-List values)

pub elements_in-elements-init : goal.elements_in-elements-init
elements_in-elements-init t c = (length c.args.tokens.now, omega arith, begins c.args.schema.now.decls (shape c.args.of.now) _ _ c.new-values.ensures.items, omega arith)

pub elements_in-elements-preserved : goal.elements_in-elements-preserved
elements_in-elements-preserved t c =
    let p = value c.args.depth in
    let l = c.elements in
    let n = l.invariant.0 in
    let going : (after_end_array l.tokens ≡ None) × (c.take_end_array.new.self ≡ l.tokens) = grind arith in
    let done = c.in_ok-value.ensures in
    let element = done.value in
    let r = c.value_in.new.tokens in
    let less : length r < length l.tokens = rw (← going.1) done.shorter in
    let turn = item_read p n l.tokens r element.0 (omega (arith, l.invariant.1)) going.0 (rw (← going.1) element.1) in (
      n - 1,
      omega (arith, l.invariant.1),
      goes_on c.args.schema.now.decls (shape c.args.of.now) _ _ (converted of_items (items p (n - 1) r)) l.values.items _ c.in_ok-value.value element.0 l.invariant.2 turn element.2
          c.in_ok-push.ensures.items,
      omega (arith, l.invariant.3),
    )

pub elements_in-returns-clause-elements : goal.elements_in-returns-clause-elements
elements_in-returns-clause-elements t c =
    let l = c.elements in
    let r = c.take_end_array.new.self in
    ends c.args.schema.now.decls (shape c.args.of.now) _ _ l.values.items r l.invariant.2 (items_over (value c.args.depth) l.invariant.0 l.tokens r l.invariant.1 (grind arith))

pub object_in-returns-then-is_record-clause-value : goal.object_in-returns-then-is_record-clause-value
object_in-returns-then-is_record-clause-value t c =
    record_begins c.args.schema.now.decls (shape c.args.of.now) c.args.depth _ _ (omega arith) c.record_in.result (sym c.is_record.ensures ∙ c.if-is_record.true) c.record_in.ensures.record

pub object_in-returns-clause-value : goal.object_in-returns-clause-value
object_in-returns-clause-value t c =
    let members = c.in_ok-members.members in
    object_begins c.args.schema.now.decls (shape c.args.of.now) c.args.depth _ _ (omega arith) (members_view members.entries) (data_of (Object members)) c.plain_in.result (sym c.is_record.ensures ∙ c.if-is_record.false) c.in_ok-members.ensures.ok (view-Object members) c.plain_in.ensures

pub record_in-returns-then-eq-clause-record : goal.record_in-returns-then-eq-clause-record
record_in-returns-then-eq-clause-record t c =
    let named : read_key c.args.tokens.now ≡ Some (Some c.in-Some.key.now, c.next_key.new.self) = grind arith in
    let same : c.in-Some.key.now ≡ codes "_" = (bytes_eq-Decides c.in-Some.key.now (codes "_")).0 (sym c.eq.ensures ∙ c.if-eq.true) in
    after_key c.args.schema.now.decls (shape c.args.of.now) c.args.depth (codes "_") _ _ _ c.named_in.result (named ∙ ap (λ k. Some (Some k, c.next_key.new.self)) same) c.named_in.ensures.record

pub record_in-returns-else-eq-clause-record : goal.record_in-returns-else-eq-clause-record
record_in-returns-else-eq-clause-record t c =
    let named : read_key c.args.tokens.now ≡ Some (Some c.in-Some.key.now, c.next_key.new.self) = grind arith in
    after_key c.args.schema.now.decls (shape c.args.of.now) c.args.depth _ _ _ _ c.other_in.result named c.other_in.ensures.record

pub named_in-returns-clause-record : goal.named_in-returns-clause-record
named_in-returns-clause-record t c =
    let ds = c.args.schema.now.decls in
    let T = shape c.args.of.now in
    let name = c.in-Some-String.name.now in
    let fields = c.fields.result.now in
    let args = map shape c.arguments_of.result.now in
    name_first ds T c.args.depth name _ c.next.new.self _ _ (grind arith) (λ n enough.
    let found = c.in_ok-values.ensures.fields name n enough in
    (found.0, found.1, record_read ds args T name c.in-Some.entry fields found.0 c.in_ok-values.values.items _ (sym c.in-Some.ensures) c.fields.ensures c.arguments_of.ensures found.2 (ap (lacks_any fields) (sym c.deref.ensures.value) ∙ sym c.lacks_field.ensures ∙ c.if-lacks_field.false) c.record_value.ensures))

pub fields_in-fields-init : goal.fields_in-fields-init
fields_in-fields-init t c =
    let fs = c.args.applied.fields.now in
    let are = c.in_ok-values.ensures in
    record {
      goes = λ name n enough. (n, member (codes "_") (string name) no_members, enough, refl, begins_fields c.args.schema.now.decls (map shape c.args.applied.args.now) name fs c.in_ok-values.values.items c.requires are);
      shorter = omega arith;
      long = filled c.in_ok-values.values.items c.args.applied.fields.now are;
    }

pub fields_in-fields-preserved : goal.fields_in-fields-preserved
fields_in-fields-preserved t c =
    let p = value c.args.depth in
    let l = c.fields in
    let k = c.in-Some.key.now in
    let s = c.next_key.new.self in
    let named : read_key l.tokens ≡ Some (Some k, s) = grind arith in
    let done = c.in_ok-value.ensures in
    let r = c.closed_in.new.tokens in
    let less = read_key-shorter l.tokens (Some k) s named in
    let lesser = done.shorter in
    let found = found_at c.args.schema.now.decls (map shape c.args.applied.args.now) k done.value.0 no_members c.args.applied.fields.now c.in-Some-field_at.i c.index-applied-i.result c.in_ok-value.value c.index-applied-i.is c.in-Some-field_at.ensures done.value.2 in
    record {
      goes = λ name n enough.
          let before = l.invariant.goes name n enough in (
            before.0 - 1,
            put k done.value.0 before.1,
            omega (arith, before.2, less, lesser),
            before.3 ∙ member_read p before.1 before.0 k l.tokens s r done.value.0 (omega (arith, before.2, less)) named done.value.1,
            one_key c.args.schema.now.decls (map shape c.args.applied.args.now) k done.value.0 before.1 name c.args.applied.fields.now l.values.items c.in-Some-field_at.i c.in_ok-value.value c.requires found before.4,
          );
      shorter = omega (arith, l.invariant.shorter, less, lesser);
      long = search rules;
    }

pub fields_in-returns-clause-fields : goal.fields_in-returns-clause-fields
fields_in-returns-clause-fields t c = λ name n enough.
    let l = c.fields in
    let before = l.invariant.goes name n enough in
    (before.1, before.3 ∙ members_over (value c.args.depth) before.1 before.0 l.tokens c.next_key.new.self before.2 (grind arith), before.4)

pub closed_in-returns-then-is_empty-clause-value : goal.closed_in-returns-then-is_empty-clause-value
closed_in-returns-then-is_empty-clause-value t c = rw (no_arguments c.args.args.now c.is_empty.result c.is_empty.ensures c.if-is_empty.true, closed_none (shape c.args.of.now)) c.value_in.ensures.value
