use Rattle.std.proofs.Common.{rules, ◌∙◌, List, ap, sym, refl, subst}
use Rattle.tl_schema.specs.Schemas.{Declared}
use Rattle.tl_types.specs.Seen.{view, views}
use Rattle.tl_types.specs.Values.{call, node}
use Rattle.tl_types.specs.declared.value.Value.{Value}
use Rattle.tl_types.proofs.Views.{view-Call, view-List, view-Node}
use Rattle.tl_encode.specs.inner.Openings.{IsFieldsFrame}
use Rattle.tl_encode.proofs.Opened.{call_named, call_opened, list_frame, list_item, node_named, node_opened}
use Rattle.tl_encode.proofs.openings.frame_of.Goals as goal

pub returns-in_err-of-in-List : goal.returns-in_err-of-in-List
returns-in_err-of-in-List c =
    let s = c.instance-instance.ensures.shows in
    list_item c.args.plan.now c.instance-instance.ensures.sound c.args.part.of s.0 s.1 c.args.part.bit (view c.args.part.value.now) c.requires.fits c.instance-instance.result.now s.2 c.in-List.items.items (ap view c.in-List.is ∙ view-List c.in-List.items) (search rules)

pub returns-in_ok-of-in-List : goal.returns-in_ok-of-in-List
returns-in_ok-of-in-List c =
    let s = c.instance-instance.ensures.shows in
    list_frame c.args.plan.now c.instance-instance.ensures.sound c.args.part.of s.0 s.1 c.args.part.bit (view c.args.part.value.now) c.requires.fits c.instance-instance.result.now s.2 c.in-List.items.items _ c.in_ok-of-in-List.of
    (ap view c.in-List.is ∙ view-List c.in-List.items) (search rules) refl c.deref.ensures.value refl

pub fields_of-requires-clause-ascending : goal.fields_of-requires-clause-ascending
fields_of-requires-clause-ascending c =
    let s = c.instance-instance.ensures.shows in
    (node_named c.args.plan.now c.instance-instance.ensures.sound c.args.part.of s.0 s.1 c.args.part.bit (view c.args.part.value.now) c.requires.fits c.instance-instance.result.now s.2 c.in-Node.entry c.in-Node.fields.items
    (ap view c.in-Node.is ∙ view-Node c.in-Node.entry c.in-Node.fields)).1

pub fields_of-requires-clause-named : goal.fields_of-requires-clause-named
fields_of-requires-clause-named c =
    let s = c.instance-instance.ensures.shows in
    (node_named c.args.plan.now c.instance-instance.ensures.sound c.args.part.of s.0 s.1 c.args.part.bit (view c.args.part.value.now) c.requires.fits c.instance-instance.result.now s.2 c.in-Node.entry c.in-Node.fields.items
    (ap view c.in-Node.is ∙ view-Node c.in-Node.entry c.in-Node.fields)).0

pub fields_of-requires-in-Call-clause-ascending : goal.fields_of-requires-in-Call-clause-ascending
fields_of-requires-in-Call-clause-ascending c =
    let s = c.instance-instance.ensures.shows in
    (call_named c.args.plan.now c.instance-instance.ensures.sound c.args.part.of s.0 s.1 c.args.part.bit (view c.args.part.value.now) c.requires.fits c.instance-instance.result.now s.2 c.in-Call.entry c.in-Call.fields.items
    (ap view c.in-Call.is ∙ view-Call c.in-Call.entry c.in-Call.fields)).1

pub fields_of-requires-in-Call-clause-named : goal.fields_of-requires-in-Call-clause-named
fields_of-requires-in-Call-clause-named c =
    let s = c.instance-instance.ensures.shows in
    (call_named c.args.plan.now c.instance-instance.ensures.sound c.args.part.of s.0 s.1 c.args.part.bit (view c.args.part.value.now) c.requires.fits c.instance-instance.result.now s.2 c.in-Call.entry c.in-Call.fields.items
    (ap view c.in-Call.is ∙ view-Call c.in-Call.entry c.in-Call.fields)).0

pub returns-in-Node : goal.returns-in-Node
returns-in-Node c =
    let s = c.instance-instance.ensures.shows in
    let vs = c.deref-in-Node.result.now in
    let is = ap view c.in-Node.is ∙ view-Node c.in-Node.entry c.in-Node.fields ∙ sym (ap (λ (ws : List Value). node c.in-Node.entry (views ws)) c.deref-in-Node.ensures.value) in
    let fields = subst (λ (S : Declared). IsFieldsFrame c.instance-instance.result.now.members.items S.decls c.in-Node.entry vs c.fields_of.result) c.schema.ensures c.fields_of.ensures in
    node_opened c.args.plan.now c.instance-instance.ensures.sound c.args.part.of s.0 s.1 c.args.part.bit (view c.args.part.value.now) c.requires.fits c.instance-instance.result.now s.2 c.in-Node.entry vs c.fields_of.result is fields

pub returns-in-Call : goal.returns-in-Call
returns-in-Call c =
    let s = c.instance-instance.ensures.shows in
    let vs = c.deref-in-Call.result.now in
    let is = ap view c.in-Call.is ∙ view-Call c.in-Call.entry c.in-Call.fields ∙ sym (ap (λ (ws : List Value). call c.in-Call.entry (views ws)) c.deref-in-Call.ensures.value) in
    let fields = subst (λ (S : Declared). IsFieldsFrame c.instance-instance.result.now.members.items S.decls c.in-Call.entry vs c.fields_of-in-Call.result) c.schema-in-Call.ensures c.fields_of-in-Call.ensures in
    call_opened c.args.plan.now c.instance-instance.ensures.sound c.args.part.of s.0 s.1 c.args.part.bit (view c.args.part.value.now) c.requires.fits c.instance-instance.result.now s.2 c.in-Call.entry vs c.fields_of-in-Call.result is fields
