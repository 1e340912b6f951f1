use Rattle.std.proofs.Common.{◌≡◌, ◌∙◌, length, refl, ap, arith}
use Rattle.std.proofs.lemmas.Bool.{both_ways}
use Rattle.std.proofs.lemmas.List.{length-map}
use Rattle.tl_names.specs.MeantDecls.{MeantDeclView, MeantFieldView, meant_field}
use Rattle.tl_names.specs.MeantViews.{field_view}
use Rattle.tl_names.proofs.BareFields.{holds_none, holds_more, holds_all, no_fields}
use Rattle.tl_names.proofs.ForTypes.{item_for}
use Rattle.tl_names.proofs.ResolvedDecls.{own_is}
use Rattle.tl_names.proofs.empty_constructors.bare_fields.Goals as goal

pub returns-then-not-is_own : goal.returns-then-not-is_own
returns-then-not-is_own c = λ d same js has. both_ways _ (own_is c.args.index.now d c.args.decl.now c.is_own.result c.is_own.ensures same ∙ c.if-not-is_own.true) has.own

pub loop-field-init : goal.loop-field-init
loop-field-init c = λ d same.
    rw c.new-nodes.ensures.items (holds_none c.args.index.now d (own_is c.args.index.now d c.args.decl.now c.is_own.result c.is_own.ensures same ∙ c.if-not-is_own.false))

pub loop-field-preserved : goal.loop-field-preserved
loop-field-preserved c = λ d same.
    let item = item_for field_view (meant_field c.args.index.now d) c.args.decl.now.fields.items d.fields c.loop-field.field-index c.field-item.result (ap (λ (m : MeantDeclView). m.fields) same) (rw c.deref-field-items.ensures.value at c.loop-field-test.true) (rw c.deref-field-items.ensures.value at c.field-item.is) in
    rw c.in_ok-push-in-Some.ensures.items (holds_more c.args.index.now d c.loop-field.field-index item.0 item.1 c.loop-field.nodes.items c.in-Some.j (c.loop-field.invariant d same) ((c.in-Some.ensures d item.0.kind (ap (λ (f : MeantFieldView). f.kind) item.2) c.in-Some.j).1 refl))

pub returns-in-None : goal.returns-in-None
returns-in-None c = λ d same.
    let item = item_for field_view (meant_field c.args.index.now d) c.args.decl.now.fields.items d.fields c.loop-field.field-index c.field-item.result (ap (λ (m : MeantDeclView). m.fields) same) (rw c.deref-field-items.ensures.value at c.loop-field-test.true) (rw c.deref-field-items.ensures.value at c.field-item.is) in
    no_fields c.args.index.now d c.loop-field.field-index item.0 item.1 (c.in-None.ensures d item.0.kind (ap (λ (f : MeantFieldView). f.kind) item.2))

pub returns : goal.returns
returns c = λ d same.
    let past = rw c.deref-field-items.ensures.value at c.loop-field-test.false in
    let below = rw c.deref-field-items.ensures.value at c.loop-field.auto.field-index-end in
    let all : c.loop-field.field-index ≡ length d.fields = omega (arith, past, below, length-map c.args.decl.now.fields.items field_view, length-map d.fields (meant_field c.args.index.now d), ap length (ap (λ (m : MeantDeclView). m.fields) same)) in
    holds_all c.args.index.now d c.loop-field.field-index c.loop-field.nodes.items (c.loop-field.invariant d same) all
