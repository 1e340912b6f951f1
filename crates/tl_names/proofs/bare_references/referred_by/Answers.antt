use Rattle.std.proofs.Common.{[], ◌≤◌, ◌∙◌, length, ap, arith}
use Rattle.std.proofs.lemmas.Bool.{both_ways}
use Rattle.std.proofs.lemmas.List.{length-map}
use Rattle.tl_names.specs.MeantDecls.{MeantDeclView, MeantFieldView, meant_field}
use Rattle.tl_names.specs.MeantViews.{field_view}
use Rattle.tl_names.proofs.Adding.{adds_nothing}
use Rattle.tl_names.proofs.AddingParts.{InFront, adds_field, refers_all, refers_none}
use Rattle.tl_names.proofs.ForTypes.{item_for}
use Rattle.tl_names.proofs.ResolvedDecls.{own_is}
use Rattle.tl_names.proofs.bare_references.referred_by.Goals as goal

pub returns-then-not-is_own : goal.returns-then-not-is_own
returns-then-not-is_own c = λ d same.
    rw c.new-nodes.ensures.items (refers_none c.args.index.now d (λ own. both_ways _ (own_is c.args.index.now d c.args.decl.now c.is_own.result c.is_own.ensures same ∙ c.if-not-is_own.true) own))

pub loop-field-init : goal.loop-field-init
loop-field-init c = λ d fs same.
    rw c.new-nodes.ensures.items (adds_nothing c.args.index.now d (InFront fs 0) [] (λ u held. absurd (omega (arith, held.3))))

pub loop-field-preserved : goal.loop-field-preserved
loop-field-preserved c = λ d fs same.
    let item = item_for field_view (meant_field c.args.index.now d) c.args.decl.now.fields.items fs c.loop-field.field-index c.field-item.result same (rw c.deref-field-items.ensures.value at c.loop-field-test.true) (rw c.deref-field-items.ensures.value at c.field-item.is) in
    adds_field c.args.index.now d fs c.loop-field.field-index item.0 [] c.loop-field.nodes.items c.add_held.new.nodes.items item.1 (c.loop-field.invariant d fs same) (c.in_ok-add_held.ensures d item.0.kind (ap (λ (f : MeantFieldView). f.kind) item.2))

pub returns : goal.returns
returns c = λ d same.
    let fields = ap (λ (m : MeantDeclView). m.fields) same in
    let past = rw c.deref-field-items.ensures.value at c.loop-field-test.false in
    let all : length d.fields ≤ c.loop-field.field-index = omega (arith, past, length-map c.args.decl.now.fields.items field_view, length-map d.fields (meant_field c.args.index.now d), ap length fields) in
    refers_all c.args.index.now d c.loop-field.field-index c.loop-field.nodes.items (own_is c.args.index.now d c.args.decl.now c.is_own.result c.is_own.ensures same ∙ c.if-not-is_own.false) all (c.loop-field.invariant d d.fields fields)
