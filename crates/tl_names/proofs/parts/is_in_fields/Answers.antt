use Rattle.std.proofs.Common.{◌<◌, ◌∙◌, ap, length, refl, sym, subst, true≢false, below_more, arith}
use Rattle.std.proofs.lemmas.Bool.{iff_false}
use Rattle.std.proofs.lemmas.List.{length-map}
use Rattle.std.proofs.lemmas.Option.{same_Some, slice_get_within}
use Rattle.tl_program.specs.Program.{FieldText}
use Rattle.tl_names.specs.MeantDecls.{MeantFieldView, meant_field}
use Rattle.tl_names.specs.MeantViews.{field_view}
use Rattle.tl_names.specs.Parts.{SomeHeld}
use Rattle.tl_names.proofs.ForTypes.{item_for}
use Rattle.tl_names.proofs.parts.is_in_fields.Goals as goal

pub loop-field-init : goal.loop-field-init
loop-field-init g c = λ d fs same k below. absurd (omega (arith, below))

pub returns-then-is_held : goal.returns-then-is_held
returns-then-is_held g c = λ d fs same.
    let item = item_for field_view (meant_field c.args.index.now d) c.args.fields.now fs c.loop-field.field-index c.field-item.result same c.loop-field-test.true c.field-item.is in
    (λ h. (c.loop-field.field-index, item.0, item.1, (c.is_held.ensures d item.0.kind (ap (λ (f : MeantFieldView). f.kind) item.2)).0 c.if-is_held.true), λ some. refl)

pub loop-field-preserved : goal.loop-field-preserved
loop-field-preserved g c = λ d fs same.
    let item = item_for field_view (meant_field c.args.index.now d) c.args.fields.now fs c.loop-field.field-index c.field-item.result same c.loop-field-test.true c.field-item.is in
    let none = iff_false (c.is_held.ensures d item.0.kind (ap (λ (f : MeantFieldView). f.kind) item.2)) c.if-is_held.false in
    below_more _ _ (c.loop-field.invariant d fs same) (λ f there some. none (subst (λ (x : FieldText). SomeHeld (g.T.TypeTest.holds c.args.test.now c.args.index.now d) x.kind) (same_Some f item.0 (sym there ∙ item.1)) some))

pub returns : goal.returns
returns g c = λ d fs same. (
  λ h. absurd (true≢false (sym h)),
  λ some.
      let within = slice_get_within fs some.0 some.1 some.2 in
      let below : some.0 < c.loop-field.field-index = omega (arith, within, c.loop-field-test.false, length-map c.args.fields.now field_view, length-map fs (meant_field c.args.index.now d), ap length same) in
      absurd (c.loop-field.invariant d fs same some.0 below some.1 some.2 some.3),
)
