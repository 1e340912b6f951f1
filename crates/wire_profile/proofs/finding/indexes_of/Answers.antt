use Rattle.std.proofs.Common.{List, ℕ, [], ◌∷◌, ◌++◌, map, ap, ap₂, sym, ◌∙◌, add-one}
use Rattle.wire_forms.specs.Forms.{form_view}
use Rattle.wire_forms.specs.declared.form.Form.{Form}
use Rattle.wire_profile.specs.Faults.{declaration_index}
use Rattle.wire_profile.proofs.Found.{map_twice_more, take_whole}
use Rattle.wire_profile.proofs.finding.indexes_of.Goals as goal

pub loop-form-preserved : goal.loop-form-preserved
loop-form-preserved c =
    c.in_ok-push.ensures.items ∙ ap₂ (λ (xs : List ℕ) (x : ℕ). xs ++ x ∷ []) c.loop-form.invariant c.declaration_index.ensures
    ∙ rw add-one (sym (map_twice_more (declaration_index c.args.schema.now) form_view c.loop-form.form-index _ c.forms-form-items.result.now c.loop-form-test.true))

pub returns : goal.returns
returns c =
    c.loop-form.invariant ∙ ap (λ (fs : List Form). map (declaration_index c.args.schema.now) (map form_view fs)) (take_whole _ _ c.loop-form-test.false) ∙ ap (map (declaration_index c.args.schema.now)) c.forms-form-items.ensures
