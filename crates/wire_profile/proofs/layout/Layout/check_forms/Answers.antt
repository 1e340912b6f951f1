use Rattle.std.proofs.Common.{◌∙◌, ap, subst, get_or, add-one}
use Rattle.std.proofs.lemmas.Result.{err_from_is_err_and}
use Rattle.wire_profile.specs.Indexes.{ProfileView}
use Rattle.wire_profile.specs.Faults.{IsFound}
use Rattle.wire_profile.proofs.Differences.{form_none, form_told}
use Rattle.wire_profile.proofs.layout.Layout.check_forms.Goals as goal

pub returns-in_err-check_form : goal.returns-in_err-check_form
returns-in_err-check_form c =
    let told = form_told c.args.self.now c.loop-k.k c.index.result.now _ c.forms-form-items.result.now c.in_err-check_form.field-0.0 c.loop-k-test.true (subst IsFound c.self.view_is c.self.invariant) c.forms-form-items.ensures (c.index.ensures ∙ ap (λ (p : ProfileView). get_or p.indexes c.loop-k.k c.index.result.now) c.self.view_is) c.in_err-check_form.ensures c.loop-k.invariant in
    let p = err_from_is_err_and c.from_residual.result c.from_residual.ensures.1 in
    rw (p.1, p.2) told

pub loop-k-preserved : goal.loop-k-preserved
loop-k-preserved c =
    rw add-one
    (c.loop-k.invariant
    ∙ form_none c.args.self.now c.loop-k.k c.index.result.now _ c.forms-form-items.result.now c.loop-k-test.true (subst IsFound c.self.view_is c.self.invariant) c.forms-form-items.ensures
    (c.index.ensures ∙ ap (λ (p : ProfileView). get_or p.indexes c.loop-k.k c.index.result.now) c.self.view_is) c.in_ok-check_form.ensures)
