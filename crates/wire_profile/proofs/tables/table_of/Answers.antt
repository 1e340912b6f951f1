use Rattle.std.proofs.Common.{length, List, ℕ, [], ◌∷◌, ◌++◌, ap, ap₂, sym, ◌∙◌, arith, add-one}
use Rattle.wire_profile.specs.Indexes.{ProfileView, form_at}
use Rattle.wire_profile.proofs.FormLists.{none_up, one_up, whole_table}
use Rattle.wire_profile.proofs.Differences.{few_indexes}
use Rattle.wire_profile.proofs.tables.table_of.Goals as goal

pub form_at-requires : goal.form_at-requires
form_at-requires c = few_indexes _ c.deref.result.now c.layout.invariant c.deref.ensures.value

pub loop-i-init : goal.loop-i-init
loop-i-init c = c.new-table.ensures.items ∙ sym (none_up c.args.layout.now.indexes)

pub loop-i-preserved : goal.loop-i-preserved
loop-i-preserved c =
    c.in_ok-push.ensures.items
    ∙ ap₂ (λ (xs : List ℕ) (x : ℕ). xs ++ x ∷ []) c.loop-i.invariant (c.form_at.ensures ∙ ap (λ (xs : List ℕ). form_at xs c.loop-i.i) (c.deref.ensures.value ∙ ap (λ (p : ProfileView). p.indexes) c.layout.view_is))
    ∙ rw add-one (sym (one_up c.args.layout.now.indexes c.loop-i.i))

pub returns : goal.returns
returns c =
    whole_table c.args.layout.now c.requires c.loop-i.i c.loop-i.table.items
    (omega (arith, c.loop-i-test.false, c.count-i-end.ensures.count, ap (λ (p : ProfileView). length p.schema.decls) c.layout.view_is)) c.loop-i.invariant
