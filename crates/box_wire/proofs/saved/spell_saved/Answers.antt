use Rattle.std.proofs.Common.{◌∙◌, ℕ, List, ap, refl, sym, subst}
use Rattle.tl_types.specs.Seen.{view}
use Rattle.tl_types.specs.Values.{ValueView}
use Rattle.wire_profile.specs.Indexes.{cell_shape}
use Rattle.wire_profile.specs.SpelledForms.{placed}
use Rattle.wire_values.specs.SavedClients.{saved_tree}
use Rattle.box_wire.specs.Kinds.{saved_clients}
use Rattle.box_wire.specs.inner.Wholes.{IsSpelling}
use Rattle.box_wire.proofs.SavedLaws.{saved_formed}
use Rattle.box_wire.proofs.Roots.{of_root}
use Rattle.box_wire.proofs.saved.spell_saved.Goals as goal

pub returns : goal.returns
returns c =
    let formed = saved_formed c.args.profile.now c.plan.ensures.sound in
    let is = of_root c.args.profile.now c.plan.result.now c.plan.ensures.plan 2 (cell_shape c.args.profile.now saved_clients.cell) refl formed (λ S T. IsSpelling S T (view c.put_indexes.new.value) c.in_ok-bytes.bytes.items) c.in_ok-bytes.ensures in
    let own = subst (λ (u : ValueView). IsSpelling c.args.profile.now.schema (cell_shape c.args.profile.now saved_clients.cell) u c.in_ok-bytes.bytes.items) (c.put_indexes.ensures ∙ ap (placed c.args.profile.now) c.in_ok-value.ensures) is in
    subst (λ (b : List ℕ). IsSpelling c.args.profile.now.schema (cell_shape c.args.profile.now saved_clients.cell) (placed c.args.profile.now (saved_tree c.args.saved.now)) b) (sym c.from_vec.ensures) own
