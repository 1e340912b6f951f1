use Rattle.std.proofs.Common.{refl, sym, subst, ap, ◌∙◌, length, arith, Some, None, slice_get}
use Rattle.std.proofs.lemmas.Option.{slice_get_read}
use Rattle.tl_layers.specs.Compared.{LayersView, IsCounterpart}
use Rattle.tl_layers.proofs.LiftedBy.{entry_some, entry_none, entry_past}
use Rattle.tl_layers.proofs.layers.Layers.entry.Goals as goal

pub returns-in-Some-Some : goal.returns-in-Some-Some
returns-in-Some-Some c =
    let at = slice_get_read c.deref.result.now _ c.args.old c.in-Some-Some.field-0.now refl c.in-Some-Some.ensures.lookup.3.0 c.in-Some-Some.ensures.lookup.1 ∙ ap Some c.in-Some-Some.field-0-is in
    subst (λ (l : LayersView). IsCounterpart l c.args.old (Some c.in-Some-Some.moved.entry)) c.self.view_is
    (entry_some _ _ _ _ c.self.invariant c.args.old c.in-Some-Some.moved (ap (λ ms. slice_get ms c.args.old) (sym c.deref.ensures.value) ∙ at))

pub returns-in-Some-None : goal.returns-in-Some-None
returns-in-Some-None c =
    let at = slice_get_read c.deref.result.now _ c.args.old c.in-Some-None.field-0.now refl c.in-Some-None.ensures.lookup.3.0 c.in-Some-None.ensures.lookup.1 ∙ ap Some c.in-Some-None.field-0-is in
    subst (λ (l : LayersView). IsCounterpart l c.args.old None) c.self.view_is
    (entry_none _ _ _ _ c.self.invariant c.args.old (ap (λ ms. slice_get ms c.args.old) (sym c.deref.ensures.value) ∙ at))

pub returns-in-None : goal.returns-in-None
returns-in-None c =
    subst (λ (l : LayersView). IsCounterpart l c.args.old None) c.self.view_is
    (entry_past _ _ _ _ c.self.invariant c.args.old (let past = c.in-None.ensures.lookup.3 in let same = ap length c.deref.ensures.value in omega (arith, past, same)))
