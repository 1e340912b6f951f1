use Rattle.std.proofs.Common.{ℕ, sym, ap, ap₂, ◌∙◌, subst, arith, length, List}
use Rattle.box_events.specs.Events.{EventView}
use Rattle.box_events.specs.declared.updates.Placed.{Placed}
use Rattle.box_events.specs.Weaving.{Woven}
use Rattle.box_events.specs.inner.Merging.{merged}
use Rattle.box_events.proofs.Merged.{merged_woven}
use Rattle.box_events.proofs.weaving.weave.Goals as goal

pub returns-clause-woven : goal.returns-clause-woven
returns-clause-woven c =
    let found = rw (c.deref.ensures.value ∙ c.into_vec-others.ensures) at c.in-Ok.ensures in
    let number = ap length c.into_vec-news.ensures in
    subst (λ (l : List EventView). Woven c.args.from c.args.to c.args.news c.args.others l)
    (sym (c.merge.ensures ∙ ap₂ (λ (ns : List (List ℕ)) (os : List Placed). merged c.args.from ns os) c.into_vec-news.ensures c.into_vec-others.ensures))
    (merged_woven c.args.from c.args.to c.args.news c.args.others c.requires.others found.0 (omega (arith, found.1, c.if-from-covered.false, c.into_vec-news.result.ok.0, c.len.ensures, number)))
