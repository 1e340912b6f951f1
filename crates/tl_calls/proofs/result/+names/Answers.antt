use Rattle.std.proofs.Common.{◌≡◌, List, true, false, map, sym, ◌∙◌, subst}
use Rattle.tl_schema.specs.Seen.{shape}
use Rattle.tl_schema.specs.Types.{shapes_of}
use Rattle.tl_schema.specs.declared.schema.TypeRef.{TypeRef}
use Rattle.tl_calls.specs.inner.Making.{name_in}
use Rattle.tl_calls.proofs.Agreed.{names_here, names_later, names_none}
use Rattle.tl_calls.proofs.result.+names.Goals as goal

pub name_in-returns-then-names : goal.name_in-returns-then-names
name_in-returns-then-names t c =
    sym (subst (λ (ts : List TypeRef). name_in c.args.var (shapes_of (map shape ts)) ≡ true) c.deref-item-items.ensures.value
    (names_here c.args.var c.deref-item-items.result.now c.item-item.result c.loop-item.item-index c.loop-item-test.true c.item-item.is c.loop-item.invariant (sym c.names.ensures ∙ c.if-names.true)))

pub name_in-loop-item-preserved : goal.name_in-loop-item-preserved
name_in-loop-item-preserved t c =
    names_later c.args.var c.deref-item-items.result.now c.item-item.result c.loop-item.item-index c.loop-item-test.true c.item-item.is c.loop-item.invariant (sym c.names.ensures ∙ c.if-names.false)

pub name_in-returns : goal.name_in-returns
name_in-returns t c =
    sym (subst (λ (ts : List TypeRef). name_in c.args.var (shapes_of (map shape ts)) ≡ false) c.deref-item-items.ensures.value
    (names_none c.args.var c.deref-item-items.result.now c.loop-item.item-index c.loop-item-test.false c.loop-item.invariant))
