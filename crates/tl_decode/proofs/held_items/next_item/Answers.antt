use Rattle.std.proofs.Common.{ℕ, List, Err, subst, sym, ◌∙◌, arith}
use Rattle.std.proofs.lemmas.Bool.{eqb-true}
use Rattle.std.proofs.lemmas.List.{nil_from_length}
use Rattle.std.proofs.lemmas.Result.{err_from_is_err_and}
use Rattle.tl_decode.specs.inner.Needs.{IsWhole}
use Rattle.tl_decode.proofs.HeldBytes.{cut_fits, direct_item, direct_stop, held_item, held_stop}
use Rattle.tl_decode.proofs.held_items.next_item.Goals as goal

pub whole_item-requires : goal.whole_item-requires
whole_item-requires c = cut_fits c.args.wanted c.args.next.now c.need_of-size.result c.need_of-size.ensures c.if-size-next.true

pub returns-in_err-item : goal.returns-in_err-item
returns-in_err-item c =
    let p = err_from_is_err_and c.from_residual.result c.from_residual.ensures.1 in
    let empty = eqb-true _ _ (sym c.is_empty.ensures ∙ c.if-is_empty.true) in
    let none = nil_from_length c.args.held.now.items (omega (arith, empty, c.args.held.now.ok.0)) in
    rw (p.1, p.2) (direct_stop c.args.wanted c.args.held.now.items c.args.held.now.items c.args.next.now c.need_of-size.result _ none c.in_err-item.ensures)

pub returns-then-size-next : goal.returns-then-size-next
returns-then-size-next c =
    let empty = eqb-true _ _ (sym c.is_empty.ensures ∙ c.if-is_empty.true) in
    let none = nil_from_length c.args.held.now.items (omega (arith, empty, c.args.held.now.ok.0)) in
    direct_item c.args.wanted c.args.held.now.items c.args.next.now c.need_of-size.result c.in_ok-item.item none c.if-size-next.true c.in_ok-item.ensures

pub returns-in_err-item-2 : goal.returns-in_err-item-2
returns-in_err-item-2 c =
    let p = err_from_is_err_and c.from_residual-in_err-item-2.result c.from_residual-in_err-item-2.ensures.1 in
    rw (p.1, p.2) (held_stop c.args.wanted c.args.held.now.items c.fill.new.held.items c.fill.new.held.items c.args.next.now c.in_ok-count.count _ c.in_ok-count.ensures (subst (λ (b : List ℕ). IsWhole c.args.wanted b (Err c.in_err-item-2.field-0.0)) c.deref-3.ensures.value c.in_err-item-2.ensures))

pub returns : goal.returns
returns c =
    held_item c.args.wanted c.args.held.now.items c.fill.new.held.items c.clear.new.self.items c.args.next.now c.in_ok-count.count c.in_ok-item-2.item c.in_ok-count.ensures (rw c.deref-3.ensures.value at c.in_ok-item-2.ensures) c.clear.ensures.items
