use Rattle.std.proofs.Common.{rules, ◌∙◌, ap, Option, arith}
use Rattle.std.specs.Option.{unwrap_or}
use Rattle.tl_schema.specs.declared.schema.TypeRef as ref
use Rattle.tl_calls.specs.inner.Judging.{plain}
use Rattle.tl_calls.specs.declared.traits.Traits.{Traits}
use Rattle.tl_calls.proofs.Judged.{stands_var, stands_vector, stands_boxed, stands_bare, stands_leaf, stand_none, stand_more, stand_all}
use Rattle.tl_calls.proofs.judging.+traits.Goals as goal

pub traits_of-returns-in-Var : goal.traits_of-returns-in-Var
traits_of-returns-in-Var t c = stands_var c.args.schema.now c.args.known.now c.args.of.now c.in-Var.index c.unwrap_or.result c.in-Var.is
    (c.unwrap_or.ensures ∙ ap (λ (o : Option Traits). unwrap_or o plain) c.copied.ensures ∙ c.get.ensures.lookup.4 (omega arith) _)

pub traits_of-returns-in-Vector : goal.traits_of-returns-in-Vector
traits_of-returns-in-Vector t c =
    stands_vector c.args.schema.now c.args.known.now c.args.of.now c.in-Vector.boxed c.in-Vector.item c.deref.result.now c.traits_of-t.result c.saturating_add.result c.has_empty.result c.in-Vector.is c.deref.ensures c.saturating_add.ensures c.has_empty.ensures c.traits_of-t.ensures

pub traits_of-returns-in-Boxed : goal.traits_of-returns-in-Boxed
traits_of-returns-in-Boxed t c =
    stands_boxed c.args.schema.now c.args.known.now c.args.of.now c.in-Boxed.head c.in-Boxed.args c.traits_among-t.result c.saturating_add-in-Boxed.result c.in-Boxed.is c.saturating_add-in-Boxed.ensures c.traits_among-t.ensures

pub traits_of-returns-in-Bare : goal.traits_of-returns-in-Bare
traits_of-returns-in-Bare t c =
    stands_bare c.args.schema.now c.args.known.now c.args.of.now c.in-Bare.entry c.in-Bare.args c.traits_among-t-in-Bare.result c.saturating_add-in-Bare.result c.takes_none.result c.in-Bare.is c.saturating_add-in-Bare.ensures c.takes_none.ensures
    c.traits_among-t-in-Bare.ensures

pub traits_of-returns-in_default : goal.traits_of-returns-in_default
traits_of-returns-in_default t c = stands_leaf c.args.schema.now c.args.known.now c.args.of.now (search (rules, ref.the_lemmas))

pub traits_among-loop-item-init : goal.traits_among-loop-item-init
traits_among-loop-item-init t c = stand_none c.args.schema.now c.args.known.now

pub traits_among-loop-item-preserved : goal.traits_among-loop-item-preserved
traits_among-loop-item-preserved t c =
    stand_more c.args.schema.now c.args.known.now c.deref-item-items.result.now c.loop-item.item-index c.item-item.result c.loop-item.among c.traits_of.result c.joined-among.result c.loop-item-test.true c.item-item.is
    c.joined-among.ensures c.loop-item.invariant c.traits_of.ensures

pub traits_among-returns : goal.traits_among-returns
traits_among-returns t c =
    stand_all c.args.schema.now c.args.known.now c.deref-item-items.result.now c.args.args.now.items c.loop-item.item-index c.loop-item.among c.deref-item-items.ensures.value c.loop-item-test.false c.loop-item.invariant
