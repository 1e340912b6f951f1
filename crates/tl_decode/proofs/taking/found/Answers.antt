use Rattle.std.proofs.Common.{List, sym, subst}
use Rattle.tl_plan.specs.PlanLaws.{StandsIn}
use Rattle.tl_plan.specs.declared.instances.Member.{Member}
use Rattle.tl_decode.specs.inner.Frames.{entries_shown}
use Rattle.tl_decode.proofs.Searches.{Ascends, found_member, in_order, stands_there}
use Rattle.tl_decode.proofs.taking.found.Goals as goal

pub index_of-requires-clause-some : goal.index_of-requires-clause-some
index_of-requires-clause-some c =
    subst (λ (ms : List Member). StandsIn (entries_shown ms) c.in_ok-entry.entry) (sym c.deref.ensures.value)
    (stands_there c.args.plan.now c.instance.ensures.sound c.args.of c.instance.result.now c.instance.ensures.shows c.args.word c.in_ok-entry.entry (sym c.in_ok-entry.ensures))

pub index_of-requires-clause-order : goal.index_of-requires-clause-order
index_of-requires-clause-order c =
    subst (λ (ms : List Member). Ascends (entries_shown ms)) (sym c.deref.ensures.value)
    (in_order c.args.plan.now c.instance.ensures.sound c.args.of c.instance.result.now c.instance.ensures.shows c.args.word c.in_ok-entry.entry (sym c.in_ok-entry.ensures))

pub returns-clause-found : goal.returns-clause-found
returns-clause-found c =
    found_member c.args.plan.now c.instance.ensures.sound c.args.of c.instance.result.now c.instance.ensures.shows c.args.word c.in_ok-entry.entry (sym c.in_ok-entry.ensures) c.index_of.result
    (rw c.deref.ensures.value at c.index_of.ensures)
