use Rattle.std.proofs.Common.{sym, ◌∙◌}
use Rattle.tl_plan.proofs.QueueSteps.{kept_new, none_copied}
use Rattle.tl_plan.proofs.queue.keep_first.Goals as goal

pub returns-in_ok-insert-clause-kept : goal.returns-in_ok-insert-clause-kept
returns-in_ok-insert-clause-kept c =
    kept_new c.args.indexes.now.entries c.insert.new.self.entries c.args.node c.args.index (sym c.get.ensures.value ∙ none_copied c.get.result c.is_none.result c.is_none.ensures c.if-is_none.true) (λ n. c.in_ok-insert.ensures.updates.0 n)
