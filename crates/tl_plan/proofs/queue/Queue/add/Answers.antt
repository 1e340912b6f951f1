use Rattle.std.proofs.Common.{ℕ, List, [], ◌∷◌, ◌++◌, ap, ◌∙◌, arith}
use Rattle.tl_plan.proofs.QueueSteps.{queue_push}
use Rattle.tl_plan.proofs.queue.Queue.add.Goals as goal

pub invariant_of-self-2 : goal.invariant_of-self-2
invariant_of-self-2 c =
    queue_push c.self.inside.nodes.items c.push_reserved.new.self.items c.self.inside.indexes.entries c.keep_first.new.indexes.entries c.args.node c.len-index.result c.self.invariant
    (omega arith) (omega arith) c.in_ok-keep_first.ensures.kept (c.push_reserved.ensures.items ∙ ap (λ (ns : List ℕ). ns ++ c.args.node ∷ []) c.in_ok-reserve.ensures.items)
