use Rattle.std.proofs.lemmas.Result.{err_from_is_err_and}
use Rattle.tl_decode.specs.inner.Frames.{found_at, next_work, views}
use Rattle.tl_decode.proofs.Onward.{item_failed, item_refused, item_settled}
use Rattle.tl_decode.proofs.SourceItems.{wide_item}
use Rattle.tl_decode.proofs.planned.one_item.Goals as goal

pub item_of-requires : goal.item_of-requires
item_of-requires g c = wide_item c.args.plan.now c.args.wanted c.requires.wanted

pub returns-in_err-item-clause-read : goal.returns-in_err-item-clause-read
returns-in_err-item-clause-read g c =
    let p = err_from_is_err_and c.from_residual.result c.from_residual.ensures.1 in
    rw (p.1, p.2) (item_failed c.args.plan.now (views c.args.plan.now c.args.frames.now.items) c.args.wanted _ _ c.args.at.now c.item_of.new.at c.item_of.new.at _ (found_at c.args.plan.now (views c.args.plan.now c.args.frames.now.items)) c.in_err-item.ensures.read)

pub returns-in-Ok-clause-read : goal.returns-in-Ok-clause-read
returns-in-Ok-clause-read g c =
    let vs = views c.args.plan.now c.args.frames.now.items in
    item_settled c.args.plan.now vs c.args.wanted c.settle_at.new.frames.items _ _ c.args.at.now c.item_of.new.at (next_work c.args.plan.now vs c.in-Ok.next) c.in_ok-item.item c.in-Ok.next c.settle_at.result c.in_ok-item.ensures.read c.in-Ok.ensures c.settle_at.ensures

pub returns-in-Err-clause-read : goal.returns-in-Err-clause-read
returns-in-Err-clause-read g c =
    let vs = views c.args.plan.now c.args.frames.now.items in
    item_refused c.args.plan.now vs c.args.wanted _ _ c.args.at.now c.item_of.new.at c.item_of.new.at c.in_ok-item.item c.in-Err.stop c.stopped.result (found_at c.args.plan.now vs) c.in_ok-item.ensures.read c.in-Err.ensures c.stopped.ensures
