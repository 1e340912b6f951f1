use Rattle.std.proofs.lemmas.Result.{err_from_is_err_and}
use Rattle.tl_decode.specs.declared.stack.Found.TheVariants as found
use Rattle.tl_decode.specs.inner.Frames.{found_work, views}
use Rattle.tl_decode.proofs.SourceItems.{wide_item}
use Rattle.tl_decode.proofs.RootsOrEnds.{first_ends, first_failed, first_given, first_stops}
use Rattle.tl_decode.proofs.endings.first_of.Goals as goal

pub item_or_end-requires : goal.item_or_end-requires
item_or_end-requires g c = wide_item c.args.plan.now c.args.wanted c.requires.wanted

pub returns-in_err-item_or_end-clause-read : goal.returns-in_err-item_or_end-clause-read
returns-in_err-item_or_end-clause-read g c =
    let p = err_from_is_err_and c.from_residual.result c.from_residual.ensures.1 in
    rw (p.1, p.2) (first_failed c.args.plan.now (views c.args.plan.now c.args.frames.now.items) c.args.wanted _ _ c.args.at.now c.item_or_end.new.at c.item_or_end.new.at _ c.in_err-item_or_end.ensures.read)

pub returns-in_err-found-in-Some-clause-read : goal.returns-in_err-found-in-Some-clause-read
returns-in_err-found-in-Some-clause-read g c =
    let p = err_from_is_err_and c.from_residual-in_err-found-in-Some.result c.from_residual-in_err-found-in-Some.ensures.1 in
    let vs = views c.args.plan.now c.args.frames.now.items in
    rw (p.1, p.2)
    (first_stops c.args.plan.now vs c.args.wanted c.after_item.new.frames.items _ _ c.args.at.now c.item_or_end.new.at c.item_or_end.new.at (found_work c.args.plan.now vs (found.Wants c.args.wanted)) c.in-Some.item _ (rw c.in-Some.is at c.in_ok-item_or_end.ensures.read) c.in_err-found-in-Some.ensures.goes)

pub returns-in_err-value-in-Some-clause-read : goal.returns-in_err-value-in-Some-clause-read
returns-in_err-value-in-Some-clause-read g c =
    let p = err_from_is_err_and c.from_residual-in_err-value-in-Some.result c.from_residual-in_err-value-in-Some.ensures.1 in
    let vs = views c.args.plan.now c.args.frames.now.items in
    rw (p.1, p.2)
    (first_ends c.args.plan.now vs c.args.wanted c.after_item.new.frames.items _ _ _ c.args.at.now c.item_or_end.new.at c.finish.new.at (found_work c.args.plan.now vs (found.Wants c.args.wanted)) c.in-Some.item c.in_ok-found-in-Some.found (rw c.in-Some.is at c.in_ok-item_or_end.ensures.read) c.in_ok-found-in-Some.ensures.goes _ c.finish.new.at
    c.in_err-value-in-Some.ensures.read)

pub returns-in_ok-value-in-Some-clause-read : goal.returns-in_ok-value-in-Some-clause-read
returns-in_ok-value-in-Some-clause-read g c =
    let vs = views c.args.plan.now c.args.frames.now.items in
    first_given c.args.plan.now vs c.args.wanted c.after_item.new.frames.items _ _ _ c.args.at.now c.item_or_end.new.at c.finish.new.at (found_work c.args.plan.now vs (found.Wants c.args.wanted)) c.in-Some.item c.in_ok-found-in-Some.found (rw c.in-Some.is at c.in_ok-item_or_end.ensures.read) c.in_ok-found-in-Some.ensures.goes c.in_ok-value-in-Some.value
    c.in_ok-value-in-Some.ensures.read
