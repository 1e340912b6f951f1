use Rattle.std.proofs.Common.{◌≡◌, ◌+◌, length, arith}
use Rattle.std.proofs.lemmas.Result.{err_from_is_err_and}
use Rattle.tl_types.specs.Offsets.{moved}
use Rattle.tl_decode.specs.declared.stack.Found.TheVariants as found
use Rattle.tl_decode.specs.inner.Frames.{found_work, views}
use Rattle.tl_decode.proofs.PieceSteps.{item_error, item_some, item_stop}
use Rattle.tl_decode.proofs.PieceWork.{none_less}
use Rattle.tl_decode.proofs.feeding.take_item.Goals as goal

pub returns-in_err-found-in-Ok-Some-clause-takes : goal.returns-in_err-found-in-Ok-Some-clause-takes
returns-in_err-found-in-Ok-Some-clause-takes c =
    let x = c.in-Ok-Some in
    let old = c.args.reading.now in
    let work = found_work c.args.plan.now (views c.args.plan.now old.frames.items) (found.Wants old.wanted) in
    let is : c.saturating_add-in-Ok-Some.result ≡ moved c.args.at.now (length old.held.items + x.count) = omega (arith, c.saturating_add.ensures, c.saturating_add-in-Ok-Some.ensures, c.len-had.ensures, old.held.ok.0) in
    let p = err_from_is_err_and c.from_residual.result c.from_residual.ensures.1 in
    rw (p.1, p.2)
    (item_error c.args.plan.now old (record old { frames = c.after_item.new.frames; held = c.next_item.new.held }) c.args.at.now c.saturating_add-in-Ok-Some.result c.args.next.now x.item x.count (rw x.field-0-is at x.ensures) is work work _ c.in_err-found-in-Ok-Some.ensures.goes)

pub returns-in_ok-found-in-Ok-Some-clause-takes : goal.returns-in_ok-found-in-Ok-Some-clause-takes
returns-in_ok-found-in-Ok-Some-clause-takes c =
    let x = c.in-Ok-Some in
    let old = c.args.reading.now in
    let work = found_work c.args.plan.now (views c.args.plan.now old.frames.items) (found.Wants old.wanted) in
    let is : c.saturating_add-in-Ok-Some.result ≡ moved c.args.at.now (length old.held.items + x.count) = omega (arith, c.saturating_add.ensures, c.saturating_add-in-Ok-Some.ensures, c.len-had.ensures, old.held.ok.0) in
    item_some c.args.plan.now old (record old { frames = c.after_item.new.frames; held = c.next_item.new.held }) c.args.at.now c.saturating_add-in-Ok-Some.result c.args.next.now x.item x.count (rw x.field-0-is at x.ensures) is work c.in_ok-found-in-Ok-Some.found
    c.in_ok-found-in-Ok-Some.ensures.goes c.in_ok-found-in-Ok-Some.ensures.less

pub returns-in-Err-clause-takes : goal.returns-in-Err-clause-takes
returns-in-Err-clause-takes c =
    let old = c.args.reading.now in
    item_stop c.args.plan.now old (record old { held = c.next_item.new.held }) c.args.at.now c.args.at.now (found_work c.args.plan.now (views c.args.plan.now old.frames.items) (found.Wants old.wanted)) c.args.next.now c.in-Err.stop c.stopped.result c.in-Err.ensures c.stopped.ensures

pub returns-in-Ok-None-clause-less : goal.returns-in-Ok-None-clause-less
returns-in-Ok-None-clause-less c =
    let held = c.next_item.new.held in
    let next = rw c.in-Ok-None.field-0-is at c.in-Ok-None.ensures in
    none_less c.args.plan.now c.args.reading.now held c.args.next.now next.0 (omega (arith, held.ok.0))
