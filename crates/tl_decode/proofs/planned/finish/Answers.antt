use Rattle.std.proofs.Common.{refl, rules}
use Rattle.std.proofs.lemmas.Result.{err_from_is_err_and}
use Rattle.tl_base.proofs.Uses.{used_none}
use Rattle.tl_types.specs.Seen.{view}
use Rattle.tl_decode.specs.declared.stack.Found.TheVariants as found
use Rattle.tl_decode.specs.inner.Frames.{found_at, views}
use Rattle.tl_decode.proofs.Onward.{goes_on_from, stops_from}
use Rattle.tl_decode.proofs.Steps.{continues_done, continues_none}
use Rattle.tl_decode.proofs.planned.finish.Goals as goal

pub items-init : goal.items-init
items-init g c =
    let start = found_at c.args.plan.now (views c.args.plan.now c.args.frames.now.items) c.args.first in
    record { frames = c.requires.frames; well = c.requires.well; read = continues_none start start _ c.args.at.now (λ s. refl); used = used_none _ ⊥ (λ f. f) }

pub returns-in-Done-clause-read : goal.returns-in-Done-clause-read
returns-in-Done-clause-read g c =
    let vs = views c.args.plan.now c.items.frames.items in
    continues_done view (found_at c.args.plan.now (views c.args.plan.now c.args.frames.now.items) c.args.first) (found_at c.args.plan.now vs (found.Done c.in-Done.value)) _ _ c.args.at.now c.items.at c.in-Done.value (rw c.in-Done.is at c.items.invariant.read) (λ s. refl)

pub returns-in_err-found-in-Wants-clause-read : goal.returns-in_err-found-in-Wants-clause-read
returns-in_err-found-in-Wants-clause-read g c =
    let p = err_from_is_err_and c.from_residual.result c.from_residual.ensures.1 in
    let start = found_at c.args.plan.now (views c.args.plan.now c.args.frames.now.items) c.args.first in
    let vs = views c.args.plan.now c.items.frames.items in
    rw (p.1, p.2)
    (stops_from start (found_at c.args.plan.now vs (found.Wants c.in-Wants.wanted)) (found_at c.args.plan.now (views c.args.plan.now c.one_item.new.frames.items)) _ _ _ c.args.at.now c.items.at c.one_item.new.at _ (rw c.in-Wants.is at c.items.invariant.read)
    c.in_err-found-in-Wants.ensures.read)

pub items-preserved : goal.items-preserved
items-preserved g c =
    let start = found_at c.args.plan.now (views c.args.plan.now c.args.frames.now.items) c.args.first in
    let vs = views c.args.plan.now c.items.frames.items in
    record {
      frames = c.in_ok-found-in-Wants.ensures.found.0;
      well = c.in_ok-found-in-Wants.ensures.found.1;
      read =
          goes_on_from start (found_at c.args.plan.now vs (found.Wants c.in-Wants.wanted)) (found_at c.args.plan.now (views c.args.plan.now c.one_item.new.frames.items)) _ _ _ c.args.at.now c.items.at c.one_item.new.at c.in_ok-found-in-Wants.found
          (rw c.in-Wants.is at c.items.invariant.read) c.in_ok-found-in-Wants.ensures.read;
      used = search rules;
    }
