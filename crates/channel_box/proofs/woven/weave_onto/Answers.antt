use Rattle.std.proofs.Common.{ℕ, arith, subst}
use Rattle.std.proofs.lemmas.Result.{err_from_is_err_and}
use Rattle.box_events.specs.Refusal.{Fits}
use Rattle.box_events.proofs.Made.{keeps_counts}
use Rattle.box_events.proofs.Once.{each_fits}
use Rattle.channel_box.proofs.Brought.{ending_sums, few_counted}
use Rattle.channel_box.proofs.woven.weave_onto.Goals as goal

pub overflow_cast-len : goal.overflow_cast-len
overflow_cast-len c =
    let w = c.in_ok-events.ensures.woven in
    let xs = c.in_ok-events.events.items in
    record { fits = omega (arith, c.len.ensures, c.in_ok-events.events.ok.0, few_counted xs (keeps_counts _ c.args.to c.args.news c.args.others xs c.requires.counted w), w.sum, c.requires.to) }

pub returns-in_err-reserve-clause-refused : goal.returns-in_err-reserve-clause-refused
returns-in_err-reserve-clause-refused c =
    let p = err_from_is_err_and c.from_residual-in_err-reserve.result c.from_residual-in_err-reserve.ensures.1 in
    rw (p.1, p.2) (subst (λ (n : ℕ). Fits n c.args.to c.args.news c.args.others) c.at.ensures.value (each_fits c.at.result c.args.to c.args.news c.args.others c.in_ok-events.events.items c.in_ok-events.ensures.woven))

pub returns-clause-limit : goal.returns-clause-limit
returns-clause-limit c = let w = c.in_ok-events.ensures.woven in omega (arith, w.sum, ending_sums c.in_ok-events.events.items, c.requires.to)
