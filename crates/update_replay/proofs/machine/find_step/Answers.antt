use Rattle.tl_base.specs.Slices.{slice_state}
use Rattle.update_replay.proofs.Handed.{found, none_found, not_found, slice_told}
use Rattle.update_replay.proofs.machine.find_step.Goals as goal

pub returns-in_err-step-clause-step : goal.returns-in_err-step-clause-step
returns-in_err-step-clause-step c =
    let w = c.new-window.result in
    let v = c.read_step.new.from in
    not_found c.args.profile.now c.args.bytes.now w.limit w.rest v.limit v.rest w.from.ghost_name v.from.ghost_name (slice_state w.from.now.at w.from.now.bytes.now) (slice_state v.from.now.at v.from.now.bytes.now) c.read_step.ensures.used.kept
    c.new-window.ensures.limit c.new-window.ensures.rest (slice_told w.from.now c.new-from.result c.args.bytes.now c.new-window.ensures.value c.new-from.ensures.at c.new-from.ensures.bytes)
    c.in_err-step.field-0.0 c.from_residual.result c.from_residual.ensures.1 c.in_err-step.ensures.read

pub returns-in-Some-clause-step : goal.returns-in-Some-clause-step
returns-in-Some-clause-step c =
    let w = c.new-window.result in
    let v = c.read_step.new.from in
    found c.args.profile.now c.args.bytes.now w.limit w.rest v.limit v.rest w.from.ghost_name v.from.ghost_name (slice_state w.from.now.at w.from.now.bytes.now) (slice_state v.from.now.at v.from.now.bytes.now) c.read_step.ensures.used.kept
    c.new-window.ensures.limit c.new-window.ensures.rest (slice_told w.from.now c.new-from.result c.args.bytes.now c.new-window.ensures.value c.new-from.ensures.at c.new-from.ensures.bytes)
    c.in-Some.step c.taken.result (rw c.in-Some.is at c.in_ok-step.ensures.read) c.taken.ensures

pub returns-in-None-clause-step : goal.returns-in-None-clause-step
returns-in-None-clause-step c =
    let w = c.new-window.result in
    let v = c.read_step.new.from in
    none_found c.args.profile.now c.args.bytes.now w.limit w.rest v.limit v.rest w.from.ghost_name v.from.ghost_name (slice_state w.from.now.at w.from.now.bytes.now) (slice_state v.from.now.at v.from.now.bytes.now) c.read_step.ensures.used.kept
    c.new-window.ensures.limit c.new-window.ensures.rest (slice_told w.from.now c.new-from.result c.args.bytes.now c.new-window.ensures.value c.new-from.ensures.at c.new-from.ensures.bytes)
    (rw c.in-None.is at c.in_ok-step.ensures.read)
