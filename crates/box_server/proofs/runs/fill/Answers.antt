use Rattle.std.proofs.Common.{arith, ap, ℕ, ◌+◌, ◌-◌}
use Rattle.box_events.specs.declared.limits.TheConstants.{RUN_EVENTS}
use Rattle.box_server.proofs.RunSteps.{filling_none, filling_one, filling_ends, filled_end, filled_large, filled_most}
use Rattle.box_server.proofs.runs.fill.Goals as goal

pub loop-init : goal.loop-init
loop-init c = filling_none c.args.events.now c.args.from c.args.parts.now c.end-stop.ensures.counted c.requires.boundary c.requires.from c.requires.empty

pub returns-in_default : goal.returns-in_default
returns-in_default c = filled_end c.args.events.now c.args.from c.loop.parts c.loop.end (RUN_EVENTS - c.loop.counter) c.loop.left c.end-stop.ensures.counted c.in_default.ensures c.loop.invariant

pub returns-then-bytes-left : goal.returns-then-bytes-left
returns-then-bytes-left c =
    filled_large c.args.events.now c.args.from c.loop.parts c.loop.end (RUN_EVENTS - c.loop.counter) c.loop.left c.in-Some.event.now c.end-stop.ensures.counted c.in-Some.ensures (omega (arith, c.if-bytes-left.true, c.bytes_of-bytes.ensures)) c.loop.invariant

pub add-requires : goal.add-requires
add-requires c =
    let ends = filling_ends c.args.events.now c.args.from c.loop.parts c.loop.end (RUN_EVENTS - c.loop.counter) c.loop.left c.in-Some.event.now c.end-stop.ensures.counted c.in-Some.ensures c.loop.invariant in
    record { limit = omega (arith, ends.0, ends.1, c.end-stop.ensures.value, c.end-stop.ensures.most) }

pub overflow_add-end : goal.overflow_add-end
overflow_add-end c =
    let ends = filling_ends c.args.events.now c.args.from c.loop.parts c.loop.end (RUN_EVENTS - c.loop.counter) c.loop.left c.in-Some.event.now c.end-stop.ensures.counted c.in-Some.ensures c.loop.invariant in
    omega (arith, ends.0, c.end-stop.ensures.value, c.end-stop.ensures.most, c.count-end.ensures.value)

pub loop-preserved : goal.loop-preserved
loop-preserved c =
    filling_one c.args.events.now c.args.from c.loop.parts c.add.new.self c.loop.end (c.loop.end + c.count-end.result) (RUN_EVENTS - c.loop.counter) (RUN_EVENTS - (c.loop.counter + 1)) c.loop.left (c.loop.left - c.bytes_of-bytes.result) c.in-Some.event.now
    c.end-stop.ensures.counted (omega (arith, c.loop-test.true)) c.in-Some.ensures (omega (arith, c.if-bytes-left.false, c.bytes_of-bytes.ensures)) (ap (λ (k : ℕ). c.loop.left - k) c.bytes_of-bytes.ensures) c.in_ok-add.ensures.from c.in_ok-add.ensures.ok (omega (arith, c.count-end.ensures.value)) c.loop.invariant

pub returns : goal.returns
returns c = filled_most c.args.events.now c.args.from c.loop.parts c.loop.end (RUN_EVENTS - c.loop.counter) c.loop.left c.end-stop.ensures.counted (omega (arith, c.loop-test.false)) c.loop.invariant
