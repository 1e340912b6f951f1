use Rattle.std.proofs.Common.{length}
use Rattle.update_commands.proofs.Replayed.{ends, fewer, goes, stops, write_failed, writes_more, writes_none}
use Rattle.update_commands.proofs.replay.write_replay.Goals as goal

pub steps-init : goal.steps-init
steps-init g c = record { writing = writes_none _ _ _ c.args.world.now c.new-replay.result _ (c.new-replay.ensures c.args.world.now c.requires.new) }

pub next-requires : goal.next-requires
next-requires g c = goes _ _ _ c.steps.world c.steps.replay _ _ c.steps.invariant.writing

pub returns-in-Err : goal.returns-in-Err
returns-in-Err g c =
    let P = c.args.world.now.profile in
    let N = length c.args.world.now.clients in
    let J = c.args.journal.now in
    let w = c.steps.invariant.writing in
    stops P c.requires.sound N J c.requires.bytes c.steps.world c.steps.replay _ _ w c.next.new.world c.next.new.self _ c.in-Err.fault _ (c.in-Err.ensures.handed P N J w.steps w.output w.made) c.tell_stop.ensures

pub returns-then-not-more : goal.returns-then-not-more
returns-then-not-more g c =
    let P = c.args.world.now.profile in
    let N = length c.args.world.now.clients in
    let J = c.args.journal.now in
    let w = c.steps.invariant.writing in
    ends P N J c.steps.world c.steps.replay _ _ w c.next.new.world c.next.new.self _ c.lines.result.now _ (rw c.if-not-more.true at (c.in-Ok.ensures.handed P N J w.steps w.output w.made)) c.lines.ensures c.print.ensures

pub returns-in-Err-write_out : goal.returns-in-Err-write_out
returns-in-Err-write_out g c =
    let P = c.args.world.now.profile in
    let N = length c.args.world.now.clients in
    let J = c.args.journal.now in
    let w = c.steps.invariant.writing in
    write_failed P c.requires.sound N J c.requires.bytes c.steps.world c.steps.replay _ _ w c.next.new.world c.next.new.self _ _ c.lines-in-steps.result.now _ (rw c.if-not-more.false at (c.in-Ok.ensures.handed P N J w.steps w.output w.made)) c.lines-in-steps.ensures c.in-Err-write_out.ensures c.tell.ensures

pub steps-preserved : goal.steps-preserved
steps-preserved g c =
    let P = c.args.world.now.profile in
    let N = length c.args.world.now.clients in
    let J = c.args.journal.now in
    let w = c.steps.invariant.writing in
    record { writing = writes_more P N J c.steps.world c.steps.replay _ _ w c.next.new.world c.next.new.self _ c.lines-in-steps.result.now (rw c.if-not-more.false at (c.in-Ok.ensures.handed P N J w.steps w.output w.made)) c.lines-in-steps.ensures c.in-Ok-write_out.ensures }

pub steps-smaller : goal.steps-smaller
steps-smaller g c =
    let P = c.args.world.now.profile in
    let N = length c.args.world.now.clients in
    let J = c.args.journal.now in
    let w = c.steps.invariant.writing in
    fewer P N J c.steps.world c.steps.replay _ _ w c.next.new.world c.next.new.self (rw c.if-not-more.false at (c.in-Ok.ensures.handed P N J w.steps w.output w.made))
