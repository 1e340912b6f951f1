use Rattle.std.proofs.Common.{ℕ, length, Ok, arith, refl, subst, sym}
use Rattle.wire_profile.specs.Profiles.{IsProfile}
use Rattle.update_replay.specs.Replays.{ReplaysOn}
use Rattle.update_replay.specs.declared.fault.ReplayFault.TheVariants.{ReadFault, WriteFault}
use Rattle.update_replay.proofs.Replaying.{closes, fewer, going, no_read, no_write, stops, stops_never, unwritten, writing_more, writing_none}
use Rattle.update_replay.proofs.ReplayRooms.{lines_fit, never_full}
use Rattle.update_replay.proofs.Windows.{seen_bytes}
use Rattle.update_replay.proofs.Writes.{writes_as, writes_none, writes_of, writes_then}
use Rattle.update_replay.proofs.replay.write_steps.Goals as goal

pub steps-init : goal.steps-init
steps-init g c = record { writing = writing_none _ _ _ c.args.world.now c.new-replay.result _ (c.new-replay.ensures c.args.world.now c.requires); written = writes_none _ ⊥ (λ f. f) }

pub next-requires : goal.next-requires
next-requires g c = going _ _ _ _ _ _ _ c.steps.invariant.writing

pub steps-preserved : goal.steps-preserved
steps-preserved g c =
    let P = c.args.world.now.profile in
    let N = length c.args.world.now.clients in
    let J = c.args.journal.now in
    let w = c.steps.invariant.writing in
    record {
      writing = writing_more _ _ _ _ _ _ _ w c.next.new.world c.next.new.self _ c.lines.result.now (rw c.if-not-more.false at (c.in_ok-more.ensures.handed P N J w.steps w.output w.made)) c.lines.ensures c.in_ok-write_all.ensures.bytes;
      written = writes_then _ _ _ ⊥ ⊥ c.steps.invariant.written (writes_of _ _ _ _ ⊥ c.in_ok-write_all.ensures.used (λ f. absurd f));
    }

pub steps-smaller : goal.steps-smaller
steps-smaller g c =
    let P = c.args.world.now.profile in
    let N = length c.args.world.now.clients in
    let J = c.args.journal.now in
    let w = c.steps.invariant.writing in
    fewer _ _ _ _ _ _ _ w c.next.new.world c.next.new.self (rw c.if-not-more.false at (c.in_ok-more.ensures.handed P N J w.steps w.output w.made))

pub returns-in_err-more-clause-replayed : goal.returns-in_err-more-clause-replayed
returns-in_err-more-clause-replayed g c =
    let P = c.args.world.now.profile in
    let N = length c.args.world.now.clients in
    let J = c.args.journal.now in
    let w = c.steps.invariant.writing in
    stops _ _ _ _ _ _ _ w c.next.new.world c.next.new.self c.in_err-more.field-0.0 c.from_residual.result c.from_residual.ensures.1 (c.in_err-more.ensures.handed P N J w.steps w.output w.made)

pub returns-in_err-more-clause-unread : goal.returns-in_err-more-clause-unread
returns-in_err-more-clause-unread g c =
    let P = c.args.world.now.profile in
    let N = length c.args.world.now.clients in
    let J = c.args.journal.now in
    let w = c.steps.invariant.writing in
    stops_never _ _ _ _ _ _ _ w c.next.new.world c.next.new.self c.in_err-more.field-0.0 ReadFault c.from_residual.result no_read c.from_residual.ensures.1 (c.in_err-more.ensures.handed P N J w.steps w.output w.made)

pub returns-in_err-more-clause-written : goal.returns-in_err-more-clause-written
returns-in_err-more-clause-written g c =
    let P = c.args.world.now.profile in
    let N = length c.args.world.now.clients in
    let J = c.args.journal.now in
    let w = c.steps.invariant.writing in
    writes_as _ _ ⊥ _ c.steps.invariant.written (stops_never _ _ _ _ _ _ _ w c.next.new.world c.next.new.self c.in_err-more.field-0.0 WriteFault c.from_residual.result no_write c.from_residual.ensures.1 (c.in_err-more.ensures.handed P N J w.steps w.output w.made))

pub returns-in_err-more-clause-fits : goal.returns-in_err-more-clause-fits
returns-in_err-more-clause-fits g c =
    let P = c.args.world.now.profile in
    let N = length c.args.world.now.clients in
    let J = c.args.journal.now in
    let w = c.steps.invariant.writing in
    never_full _ _ _ _ _ _ _ _ (stops_never _ _ _ _ _ _ _ w c.next.new.world c.next.new.self c.in_err-more.field-0.0 WriteFault c.from_residual.result no_write c.from_residual.ensures.1 (c.in_err-more.ensures.handed P N J w.steps w.output w.made))

pub returns-in_err-write_all-clause-replayed : goal.returns-in_err-write_all-clause-replayed
returns-in_err-write_all-clause-replayed g c =
    let P = c.args.world.now.profile in
    let N = length c.args.world.now.clients in
    let J = c.args.journal.now in
    let w = c.steps.invariant.writing in
    unwritten _ _ _ _ _ _ _ w c.next.new.world c.next.new.self _ c.in_ok-more.more c.lines.result.now c.from_residual-in_err-write_all.result c.from_residual-in_err-write_all.ensures.1
    (c.in_ok-more.ensures.handed P N J w.steps w.output w.made) c.lines.ensures c.in_err-write_all.ensures.bytes

pub returns-in_err-write_all-clause-written : goal.returns-in_err-write_all-clause-written
returns-in_err-write_all-clause-written g c = writes_then _ _ _ ⊥ _ c.steps.invariant.written (writes_of _ _ _ _ _ c.in_err-write_all.ensures.used (λ f. refl))

pub returns-in_err-write_all-clause-fits : goal.returns-in_err-write_all-clause-fits
returns-in_err-write_all-clause-fits g c =
    let P = c.args.world.now.profile in
    let N = length c.args.world.now.clients in
    let J = c.args.journal.now in
    let w = c.steps.invariant.writing in
    lines_fit P (subst IsProfile ((w.made).stands).profile c.in_ok-more.ensures.sound) N J (seen_bytes J (λ k. omega (arith, c.type_inv.journal k))) c.steps.world c.next.new.world c.steps.replay c.next.new.self _ _ _ c.steps.invariant.written w c.in_ok-more.more c.lines.result.now
    (c.in_ok-more.ensures.handed P N J w.steps w.output w.made) c.lines.ensures _ _ c.in_err-write_all.ensures.used (λ f. refl)

pub returns-then-not-more-clause-replayed : goal.returns-then-not-more-clause-replayed
returns-then-not-more-clause-replayed g c =
    let P = c.args.world.now.profile in
    let N = length c.args.world.now.clients in
    let J = c.args.journal.now in
    let w = c.steps.invariant.writing in
    let k = g.K.Sink.state in
    subst (λ (count : ℕ). ReplaysOn P N J c.next.new.world (k c.args.to.now).written (k c.write_all.new.to).written (Ok count)) (sym c.steps-then-not-more.ensures)
    (closes _ _ _ _ _ _ _ w c.next.new.world c.next.new.self _ c.lines.result.now (rw c.if-not-more.true at (c.in_ok-more.ensures.handed P N J w.steps w.output w.made)) c.lines.ensures c.in_ok-write_all.ensures.bytes)

pub returns-then-not-more-clause-written : goal.returns-then-not-more-clause-written
returns-then-not-more-clause-written g c = writes_then _ _ _ ⊥ _ c.steps.invariant.written (writes_of _ _ _ _ _ c.in_ok-write_all.ensures.used (λ f. absurd cc))

pub returns-then-not-more-clause-fits : goal.returns-then-not-more-clause-fits
returns-then-not-more-clause-fits g c = never_full _ _ _ _ _ _ _ _ (λ f. cc)
