use Rattle.std.proofs.Common.{ℕ, Bool, List, length, subst}
use Rattle.std.specs.Prelude.{IsErrOf}
use Rattle.tl_base.proofs.Uses.{used_as}
use Rattle.update_replay.specs.Replays.{EndsOn, NeverFull, goes_on, seen_of}
use Rattle.update_replay.specs.declared.fault.ReplayFault.TheVariants.{WriteFault}
use Rattle.update_replay.proofs.Replaying.{map_told, not_taken, text_never, text_unread}
use Rattle.update_replay.proofs.ReplayRooms.{never_full}
use Rattle.update_replay.proofs.Windows.{of_taken}
use Rattle.update_replay.proofs.Writes.{writes_none}
use Rattle.update_replay.proofs.replay.replay_steps.Goals as goal

pub returns-in_err-journal-clause-replayed : goal.returns-in_err-journal-clause-replayed
returns-in_err-journal-clause-replayed g c =
    map_told (g.S.Source.state c.args.from.now).left (λ journal took. not_taken c.args.world.now journal (g.K.Sink.state c.args.to.now).written c.in_err-journal.field-0.0 c.from_residual.result c.requires c.from_residual.ensures.1) c.in_err-journal.ensures.bytes

pub returns-in_err-journal-clause-read : goal.returns-in_err-journal-clause-read
returns-in_err-journal-clause-read g c = used_as (g.S.Source.state c.args.from.now) (g.S.Source.state c.take_text.new.from) _ _ c.in_err-journal.ensures.used (λ f. text_unread c.in_err-journal.field-0.0 c.from_residual.result c.from_residual.ensures.1 f)

pub returns-in_err-journal-clause-written : goal.returns-in_err-journal-clause-written
returns-in_err-journal-clause-written g c = writes_none (g.K.Sink.state c.args.to.now) _ (text_never c.in_err-journal.field-0.0 c.from_residual.result c.from_residual.ensures.1)

pub returns-in_err-journal-clause-fits : goal.returns-in_err-journal-clause-fits
returns-in_err-journal-clause-fits g c =
    map_told (g.S.Source.state c.args.from.now).left (λ journal took. never_full _ _ _ _ _ _ _ _ (text_never c.in_err-journal.field-0.0 c.from_residual.result c.from_residual.ensures.1)) c.in_err-journal.ensures.bytes

pub returns-clause-replayed : goal.returns-clause-replayed
returns-clause-replayed g c =
    let P = c.args.world.now.profile in
    let N = length c.args.world.now.clients in
    let k = g.K.Sink.state in
    let A : List ℕ → Bool → Type 0 = λ seen more. EndsOn P N seen more c.write_steps.new.world (k c.args.to.now).written (k c.write_steps.new.to).written c.write_steps.result in
    map_told (g.S.Source.state c.args.from.now).left
    (λ journal took. of_taken A journal (g.S.Source.state c.take_text.new.from).left c.in_ok-journal.journal took (subst (λ (z : List ℕ). A (seen_of z) (goes_on z)) c.deref.ensures.value c.write_steps.ensures.replayed))
    c.in_ok-journal.ensures.bytes

pub returns-clause-read : goal.returns-clause-read
returns-clause-read g c = used_as (g.S.Source.state c.args.from.now) (g.S.Source.state c.take_text.new.from) _ _ c.in_ok-journal.ensures.used (λ f. absurd (c.write_steps.ensures.unread f))

pub returns-clause-fits : goal.returns-clause-fits
returns-clause-fits g c =
    let P = c.args.world.now.profile in
    let N = length c.args.world.now.clients in
    let k = g.K.Sink.state c.args.to.now in
    let A : List ℕ → Bool → Type 0 = λ seen more. NeverFull P N seen more k.written k.sound k.room (IsErrOf c.write_steps.result WriteFault) in
    map_told (g.S.Source.state c.args.from.now).left
    (λ journal took. of_taken A journal (g.S.Source.state c.take_text.new.from).left c.in_ok-journal.journal took (subst (λ (z : List ℕ). A (seen_of z) (goes_on z)) c.deref.ensures.value c.write_steps.ensures.fits))
    c.in_ok-journal.ensures.bytes
