use Rattle.std.proofs.Common.{List, ℕ, length, Err, refl, sym, ◌∙◌, subst}
use Rattle.std.specs.Prelude.{IsErr}
use Rattle.tl_base.specs.Using.{Wrote}
use Rattle.box_events.specs.declared.requests.Numbered.{Numbered}
use Rattle.box_wire.specs.Framing.{WireRefused}
use Rattle.box_wire.specs.Kinds.{calls}
use Rattle.update_sessions.specs.Exchanges.{MaySendFor}
use Rattle.update_sessions.specs.Packed.{MeansCall}
use Rattle.update_sessions.specs.Serving.{server_side}
use Rattle.update_sessions.specs.Turns.{AnswersPacket}
use Rattle.update_sessions.specs.Faults.{of_packet}
use Rattle.update_sessions.proofs.KeepsRoom.{keeps_still}
use Rattle.update_sessions.proofs.LinkUses.{IsOne, uses_as, uses_read, uses_then, uses_write}
use Rattle.update_sessions.proofs.Received.{message, no_more, no_packet, packet_link_failed, refused_message}
use Rattle.update_sessions.proofs.ServerSteps.{next_cut, next_done, next_ended}
use Rattle.update_sessions.proofs.Stepping.{never_as, reads_never, step_never}
use Rattle.update_sessions.proofs.Untaken.{answered_keeps, unanswered_never, unanswered_none, unread_kept, unread_none}
use Rattle.update_sessions.proofs.storing.serve_next.Goals as goal

pub returns-in-Ok-false-clause-stores : goal.returns-in-Ok-false-clause-stores
returns-in-Ok-false-clause-stores g c =
    let from = g.L.Source in
    let to = g.L.Sink in
    let keeper = g.K.Keeper.state in
    let p = c.args.profile.now in
    let s = c.args.store.now.server in
    let a = from.state c.args.link.now in
    let b = from.state c.read_packet.new.from in
    let x = to.state c.args.link.now in
    let y = to.state c.read_packet.new.from in
    let old = keeper c.args.store.now.keeper in
    let into = c.read_packet.new.into in
    let written = g.met.L.Link.reading_keeps_written c.args.link.now c.read_packet.new.from (sym c.read_packet.ensures.used.kept) in
    next_ended p s a.left x.written b.left y.written old.entries old.entries (no_more {M = Numbered} (MeansCall p) (WireRefused p calls) a.left b.left into (rw c.in-Ok-false.field-0-test at c.in-Ok-false.ensures.bytes)) written refl

pub returns-in-Ok-false-clause-used : goal.returns-in-Ok-false-clause-used
returns-in-Ok-false-clause-used g c =
    let from = g.L.Source in
    let to = g.L.Sink in
    let a = from.state c.args.link.now in
    let b = from.state c.read_packet.new.from in
    let x = to.state c.args.link.now in
    let y = to.state c.read_packet.new.from in
    let written = g.met.L.Link.reading_keeps_written c.args.link.now c.read_packet.new.from (sym c.read_packet.ensures.used.kept) in
    let room = g.met.L.Link.reading_keeps_room c.args.link.now c.read_packet.new.from (sym c.read_packet.ensures.used.kept) in
    let uses = uses_read a b x y _ c.read_packet.ensures.used written room in
    uses_as a b x y _ _ uses (λ e. absurd cc)

pub returns-in-Err : goal.returns-in-Err
returns-in-Err g c =
    let from = g.L.Source in
    let to = g.L.Sink in
    let keeper = g.K.Keeper.state in
    let p = c.args.profile.now in
    let s = c.args.store.now.server in
    let a = from.state c.args.link.now in
    let b = from.state c.read_packet.new.from in
    let x = to.state c.args.link.now in
    let y = to.state c.read_packet.new.from in
    let old = keeper c.args.store.now.keeper in
    let into = c.read_packet.new.into in
    let fault = c.in-Err.fault in
    let written = g.met.L.Link.reading_keeps_written c.args.link.now c.read_packet.new.from (sym c.read_packet.ensures.used.kept) in
    let room = g.met.L.Link.reading_keeps_room c.args.link.now c.read_packet.new.from (sym c.read_packet.ensures.used.kept) in
    let uses = uses_read a b x y _ c.read_packet.ensures.used written room in
    record {
      stores = rw (c.of_session.ensures, c.of_packet.ensures) (unread_none p s a.left x.written b.left y.written old.entries old.entries (of_packet fault) (no_packet {M = Numbered} (MeansCall p) (WireRefused p calls) a.left b.left into fault c.in-Err.ensures.bytes c.in-Err.ensures.into) written refl);
      kept = keeps_still old _ _ (λ e. unread_kept c.of_packet.result c.of_session.result c.of_session.ensures cc);
      used = uses_as a b x y _ _ uses (λ e. packet_link_failed c.read_packet.result fault c.of_packet.result c.of_session.result c.in-Err.is c.of_packet.ensures c.of_session.ensures cc);
      beside = g.met.L.Link.reading_keeps_beside c.read_packet.new.from c.args.link.now c.read_packet.ensures.used.kept;
      never = never_as a x (MaySendFor (server_side p) 1 s) _ _ (reads_never a b x (MaySendFor (server_side p) 1 s) _ c.read_packet.ensures.used) (λ e. packet_link_failed c.read_packet.result fault c.of_packet.result c.of_session.result c.in-Err.is c.of_packet.ensures c.of_session.ensures cc);
    }

pub returns-in-Err-answer_packet : goal.returns-in-Err-answer_packet
returns-in-Err-answer_packet g c =
    let from = g.L.Source in
    let to = g.L.Sink in
    let keeper = g.K.Keeper.state in
    let p = c.args.profile.now in
    let s = c.args.store.now.server in
    let a = from.state c.args.link.now in
    let b = from.state c.read_packet.new.from in
    let x = to.state c.args.link.now in
    let y = to.state c.read_packet.new.from in
    let old = keeper c.args.store.now.keeper in
    let new = keeper c.answer_packet.new.store.keeper in
    let into = c.read_packet.new.into in
    let out = c.answer_packet.new.out in
    let t = c.answer_packet.new.store.server in
    let end = c.in-Err-answer_packet.end in
    let written = g.met.L.Link.reading_keeps_written c.args.link.now c.read_packet.new.from (sym c.read_packet.ensures.used.kept) in
    let room = g.met.L.Link.reading_keeps_room c.args.link.now c.read_packet.new.from (sym c.read_packet.ensures.used.kept) in
    let reads = rw c.in-Ok-true.field-0-test at c.in-Ok-true.ensures.bytes in
    let fits = rw c.in-Ok-true.field-0-test at c.in-Ok-true.ensures.into in
    let r = λ (m : Numbered) (means : MeansCall p m into). message (MeansCall p) (WireRefused p calls) a.left b.left into m reads fits means in
    let answers = subst (λ (l : List ℕ). AnswersPacket p s l out old.entries new.entries t (Err end)) c.as_slice.ensures.value c.in-Err-answer_packet.ensures.answers in
    record {
      stores = unanswered_none p s a.left x.written b.left into out r old.entries new.entries y.written t end (λ fault refused. refused_message {M = Numbered} (MeansCall p) (WireRefused p calls) a.left b.left into fault reads fits refused) written answers;
      kept = answered_keeps p s a.left x.written b.left into r old new _ _ (λ e. cc) (rw c.as_slice.ensures.value at c.in-Err-answer_packet.ensures.kept);
      used = uses_as a b x y _ _ (uses_read a b x y _ c.read_packet.ensures.used written room) (λ e. absurd (unanswered_never p s into out old.entries new.entries t end answers cc));
      beside = g.met.L.Link.reading_keeps_beside c.read_packet.new.from c.args.link.now c.read_packet.ensures.used.kept;
      never = never_as a x (MaySendFor (server_side p) 1 s) _ _ (reads_never a b x (MaySendFor (server_side p) 1 s) _ c.read_packet.ensures.used) (λ e. absurd (unanswered_never p s into out old.entries new.entries t end answers cc));
    }

pub returns-in-Ok-write_all : goal.returns-in-Ok-write_all
returns-in-Ok-write_all g c =
    let from = g.L.Source in
    let to = g.L.Sink in
    let keeper = g.K.Keeper.state in
    let p = c.args.profile.now in
    let s = c.args.store.now.server in
    let a = from.state c.args.link.now in
    let b = from.state c.read_packet.new.from in
    let d = from.state c.write_all.new.to in
    let x = to.state c.args.link.now in
    let y = to.state c.read_packet.new.from in
    let z = to.state c.write_all.new.to in
    let old = keeper c.args.store.now.keeper in
    let new = keeper c.answer_packet.new.store.keeper in
    let into = c.read_packet.new.into in
    let written = g.met.L.Link.reading_keeps_written c.args.link.now c.read_packet.new.from (sym c.read_packet.ensures.used.kept) in
    let room = g.met.L.Link.reading_keeps_room c.args.link.now c.read_packet.new.from (sym c.read_packet.ensures.used.kept) in
    let left = g.met.L.Link.writing_keeps_left c.read_packet.new.from c.write_all.new.to (sym c.write_all.ensures.used.kept) in
    let r = λ (m : Numbered) (means : MeansCall p m into). message (MeansCall p) (WireRefused p calls) a.left b.left into m (rw c.in-Ok-true.field-0-test at c.in-Ok-true.ensures.bytes) (rw c.in-Ok-true.field-0-test at c.in-Ok-true.ensures.into) means in
    let answers = rw c.as_slice.ensures.value at c.in-Ok.ensures.answers in
    let turn = answers.0 in
    let one : IsOne b y = record { faults = g.met.L.Link.one_count c.read_packet.new.from; sound = g.met.L.Link.one_truth c.read_packet.new.from } in
    let after : IsOne d z = record { faults = g.met.L.Link.one_count c.write_all.new.to; sound = g.met.L.Link.one_truth c.write_all.new.to } in
    record {
      stores = next_done p s turn.message a.left x.written b.left y.written (r turn.message turn.means) written old.entries new.entries c.answer_packet.new.store.server turn.ends answers.1 c.answer_packet.new.out d.left z.written turn.sent left
          (rw c.as_slice-2.ensures.value at c.in-Ok-write_all.ensures.bytes);
      kept = answered_keeps p s a.left x.written b.left into r old new _ _ (λ e. absurd cc) (rw c.as_slice.ensures.value at c.in-Ok.ensures.kept);
      used = uses_as a d x z (IsErr c.write_all.result) _ (uses_then a b d x y z _ (IsErr c.write_all.result) (uses_read a b x y _ c.read_packet.ensures.used written room) (uses_write b d y z _ (IsErr c.write_all.result) c.write_all.ensures.used one after left)) (λ e. absurd cc);
      beside = g.met.L.Link.writing_keeps_beside c.write_all.new.to c.read_packet.new.from c.write_all.ensures.used.kept ∙ g.met.L.Link.reading_keeps_beside c.read_packet.new.from c.args.link.now c.read_packet.ensures.used.kept;
      never = λ bytes before told also sound fits failed. absurd cc;
    }

pub returns-in-Err-write_all : goal.returns-in-Err-write_all
returns-in-Err-write_all g c =
    let from = g.L.Source in
    let to = g.L.Sink in
    let keeper = g.K.Keeper.state in
    let p = c.args.profile.now in
    let s = c.args.store.now.server in
    let t = c.answer_packet.new.store.server in
    let a = from.state c.args.link.now in
    let b = from.state c.read_packet.new.from in
    let d = from.state c.write_all.new.to in
    let x = to.state c.args.link.now in
    let y = to.state c.read_packet.new.from in
    let z = to.state c.write_all.new.to in
    let old = keeper c.args.store.now.keeper in
    let new = keeper c.answer_packet.new.store.keeper in
    let into = c.read_packet.new.into in
    let out = c.answer_packet.new.out in
    let failed = IsErr c.write_all.result in
    let written = g.met.L.Link.reading_keeps_written c.args.link.now c.read_packet.new.from (sym c.read_packet.ensures.used.kept) in
    let room = g.met.L.Link.reading_keeps_room c.args.link.now c.read_packet.new.from (sym c.read_packet.ensures.used.kept) in
    let left = g.met.L.Link.writing_keeps_left c.read_packet.new.from c.write_all.new.to (sym c.write_all.ensures.used.kept) in
    let uses = uses_read a b x y _ c.read_packet.ensures.used written room in
    let r = λ (m : Numbered) (means : MeansCall p m into). message (MeansCall p) (WireRefused p calls) a.left b.left into m (rw c.in-Ok-true.field-0-test at c.in-Ok-true.ensures.bytes) (rw c.in-Ok-true.field-0-test at c.in-Ok-true.ensures.into) means in
    let answers = rw c.as_slice.ensures.value at c.in-Ok.ensures.answers in
    let turn = answers.0 in
    let one : IsOne b y = record { faults = g.met.L.Link.one_count c.read_packet.new.from; sound = g.met.L.Link.one_truth c.read_packet.new.from } in
    let after : IsOne d z = record { faults = g.met.L.Link.one_count c.write_all.new.to; sound = g.met.L.Link.one_truth c.write_all.new.to } in
    let wrote = subst (λ (l : List ℕ). Wrote y z (length l) failed) c.as_slice-2.ensures.value c.write_all.ensures.used in
    record {
      stores = next_cut p s turn.message a.left x.written b.left y.written (r turn.message turn.means) written old.entries new.entries t turn.ends answers.1 out d.left z.written turn.sent (rw c.as_slice-2.ensures.value at c.in-Err-write_all.ensures.bytes);
      kept = answered_keeps p s a.left x.written b.left into r old new _ _ (λ e. absurd cc) (rw c.as_slice.ensures.value at c.in-Ok.ensures.kept);
      used = uses_as a d x z failed _ (uses_then a b d x y z _ failed uses (uses_write b d y z _ failed c.write_all.ensures.used one after left)) (λ e. rw c.in-Err-write_all.is refl);
      beside = g.met.L.Link.writing_keeps_beside c.write_all.new.to c.read_packet.new.from c.write_all.ensures.used.kept ∙ g.met.L.Link.reading_keeps_beside c.read_packet.new.from c.args.link.now c.read_packet.ensures.used.kept;
      never = never_as a x (MaySendFor (server_side p) 1 s) failed _ (step_never (server_side p) (WireRefused p calls) s t turn.message out tt a b x y z _ failed (r turn.message turn.means) uses written turn.sent turn.ends one wrote) (λ e. rw c.in-Err-write_all.is refl);
    }
