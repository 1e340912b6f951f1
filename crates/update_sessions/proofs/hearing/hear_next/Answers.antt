use Rattle.std.proofs.Common.{arith, refl, sym, ◌∙◌, subst, List, ℕ, length}
use Rattle.std.specs.Prelude.{IsErr}
use Rattle.std.proofs.lemmas.Result.{err_from_is_err_and}
use Rattle.tl_base.specs.Using.{Wrote}
use Rattle.box_wire.specs.Framing.{WireRefused}
use Rattle.box_wire.specs.Kinds.{frames}
use Rattle.update_sessions.specs.Exchanges.{MaySendFor}
use Rattle.update_sessions.specs.Faults.{fault_as}
use Rattle.update_sessions.specs.Hearing.{client_side}
use Rattle.update_sessions.proofs.LinkUses.{IsOne, uses_read}
use Rattle.update_sessions.proofs.ClientSteps.{next_none, next_ok, next_refused, next_kept_off, next_cut, next_done, sent, takes, after}
use Rattle.update_sessions.proofs.Stepping.{never_as, step_never}
use Rattle.update_sessions.proofs.hearing.hear_next.Goals as goal

pub returns-in_err-frame-clause-hears : goal.returns-in_err-frame-clause-hears
returns-in_err-frame-clause-hears g c =
    let from = g.L.Source in
    let to = g.L.Sink in
    let written = g.met.L.Link.reading_keeps_written c.args.link.now c.receive_frame.new.from (sym c.receive_frame.ensures.used.kept) in
    let q = err_from_is_err_and c.from_residual.result c.from_residual.ensures.1 in
    rw (q.1, q.2) (next_none c.args.profile.now c.args.client.now (from.state c.args.link.now).left (to.state c.args.link.now).written (from.state c.receive_frame.new.from).left (to.state c.receive_frame.new.from).written (fault_as c.in_err-frame.field-0.0)
    c.in_err-frame.ensures.receives written)

pub returns-in-Err-clause-hears : goal.returns-in-Err-clause-hears
returns-in-Err-clause-hears g c =
    let from = g.L.Source in
    let to = g.L.Sink in
    let r = rw c.in-Some.is at c.in_ok-frame.ensures.receives in
    let written = g.met.L.Link.reading_keeps_written c.args.link.now c.receive_frame.new.from (sym c.receive_frame.ensures.used.kept) in
    rw c.of_client.ensures (next_refused c.args.profile.now c.args.client.now c.hear_frame.new.client c.in-Some.frame c.in-Err.fault (from.state c.args.link.now).left (to.state c.args.link.now).written (from.state c.receive_frame.new.from).left
    (to.state c.receive_frame.new.from).written r written c.in-Err.ensures)

pub put_asks-requires : goal.put_asks-requires
put_asks-requires g c = let same = next_ok c.args.client.now c.hear_frame.new.client c.in-Some.frame c.in-Ok.ensures.1 in omega (arith, same, c.requires.next)

pub returns-in_err-put_asks-clause-hears : goal.returns-in_err-put_asks-clause-hears
returns-in_err-put_asks-clause-hears g c =
    let from = g.L.Source in
    let to = g.L.Sink in
    let r = rw c.in-Some.is at c.in_ok-frame.ensures.receives in
    let written = g.met.L.Link.reading_keeps_written c.args.link.now c.receive_frame.new.from (sym c.receive_frame.ensures.used.kept) in
    let q = err_from_is_err_and c.from_residual-in_err-put_asks.result c.from_residual-in_err-put_asks.ensures.1 in
    rw (q.1, q.2) (next_kept_off c.args.profile.now c.args.client.now c.hear_frame.new.client c.put_asks.new.client c.in-Some.frame c.put_asks.new.out c.requires.asking c.in-Ok.ensures c.put_asks.ensures.ticks
    (from.state c.args.link.now).left (to.state c.args.link.now).written (from.state c.receive_frame.new.from).left (to.state c.receive_frame.new.from).written r written)

pub returns-in_err-put_asks-clause-next : goal.returns-in_err-put_asks-clause-next
returns-in_err-put_asks-clause-next g c = let same = next_ok c.args.client.now c.hear_frame.new.client c.in-Some.frame c.in-Ok.ensures.1 in omega (arith, same, c.put_asks.ensures.next)

pub returns-in-Err-write_all-clause-next : goal.returns-in-Err-write_all-clause-next
returns-in-Err-write_all-clause-next g c = let same = next_ok c.args.client.now c.hear_frame.new.client c.in-Some.frame c.in-Ok.ensures.1 in omega (arith, same, c.put_asks.ensures.next)

pub returns-in-Ok-write_all-clause-next : goal.returns-in-Ok-write_all-clause-next
returns-in-Ok-write_all-clause-next g c = let same = next_ok c.args.client.now c.hear_frame.new.client c.in-Some.frame c.in-Ok.ensures.1 in omega (arith, same, c.put_asks.ensures.next)

pub returns-in-Err-write_all-clause-hears : goal.returns-in-Err-write_all-clause-hears
returns-in-Err-write_all-clause-hears g c =
    let from = g.L.Source in
    let to = g.L.Sink in
    let r = rw c.in-Some.is at c.in_ok-frame.ensures.receives in
    let written = g.met.L.Link.reading_keeps_written c.args.link.now c.receive_frame.new.from (sym c.receive_frame.ensures.used.kept) in
    next_cut c.args.profile.now c.args.client.now c.hear_frame.new.client c.put_asks.new.client c.in-Some.frame c.put_asks.new.out c.requires.asking c.in-Ok.ensures c.put_asks.ensures.ticks
    (from.state c.args.link.now).left (to.state c.args.link.now).written (from.state c.receive_frame.new.from).left (to.state c.receive_frame.new.from).written (from.state c.write_all.new.to).left (to.state c.write_all.new.to).written r written
    c.in_ok-put_asks.ensures.asks (rw c.as_slice.ensures.value at c.in-Err-write_all.ensures.bytes)

pub returns-in-Err-write_all-clause-beside : goal.returns-in-Err-write_all-clause-beside
returns-in-Err-write_all-clause-beside g c =
    g.met.L.Link.writing_keeps_beside c.write_all.new.to c.receive_frame.new.from c.write_all.ensures.used.kept ∙ g.met.L.Link.reading_keeps_beside c.receive_frame.new.from c.args.link.now c.receive_frame.ensures.used.kept

pub returns-in-Ok-write_all-clause-beside : goal.returns-in-Ok-write_all-clause-beside
returns-in-Ok-write_all-clause-beside g c =
    g.met.L.Link.writing_keeps_beside c.write_all.new.to c.receive_frame.new.from c.write_all.ensures.used.kept ∙ g.met.L.Link.reading_keeps_beside c.receive_frame.new.from c.args.link.now c.receive_frame.ensures.used.kept

pub returns-in-Ok-write_all-clause-hears : goal.returns-in-Ok-write_all-clause-hears
returns-in-Ok-write_all-clause-hears g c =
    let from = g.L.Source in
    let to = g.L.Sink in
    let r = rw c.in-Some.is at c.in_ok-frame.ensures.receives in
    let written = g.met.L.Link.reading_keeps_written c.args.link.now c.receive_frame.new.from (sym c.receive_frame.ensures.used.kept) in
    let left = g.met.L.Link.writing_keeps_left c.receive_frame.new.from c.write_all.new.to (sym c.write_all.ensures.used.kept) in
    next_done c.args.profile.now c.args.client.now c.hear_frame.new.client c.put_asks.new.client c.in-Some.frame c.put_asks.new.out c.requires.asking c.in-Ok.ensures c.put_asks.ensures.ticks
    (from.state c.args.link.now).left (to.state c.args.link.now).written (from.state c.receive_frame.new.from).left (to.state c.receive_frame.new.from).written (from.state c.write_all.new.to).left (to.state c.write_all.new.to).written r written
    c.in_ok-put_asks.ensures.asks left (rw c.as_slice.ensures.value at c.in-Ok-write_all.ensures.bytes)

pub returns-in-Err-write_all-clause-never : goal.returns-in-Err-write_all-clause-never
returns-in-Err-write_all-clause-never g c =
    let from = g.L.Source in
    let to = g.L.Sink in
    let p = c.args.profile.now in
    let a = from.state c.args.link.now in
    let b = from.state c.receive_frame.new.from in
    let x = to.state c.args.link.now in
    let y = to.state c.receive_frame.new.from in
    let k = c.args.client.now in
    let d = c.hear_frame.new.client in
    let e = c.put_asks.new.client in
    let f = c.in-Some.frame in
    let out = c.put_asks.new.out in
    let r = rw c.in-Some.is at c.in_ok-frame.ensures.receives in
    let written = g.met.L.Link.reading_keeps_written c.args.link.now c.receive_frame.new.from (sym c.receive_frame.ensures.used.kept) in
    let room = g.met.L.Link.reading_keeps_room c.args.link.now c.receive_frame.new.from (sym c.receive_frame.ensures.used.kept) in
    let uses = uses_read a b x y _ c.receive_frame.ensures.used written room in
    let one : IsOne b y = record { faults = g.met.L.Link.one_count c.receive_frame.new.from; sound = g.met.L.Link.one_truth c.receive_frame.new.from } in
    let wrote = subst (λ (l : List ℕ). Wrote y (to.state c.write_all.new.to) (length l) (IsErr c.write_all.result)) c.as_slice.ensures.value c.write_all.ensures.used in
    never_as a x (MaySendFor (client_side p) 1 k) (IsErr c.write_all.result) _
    (step_never (client_side p) (WireRefused p frames) k e f out (takes p k d e f out c.requires.asking c.in-Ok.ensures c.put_asks.ensures.ticks) a b x y (to.state c.write_all.new.to) _ (IsErr c.write_all.result) r uses written
    (sent p k d e f out c.requires.asking c.in-Ok.ensures c.put_asks.ensures.ticks c.in_ok-put_asks.ensures.asks) (after p k d e f out c.requires.asking c.in-Ok.ensures c.put_asks.ensures.ticks) one wrote)
    (λ e. rw c.in-Err-write_all.is refl)
