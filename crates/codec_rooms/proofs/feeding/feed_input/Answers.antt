use Rattle.std.proofs.Common.{◌∙◌, [], arith, refl, subst, take, Ok}
use Rattle.std.proofs.lemmas.Result.{err_from_is_err_and}
use Rattle.tl_base.specs.declared.host.Slot.TheVariants.{Input}
use Rattle.tl_decode.specs.Decoders.{Feeds}
use Rattle.tl_decode.specs.declared.stack.Fed.{Fed}
use Rattle.outside.proofs.Piecewise.{read_grew}
use Rattle.codec_rooms.proofs.InputTaken as input
use Rattle.codec_rooms.proofs.feeding.feed_input.Goals as goal

pub returns-in_err-feed-clause-reads : goal.returns-in_err-feed-clause-reads
returns-in_err-feed-clause-reads g c = λ T is formed.
    let old = c.args.decoder.now in
    let p = err_from_is_err_and c.from_residual.result c.from_residual.ensures.1 in
    rw (p.1, p.2) (input.first_fault old c.feed.new.self c.requires.sound T is formed (g.H.Host.state c.args.host.now) c.in_err-feed.field-0.0 c.requires.first c.in_err-feed.ensures)

pub returns-in-Done-clause-reads : goal.returns-in-Done-clause-reads
returns-in-Done-clause-reads g c = λ T is formed.
    let old = c.args.decoder.now in
    input.first_done old c.feed.new.self c.requires.sound T is formed _ _ c.in-Done.used c.end_input.result c.requires.first
    (subst (λ (r : Fed). Feeds old c.feed.new.self [] (Ok r)) c.in-Done.is c.in_ok-feed.ensures) c.end_input.ensures

pub pieces-init : goal.pieces-init
pieces-init g c = record {
  plan = c.in_ok-feed.ensures.plan;
  root = c.in_ok-feed.ensures.root;
  width = refl;
  fed = λ T is formed. input.first_goes c.args.decoder.now c.feed.new.self c.requires.sound T is formed _ c.in_ok-feed.field-0 c.requires.first c.in_default.not-Done c.in_ok-feed.ensures;
}

pub returns-in_default-read-clause-reads : goal.returns-in_default-read-clause-reads
returns-in_default-read-clause-reads g c = λ T is formed.
    let i = c.pieces.invariant in
    input.read_failed_so c.args.decoder.now.plan.schema T _ _ _ c.pieces.decoder c.pieces.at (i.fed T is formed)
    (read_grew Input c.read.new.into _ _ _ (omega (arith, c.read.auto.into, i.width)) c.in_default-read.ensures.past)

pub returns-then-size-eq0-clause-reads : goal.returns-then-size-eq0-clause-reads
returns-then-size-eq0-clause-reads g c = λ T is formed.
    let i = c.pieces.invariant in
    input.ended_so c.args.decoder.now.plan.schema T _ _ _ c.pieces.decoder c.pieces.at c.ended.result (i.fed T is formed) c.ended.ensures.at
    (input.end_read _ _ c.in-Ok.size c.read.new.into c.if-size-eq0.true (read_grew Input c.read.new.into _ _ _ (omega (arith, c.read.auto.into, i.width)) c.in-Ok.ensures.past))

pub returns-in_err-feed_piece-clause-reads : goal.returns-in_err-feed_piece-clause-reads
returns-in_err-feed_piece-clause-reads g c = λ T is formed.
    let i = c.pieces.invariant in
    let old = c.args.decoder.now in
    let p = err_from_is_err_and c.from_residual-in_err-feed_piece.result c.from_residual-in_err-feed_piece.ensures.1 in
    rw (p.1, p.2)
    (input.piece_fault old.plan old.root c.requires.sound T is formed c.pieces.decoder i.plan i.root c.feed_piece.new.decoder _ _ _ c.pieces.at c.in-Ok.size c.read.new.into (i.fed T is formed) (omega (arith, c.read.auto.into, i.width)) (omega (arith, c.if-size-eq0.false)) c.in-Ok.ensures.bound.0 c.in-Ok.ensures.past c.in_err-feed_piece.ensures.bytes c.in_err-feed_piece.field-0.0 c.in_err-feed_piece.ensures.feeds)

pub pieces-preserved : goal.pieces-preserved
pieces-preserved g c =
    let i = c.pieces.invariant in
    let old = c.args.decoder.now in
    record {
      plan = c.in_ok-feed_piece.ensures.feeds.plan ∙ i.plan;
      root = c.in_ok-feed_piece.ensures.feeds.root ∙ i.root;
      width = omega (arith, c.read.auto.into, i.width);
      fed = λ T is formed.
          input.piece_more old.plan old.root c.requires.sound T is formed c.pieces.decoder i.plan i.root c.feed_piece.new.decoder _ _ _ c.pieces.at c.in-Ok.size c.read.new.into
          (i.fed T is formed) (omega (arith, c.read.auto.into, i.width)) (omega (arith, c.if-size-eq0.false)) c.in-Ok.ensures.bound.0 c.in-Ok.ensures.past c.in_ok-feed_piece.ensures.bytes
          c.saturating_add-at.result (subst (λ (r : Fed). Feeds c.pieces.decoder c.feed_piece.new.decoder (take c.in-Ok.size c.read.new.into) (Ok r)) c.in-More.is c.in_ok-feed_piece.ensures.feeds) c.saturating_add-at.ensures;
    }

pub returns-then-used-size-clause-reads : goal.returns-then-used-size-clause-reads
returns-then-used-size-clause-reads g c = λ T is formed.
    let i = c.pieces.invariant in
    let old = c.args.decoder.now in
    input.piece_longer old.plan old.root c.requires.sound T is formed c.pieces.decoder i.plan i.root c.feed_piece.new.decoder _ _ _ c.pieces.at c.in-Ok.size c.read.new.into (i.fed T is formed)
    (omega (arith, c.read.auto.into, i.width)) (omega (arith, c.if-size-eq0.false)) c.in-Ok.ensures.bound.0 c.in-Ok.ensures.past c.in_ok-feed_piece.ensures.bytes
    c.in-Done-2.used c.saturating_add-place.result (subst (λ (r : Fed). Feeds c.pieces.decoder c.feed_piece.new.decoder (take c.in-Ok.size c.read.new.into) (Ok r)) c.in-Done-2.is c.in_ok-feed_piece.ensures.feeds) c.saturating_add-place.ensures (omega (arith, c.if-used-size.true))

pub returns-in-Done-2-clause-reads : goal.returns-in-Done-2-clause-reads
returns-in-Done-2-clause-reads g c = λ T is formed.
    let i = c.pieces.invariant in
    let old = c.args.decoder.now in
    input.piece_value old.plan old.root c.requires.sound T is formed c.pieces.decoder i.plan i.root c.feed_piece.new.decoder _ _ _ c.pieces.at c.in-Ok.size c.read.new.into (i.fed T is formed)
    (omega (arith, c.read.auto.into, i.width)) (omega (arith, c.if-size-eq0.false)) c.in-Ok.ensures.bound.0 c.in-Ok.ensures.past c.in_ok-feed_piece.ensures.bytes
    c.in-Done-2.used c.saturating_add-place.result (subst (λ (r : Fed). Feeds c.pieces.decoder c.feed_piece.new.decoder (take c.in-Ok.size c.read.new.into) (Ok r)) c.in-Done-2.is c.in_ok-feed_piece.ensures.feeds) c.saturating_add-place.ensures _ c.end_input-in-Done-2.result (omega (arith, c.if-used-size.false)) c.end_input-in-Done-2.ensures
