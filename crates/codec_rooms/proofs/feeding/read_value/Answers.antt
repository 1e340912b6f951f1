use Rattle.std.proofs.Common.{Ok, Err}
use Rattle.std.proofs.lemmas.Result.{err_from_is_err_and}
use Rattle.codec_rooms.proofs.InputTaken.{fault_read, made_reads, value_read}
use Rattle.codec_rooms.proofs.feeding.read_value.Goals as goal

pub returns-in_err-feed_input : goal.returns-in_err-feed_input
returns-in_err-feed_input g c =
    let made = c.new-decoder in
    let p = err_from_is_err_and c.from_residual.result c.from_residual.ensures.1 in
    let e = c.in_err-feed_input.field-0.0 in
    rw (p.1, p.2) (made_reads c.args.plan.now made.ensures.sound made.result c.feed_input.new.decoder made.ensures.plan made.ensures.root _ _ (Err e) (Err e) (λ schema T h. fault_read schema T _ _ c.feed_input.new.decoder e h) c.in_err-feed_input.ensures.reads)

pub returns : goal.returns
returns g c =
    let made = c.new-decoder in
    made_reads c.args.plan.now made.ensures.sound made.result c.feed_input.new.decoder made.ensures.plan made.ensures.root _ _ (Ok _) (Ok c.into_value.result)
    (λ schema T h. value_read schema T _ _ c.feed_input.new.decoder c.into_value.result c.into_value.ensures.value h) c.in_ok-feed_input.ensures.reads
