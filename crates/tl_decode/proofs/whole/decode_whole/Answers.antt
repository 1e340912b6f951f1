use Rattle.std.proofs.lemmas.Result.{err_from_is_err_and}
use Rattle.tl_decode.proofs.FedWhole.{made_fault, made_value}
use Rattle.tl_decode.proofs.whole.decode_whole.Goals as goal

pub returns-in_err-feed_all-clause-whole : goal.returns-in_err-feed_all-clause-whole
returns-in_err-feed_all-clause-whole g c =
    let made = c.new-decoder in
    let p = err_from_is_err_and c.from_residual.result c.from_residual.ensures.1 in
    rw (p.1, p.2) (made_fault c.args.plan.now c.args.root made.result made.ensures.plan made.ensures.root c.feed_all.new.decoder _ c.in_err-feed_all.field-0.0 c.in_err-feed_all.ensures.whole)

pub returns-clause-whole : goal.returns-clause-whole
returns-clause-whole g c =
    let made = c.new-decoder in
    made_value c.args.plan.now c.args.root made.result made.ensures.plan made.ensures.root c.feed_all.new.decoder _ c.into_value.result c.into_value.ensures.value c.in_ok-feed_all.ensures.whole
