use Rattle.std.proofs.Common.{Err, Ok, rules, subst, sym}
use Rattle.tl_decode.specs.declared.stack.Fed.{Fed}
use Rattle.tl_decode.specs.Decoders.{Feeds}
use Rattle.tl_decode.specs.Wholes.{ReadsWhole}
use Rattle.tl_decode.specs.declared.whole.WholeFault.{WholeFault}
use Rattle.tl_decode.proofs.FedWhole.{one_fault, one_more, one_trailing, one_value}
use Rattle.tl_decode.proofs.whole_bytes.decode_bytes.Goals as goal

pub returns-in-Err-clause-whole : goal.returns-in-Err-clause-whole
returns-in-Err-clause-whole c = λ T is formed.
    let made = c.new-decoder in
    subst (λ (f : WholeFault). ReadsWhole c.args.plan.now.schema T c.args.bytes.now (Err f)) (sym c.bytes_fault.ensures)
    (one_fault c.args.plan.now c.args.root made.ensures.sound T is formed made.result c.feed.new.self made.ensures.plan made.ensures.root c.args.bytes.now (search rules) made.ensures.taken c.in-Err.fault c.in-Err.ensures)

pub returns-in-More-clause-whole : goal.returns-in-More-clause-whole
returns-in-More-clause-whole c = λ T is formed.
    let made = c.new-decoder in
    one_more c.args.plan.now c.args.root made.ensures.sound T is formed made.result c.feed.new.self made.ensures.plan made.ensures.root c.args.bytes.now (search rules) made.ensures.taken c.ended.result
    (subst (λ (r : Fed). Feeds made.result c.feed.new.self c.args.bytes.now (Ok r)) c.in-More.is c.in-Ok.ensures)
    c.ended.ensures.at

pub returns-then-used-bytes-clause-whole : goal.returns-then-used-bytes-clause-whole
returns-then-used-bytes-clause-whole c = λ T is formed.
    let made = c.new-decoder in
    one_trailing c.args.plan.now c.args.root made.ensures.sound T is formed made.result c.feed.new.self made.ensures.plan made.ensures.root c.args.bytes.now (search rules) made.ensures.taken c.in-Done.used c.saturating_add.result c.saturating_add.ensures
    (subst (λ (r : Fed). Feeds made.result c.feed.new.self c.args.bytes.now (Ok r)) c.in-Done.is c.in-Ok.ensures)
    (search rules)

pub returns-else-used-bytes-clause-whole : goal.returns-else-used-bytes-clause-whole
returns-else-used-bytes-clause-whole c = λ T is formed.
    let made = c.new-decoder in
    one_value c.args.plan.now c.args.root made.ensures.sound T is formed made.result c.feed.new.self made.ensures.plan made.ensures.root c.args.bytes.now (search rules) made.ensures.taken c.in-Done.used
    (subst (λ (r : Fed). Feeds made.result c.feed.new.self c.args.bytes.now (Ok r)) c.in-Done.is c.in-Ok.ensures)
    (search rules) c.into_value.result c.into_value.ensures.value
