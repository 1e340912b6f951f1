use Rattle.std.proofs.Common.{◌≡◌, ◌∙◌, ◌≤◌, List, [], take, Err, inl, inr, ap, sym, subst, arith}
use Rattle.std.proofs.lemmas.List.Elements.{All-take}
use Rattle.std.proofs.lemmas.Result.{err_from_is_err_and}
use Rattle.box_events.specs.declared.limits.TheConstants.{MAX_FRAME_BYTES}
use Rattle.box_events.specs.declared.requests.Numbered.{Numbered}
use Rattle.box_world.specs.Sizes.{call_size}
use Rattle.box_world.specs.declared.fault.StepFault.{StepFault}
use Rattle.tl_base.specs.declared.fault.Fault.{Fault}
use Rattle.update_world.specs.declared.sent.SentPacket.{SentPacket}
use Rattle.update_world.specs.inner.Sending.{AreAsked}
use Rattle.update_world.proofs.Carried.{all_at, all_packets, asked_more, take_whole}
use Rattle.update_world.proofs.spelling.send_calls.Goals as goal

pub loop-i-init : goal.loop-i-init
loop-i-init c = (subst (λ (ss : List SentPacket). AreAsked c.args.profile.now c.args.client [] ss) (sym c.in_ok-more.ensures.items) tt, c.in_ok-more.ensures.len, omega (arith, c.in_ok-more.ensures.exact, c.len.ensures.value))

pub loop-i-preserved : goal.loop-i-preserved
loop-i-preserved c = (
  asked_more c.args.profile.now c.args.client c.args.asks.now c.loop-i.i c.get.result c.loop-i.more.items c.push_reserved.new.self.items c.in_ok-bytes.bytes c.loop-i.invariant.0 c.get.ensures.value c.in_ok-bytes.ensures c.push_reserved.ensures.items,
  omega (arith, c.push_reserved.ensures.len, c.loop-i.invariant.1),
  omega (arith, c.push_reserved.ensures.capacity, c.loop-i.invariant.2),
)

pub short_call-requires-clause-short : goal.short_call-requires-clause-short
short_call-requires-clause-short c = all_at (λ (n : Numbered). call_size n ≤ MAX_FRAME_BYTES) c.args.asks.now c.loop-i.i c.get.result c.requires.short c.get.ensures.value

pub send-requires-clause-sizes : goal.send-requires-clause-sizes
send-requires-clause-sizes c =
    all_packets c.args.profile.now c.requires.profile c.args.client (take c.loop-i.i c.args.asks.now) c.loop-i.more.items c.loop-i.invariant.0 (All-take (λ (n : Numbered). call_size n ≤ MAX_FRAME_BYTES) c.loop-i.i c.args.asks.now c.requires.short)

pub returns-in_err-bytes : goal.returns-in_err-bytes
returns-in_err-bytes c =
    let p = err_from_is_err_and c.from_residual-in_err-bytes.result c.from_residual-in_err-bytes.ensures.1 in
    inl (p.1 ∙ ap (λ (e : Fault StepFault). Err e) p.2)

pub returns : goal.returns
returns c =
    let whole : take c.loop-i.i c.args.asks.now ≡ c.args.asks.now = take_whole c.args.asks.now c.loop-i.i (omega (arith, c.loop-i-test.false, c.len-i-end.ensures.value)) in
    inr (c.loop-i.more.items, subst (λ (ns : List Numbered). AreAsked c.args.profile.now c.args.client ns c.loop-i.more.items) whole c.loop-i.invariant.0, c.send.ensures)
