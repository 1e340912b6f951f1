use Rattle.std.proofs.Common.{ℕ, ap, ◌∙◌, sym, subst, List, arith}
use Rattle.box_events.specs.declared.updates.Placed.{Placed}
use Rattle.box_events.specs.Weaving.{Woven}
use Rattle.box_events.specs.Refusal.{Refuses}
use Rattle.box_client.specs.declared.fault.ClientFault.TheVariants.{SeqBack}
use Rattle.box_client.specs.Replies.{refuses}
use Rattle.box_client.specs.Views.{client_of}
use Rattle.box_client.proofs.Brings.{news_refused, messages_refused, goes_back, brings_last, brings_part, part_done, last_done}
use Rattle.box_client.proofs.replying.take.Goals as goal

pub returns-in-Err : goal.returns-in-Err
returns-in-Err c = record {
  step = rw c.of_weave.ensures (news_refused (client_of c.args.parts.now) c.args.received c.in-Err.fault _ c.in-Err.ensures.refused
      (ap (λ t. record (client_of c.args.parts.now) { common = t }) c.weave_onto.ensures.state));
}

pub returns-in-Err-weave_onto : goal.returns-in-Err-weave_onto
returns-in-Err-weave_onto c = record {
  step = rw c.of_weave-in-Err-weave_onto.ensures (messages_refused (client_of c.args.parts.now) c.args.received c.in-Ok.events.items c.in-Err-weave_onto.fault _ c.in-Ok.ensures.woven
      (subst (λ (os : List Placed). Refuses c.args.parts.now.secret.state.at c.args.received.state.qts c.args.received.secrets os c.in-Err-weave_onto.fault) c.new-none.ensures c.in-Err-weave_onto.ensures.refused)
      (λ i. record (client_of c.args.parts.now) { common = c.weave_onto.ensures.state i; secret = c.weave_onto-2.ensures.state i }));
}

pub returns-then-not-last : goal.returns-then-not-last
returns-then-not-last c = record {
  step = brings_part (client_of c.args.parts.now) c.args.received c.in-Ok.events.items c.in-Ok-weave_onto.messages.items _ c.in-Ok.ensures.woven (subst (λ (os : List Placed). Woven c.args.parts.now.secret.state.at c.args.received.state.qts c.args.received.secrets os c.in-Ok-weave_onto.messages.items) c.new-none.ensures c.in-Ok-weave_onto.ensures.woven) c.if-not-last.true
      (part_done (client_of c.args.parts.now) c.args.received c.in-Ok.events.items c.in-Ok-weave_onto.messages.items c.extend.new.self.state c.extend-then-not-last.new.self.state c.weave_onto.new.lane.state c.weave_onto-2.new.lane.state c.again.new.self.state
      c.extend.ensures.step c.weave_onto.ensures.state c.extend-then-not-last.ensures.step c.weave_onto-2.ensures.state c.again.ensures.step);
}

pub returns-then-state-at : goal.returns-then-state-at
returns-then-state-at c = record {
  step = (
    goes_back (client_of c.args.parts.now) c.args.received c.in-Ok.events.items c.in-Ok-weave_onto.messages.items c.in-Ok.ensures.woven (subst (λ (os : List Placed). Woven c.args.parts.now.secret.state.at c.args.received.state.qts c.args.received.secrets os c.in-Ok-weave_onto.messages.items) c.new-none.ensures c.in-Ok-weave_onto.ensures.woven) c.if-not-last.false (omega (arith, c.if-state-at.true, c.at-at.ensures.value)) ∙ ap (λ (n : ℕ). refuses (SeqBack n c.args.received.state.seq)) (sym c.at-at.ensures.value),
    λ i. record (client_of c.args.parts.now) { common = c.weave_onto.ensures.state i; secret = c.weave_onto-2.ensures.state i },
  );
}

pub returns : goal.returns
returns c = record {
  step = brings_last (client_of c.args.parts.now) c.args.received c.in-Ok.events.items c.in-Ok-weave_onto.messages.items _ c.in-Ok.ensures.woven (subst (λ (os : List Placed). Woven c.args.parts.now.secret.state.at c.args.received.state.qts c.args.received.secrets os c.in-Ok-weave_onto.messages.items) c.new-none.ensures c.in-Ok-weave_onto.ensures.woven) c.if-not-last.false (omega (arith, c.if-state-at.false, c.at-at.ensures.value))
      (last_done (client_of c.args.parts.now) c.args.received c.in-Ok.events.items c.in-Ok-weave_onto.messages.items c.extend-2.new.self.state c.extend-3.new.self.state c.weave_onto.new.lane.state c.weave_onto-2.new.lane.state c.overlay_settings.new.settings.state
      c.extend-2.ensures.step c.weave_onto.ensures.state c.extend-3.ensures.step c.weave_onto-2.ensures.state c.in_ok-overlay_settings.ensures.ok);
}
