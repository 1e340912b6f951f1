use Rattle.std.proofs.Common.{refl, arith, subst, List, ◌≡◌, Err}
use Rattle.std.proofs.lemmas.Result.{err_from_is_err_and}
use Rattle.std.proofs.Common.{Result, set}
use Rattle.channel_box.specs.States.{ChannelView, states}
use Rattle.channel_box.specs.Steps.{asks_number, replied, answered, taken}
use Rattle.box_events.specs.declared.difference_fault.WeaveFault.{WeaveFault}
use Rattle.tl_base.specs.declared.fault.Fault.{Fault}
use Rattle.channel_box.specs.Calls.{Comes, Replies}
use Rattle.channel_box.proofs.Ids.{ids_set}
use Rattle.channel_box.proofs.Indexes.{within, stands_at, replies_err, replies_ok, replied_id}
use Rattle.channel_box.proofs.Whole.{whole_of}
use Rattle.channel_box.proofs.channels.Channels.reply.Goals as goal

pub index_mut-requires : goal.index_mut-requires
index_mut-requires c = omega (arith, within (asks_number c.args.number) c.self.inside.channels.items c.in-Some.i (stands_at _ (asks_number c.args.number) c.deref.result.now c.self.inside.channels.items c.in-Some.i refl c.deref.ensures.value c.in-Some.ensures), c.self.inside.channels.ok.0)

pub invariant_of-self : goal.invariant_of-self
invariant_of-self c = whole_of c.self.inside _ c.self.invariant (ids_set c.self.inside.channels.items c.in-Some.i c.index_mut.result.now c.reply.new.self c.index_mut.ensures.value (replied_id c.index_mut.result.now.state c.args.reply c.reply.result c.reply.new.self.state c.reply.ensures.step))

pub returns-in_err-reply-in-Some : goal.returns-in_err-reply-in-Some
returns-in_err-reply-in-Some c =
    let p = err_from_is_err_and c.from_residual.result c.from_residual.ensures.1 in
    let r = subst (λ (o : Result (Unit {0}) (Fault WeaveFault)). Comes c.index_mut.result.now.state (replied c.index_mut.result.now.state c.args.reply) o c.reply.new.self.state) c.in_err-reply-in-Some.was c.reply.ensures.step in
    record {
      step = rw (p.1, p.2) (subst (λ (vs : List ChannelView). Replies vs c.args.number c.args.reply (Err c.in_err-reply-in-Some.field-0.0) (set c.self.inside.channels.items c.in-Some.i c.reply.new.self)) c.self.view_is
          (replies_err c.self.inside.channels.items c.args.number c.in-Some.i c.args.reply c.index_mut.result.now c.reply.new.self c.in_err-reply-in-Some.field-0.0
          (stands_at _ (asks_number c.args.number) c.deref.result.now c.self.inside.channels.items c.in-Some.i refl c.deref.ensures.value c.in-Some.ensures) c.index_mut.ensures.value r));
    }

pub invariant_of-self-in-Some : goal.invariant_of-self-in-Some
invariant_of-self-in-Some c =
    whole_of c.self.inside _ c.self.invariant (ids_set c.self.inside.channels.items c.in-Some.i c.index_mut.result.now c.reply.new.self c.index_mut.ensures.value (replied_id c.index_mut.result.now.state c.args.reply c.reply.result c.reply.new.self.state c.reply.ensures.step))

pub returns-in_ok-reply-in-Some : goal.returns-in_ok-reply-in-Some
returns-in_ok-reply-in-Some c = record {
  step = subst (λ (vs : List ChannelView). answered (states vs) c.args.number c.args.reply ≡ taken (states (set c.self.inside.channels.items c.in-Some.i c.reply.new.self))) c.self.view_is
      (replies_ok c.self.inside.channels.items c.args.number c.in-Some.i c.args.reply c.index_mut.result.now c.reply.new.self (stands_at _ (asks_number c.args.number) c.deref.result.now c.self.inside.channels.items c.in-Some.i refl c.deref.ensures.value c.in-Some.ensures) c.index_mut.ensures.value c.in_ok-reply-in-Some.ensures.step);
}
