use Rattle.std.proofs.Common.{Err, sym, ap, ◌∙◌, subst}
use Rattle.std.proofs.lemmas.Result.{err_from_is_err_and}
use Rattle.pts_machine.specs.Steps.{extend}
use Rattle.box_events.specs.Events.{count_of}
use Rattle.box_events.specs.Weaves.{woven_of}
use Rattle.channel_box.specs.States.{ChannelView}
use Rattle.channel_box.specs.Steps.{grown}
use Rattle.channel_box.specs.Calls.{Comes}
use Rattle.channel_box.specs.ChannelViews.{channel_view}
use Rattle.channel_box.proofs.Brought.{grown_err, grown_ok}
use Rattle.channel_box.proofs.channel.Channel.grow.Goals as goal

pub returns-in_err-events : goal.returns-in_err-events
returns-in_err-events c =
    let p = err_from_is_err_and c.from_residual.result c.from_residual.ensures.1 in
    let a = channel_view c.self.inside in
    record {
      step = rw (p.1, p.2) (subst (λ (v : ChannelView). Comes v.state (grown v.state c.args.last (woven_of v.state.lane.at c.args.to c.args.news c.args.others)) (Err c.in_err-events.field-0.0) (record a.state { lane = c.weave_onto.new.lane.state })) c.self.view_is
          (grown_err a.state c.args.to c.args.news c.args.others c.args.last c.in_err-events.field-0.0 _ c.in_err-events.ensures.refused (ap (λ t. record a.state { lane = t }) c.weave_onto.ensures.state)));
    }

pub returns : goal.returns
returns c =
    let a = channel_view c.self.inside in
    record {
      step = ap (λ (v : ChannelView). grown v.state c.args.last (woven_of v.state.lane.at c.args.to c.args.news c.args.others)) (sym c.self.view_is)
          ∙ grown_ok a.state c.args.to c.args.news c.args.others c.args.last c.in_ok-events.events.items c.extend.new.self.state c.in_ok-events.ensures.woven
          (c.extend.ensures.step ∙ ap (λ t. extend count_of t c.in_ok-events.events.items c.args.last) c.weave_onto.ensures.state);
    }
