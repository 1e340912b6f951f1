use Rattle.std.proofs.Common.{refl, ap, subst, ◌∙◌, map}
use Rattle.box_server.specs.declared.draft.Draft.{Draft}
use Rattle.box_server.specs.Servers.{ChannelBox, ServerState}
use Rattle.box_server.specs.inner.Drafted.{IsBlank}
use Rattle.box_server.specs.inner.Insides.{channel_view, server_view}
use Rattle.box_server.specs.inner.Rooms.{blank_tail}
use Rattle.box_server.proofs.Taken.{blank_draft, box_end}
use Rattle.box_server.proofs.server.Server.blank_draft.Goals as goal

pub returns : goal.returns
returns c =
    let d : Draft = record { date = c.self.inside.date; common = c.new.result; secret = c.new-2.result; channels = c.in_ok-blank_tails.field-0; seq = c.len.result; settings = c.new-3.result; updates = c.new-4.result } in
    subst (λ (s : ServerState). IsBlank s d) c.self.view_is
    (blank_draft (server_view c.self.inside) d refl (ap (λ (t : ChannelBox). t.first) c.new.ensures ∙ c.end.ensures.value ∙ box_end c.self.inside.common c.self.invariant.common) (ap (λ (t : ChannelBox). t.events) c.new.ensures)
    (ap (λ (t : ChannelBox). t.first) c.new-2.ensures ∙ c.end-2.ensures.value ∙ box_end c.self.inside.secret c.self.invariant.secret) (ap (λ (t : ChannelBox). t.events) c.new-2.ensures)
    (c.in_ok-blank_tails.ensures ∙ ap (λ l. map blank_tail (map channel_view l)) c.deref.ensures.value) c.len.ensures c.self.invariant.sound.seq c.new-3.ensures.items c.new-4.ensures)
