use Rattle.std.proofs.Common.{List, refl, ap, sym, subst, ◌∙◌, ◌≡◌, ◌++◌, length, map, Some}
use Rattle.box_events.specs.declared.positions.Receipt.{Receipt}
use Rattle.box_events.specs.declared.updates.Push.TheVariants.{Container}
use Rattle.box_server.specs.Servers.{ChannelBox, ServerState}
use Rattle.box_server.specs.Posting.{cut, receipt_of}
use Rattle.box_server.specs.Sound.{IsSound}
use Rattle.box_server.specs.declared.draft.Draft.{Draft}
use Rattle.box_server.specs.declared.server.Server.TheInside.{Inside}
use Rattle.box_server.specs.inner.Drafted.{Fits, joined, joined_channels}
use Rattle.box_server.specs.inner.Insides.{server_view}
use Rattle.box_server.specs.inner.Rooms.{numbers_of}
use Rattle.box_server.specs.inner.Taking.{with_draft}
use Rattle.box_server.proofs.Drafting.{seq_end}
use Rattle.box_server.proofs.Taken.{taken_view, receipt_is}
use Rattle.box_server.proofs.server.Server.take.Goals as goal

pub invariant_of-self-2 : goal.invariant_of-self-2
invariant_of-self-2 g c =
    let i = c.self.inside in
    let d : Draft = c.args.draft in
    let receipt : Receipt = record { pts = c.end.result; qts = c.end-2.result; date = d.date; seq = d.seq } in
    let new : Inside = record { date = i.date; common = c.append_all.new.to; secret = c.append_all-2.new.to; channels = c.grow.new.channels; settings = c.keep.new.settings; receipts = c.keep.new.receipts } in
    let fits : Fits (server_view i) d = subst (λ (s : ServerState). Fits s d) (sym c.self.view_is) c.requires.fits in
    let noted = c.in_ok-keep.ensures.noted in
    let view : server_view new ≡ with_draft (server_view i) c.args.entry.random_id d = taken_view i new d c.args.entry.random_id receipt fits refl
    (c.append_all.ensures.events ∙ (λ j. c.room_for.ensures.common.1 j ++ c.into_events.ensures.events j))
    (c.append_all-2.ensures.events ∙ (λ j. c.room_for.ensures.secret.1 j ++ c.into_events-2.ensures.events j))
    (c.grow.ensures ∙ ap (λ (l : List ChannelBox). map cut (joined_channels l d.channels.items)) c.room_for.ensures.channels)
    c.in_ok-keep.ensures.appended noted (receipt_is (server_view i) d c.end.result c.end-2.result d.date d.seq fits c.end.ensures.value c.end-2.ensures.value refl refl) in
    record {
      sound = subst IsSound (sym (view ∙ ap (λ (s : ServerState). with_draft s c.args.entry.random_id d) c.self.view_is)) c.requires.sound;
      common = c.append_all.ensures.first ∙ c.room_for.ensures.common.0 ∙ c.self.invariant.common;
      secret = c.append_all-2.ensures.first ∙ c.room_for.ensures.secret.0 ∙ c.self.invariant.secret;
      order = c.keep.ensures.order;
    }

pub returns-clause-takes : goal.returns-clause-takes
returns-clause-takes g c =
    let i = c.self.inside in
    let d : Draft = c.args.draft in
    let receipt : Receipt = record { pts = c.end.result; qts = c.end-2.result; date = d.date; seq = d.seq } in
    let new : Inside = record { date = i.date; common = c.append_all.new.to; secret = c.append_all-2.new.to; channels = c.grow.new.channels; settings = c.keep.new.settings; receipts = c.keep.new.receipts } in
    let fits : Fits (server_view i) d = subst (λ (s : ServerState). Fits s d) (sym c.self.view_is) c.requires.fits in
    let noted = c.in_ok-keep.ensures.noted in
    let view : server_view new ≡ with_draft (server_view i) c.args.entry.random_id d = taken_view i new d c.args.entry.random_id receipt fits refl
    (c.append_all.ensures.events ∙ (λ j. c.room_for.ensures.common.1 j ++ c.into_events.ensures.events j))
    (c.append_all-2.ensures.events ∙ (λ j. c.room_for.ensures.secret.1 j ++ c.into_events-2.ensures.events j))
    (c.grow.ensures ∙ ap (λ (l : List ChannelBox). map cut (joined_channels l d.channels.items)) c.room_for.ensures.channels)
    c.in_ok-keep.ensures.appended noted (receipt_is (server_view i) d c.end.result c.end-2.result d.date d.seq fits c.end.ensures.value c.end-2.ensures.value refl refl) in
    let there : receipt ≡ receipt_of (joined c.args.self.now d) = receipt_is c.args.self.now d c.end.result c.end-2.result d.date d.seq c.requires.fits c.end.ensures.value c.end-2.ensures.value refl refl in
    let from : c.len.result ≡ length c.args.self.now.settings = c.len.ensures ∙ ap (λ (s : ServerState). length s.settings) c.self.view_is in
    let to : d.seq ≡ length (joined c.args.self.now d).settings = seq_end c.args.self.now d c.requires.fits in
    let n = c.numbers-first.ensures ∙ (λ j. numbers_of (from j) (to j)) in (
      view ∙ ap (λ (s : ServerState). with_draft s c.args.entry.random_id d) c.self.view_is,
      (λ j. record { receipt = there j; push = Some (Container d.updates (c.requires.fits.date j) (n j).0 (n j).1) }),
    )
