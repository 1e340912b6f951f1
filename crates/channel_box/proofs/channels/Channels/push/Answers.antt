use Rattle.std.proofs.Common.{sym, ap, ◌∙◌, arith, subst, ℤ, List, true, ◌<◌, ◌≤◌, ◌≡◌, None}
use Rattle.std.proofs.lemmas.Int.{to_z-of_z}
use Rattle.std.proofs.Common.{to_z, of_z, w64, set, ◌+◌}
use Rattle.pts_machine.specs.Steps.{hear}
use Rattle.channel_box.specs.States.{ChannelState, ChannelView, states, has_id, first, spare_of}
use Rattle.channel_box.specs.Steps.{heard, heard_by, is_watched}
use Rattle.channel_box.proofs.Ids.{ids_set}
use Rattle.channel_box.proofs.Indexes.{within, stepped, unmoved, stands_at, room_less, room_of_others, room_for_one}
use Rattle.channel_box.proofs.Whole.{whole_of}
use Rattle.channel_box.proofs.channels.Channels.push.Goals as goal

pub index_mut-requires : goal.index_mut-requires
index_mut-requires c = omega (arith, within (has_id c.args.id) c.self.inside.channels.items c.in-Some.i (stands_at _ (has_id c.args.id) c.deref.result.now c.self.inside.channels.items c.in-Some.i (ap has_id (to_z-of_z w64 c.args.id c.ranges.id)) c.deref.ensures.value c.in-Some.ensures), c.self.inside.channels.ok.0)

pub invariant_of-self : goal.invariant_of-self
invariant_of-self c = whole_of c.self.inside _ c.self.invariant (ids_set c.self.inside.channels.items c.in-Some.i c.index_mut.result.now c.hear.new.self c.index_mut.ensures.value (ap (λ (z : ChannelState). z.id) c.hear.ensures.step))

pub returns-in-Some-clause-step : goal.returns-in-Some-clause-step
returns-in-Some-clause-step c =
    stepped (has_id c.args.id) (λ z. heard_by z (hear z.lane c.args.start c.args.end c.args.event)) c.self.inside.channels.items c.in-Some.i c.index_mut.result.now c.hear.new.self (stands_at _ (has_id c.args.id) c.deref.result.now c.self.inside.channels.items c.in-Some.i (ap has_id (to_z-of_z w64 c.args.id c.ranges.id)) c.deref.ensures.value c.in-Some.ensures) c.index_mut.ensures.value c.hear.ensures.step
    ∙ ap (λ (vs : List ChannelView). heard (states vs) c.args.id c.args.start c.args.end c.args.event) c.self.view_is

pub returns-in_default-clause-step : goal.returns-in_default-clause-step
returns-in_default-clause-step c =
    unmoved (has_id c.args.id) (λ z. heard_by z (hear z.lane c.args.start c.args.end c.args.event)) (states c.args.self.now) (subst (λ (z : ℤ). first (has_id z) (states c.args.self.now) ≡ None) (to_z-of_z w64 c.args.id c.ranges.id) (ap (λ (vs : List ChannelView). first (has_id (to_z w64 (of_z w64 c.args.id))) (states vs)) (sym (c.deref.ensures.value ∙ c.self.view_is)) ∙ c.in_default.ensures))

pub hear-requires-clause-room : goal.hear-requires-clause-room
hear-requires-clause-room c = room_for_one c.self.inside.channels.items c.in-Some.i c.index_mut.result.now c.args.id (stands_at _ (has_id c.args.id) c.deref.result.now c.self.inside.channels.items c.in-Some.i (ap has_id (to_z-of_z w64 c.args.id c.ranges.id)) c.deref.ensures.value c.in-Some.ensures) c.index_mut.ensures.value
    (subst (λ (vs : List ChannelView). is_watched (states vs) c.args.id ≡ true → 0 < spare_of vs c.args.id) (sym c.self.view_is) c.requires.room)

pub returns-in-Some-clause-spare : goal.returns-in-Some-clause-spare
returns-in-Some-clause-spare c = subst (λ (vs : List ChannelView). spare_of vs c.args.id ≤ spare_of (set c.self.inside.channels.items c.in-Some.i c.hear.new.self) c.args.id + 1) c.self.view_is
    (room_less c.self.inside.channels.items c.in-Some.i c.index_mut.result.now c.hear.new.self c.args.id c.index_mut.ensures.value (ap (λ (z : ChannelState). z.id) c.hear.ensures.step) c.hear.ensures.spare)

pub returns-in-Some-clause-others : goal.returns-in-Some-clause-others
returns-in-Some-clause-others c = λ k other. subst (λ (vs : List ChannelView). spare_of vs k ≤ spare_of (set c.self.inside.channels.items c.in-Some.i c.hear.new.self) k) c.self.view_is
    (room_of_others c.self.inside.channels.items c.in-Some.i c.index_mut.result.now c.hear.new.self c.args.id k (stands_at _ (has_id c.args.id) c.deref.result.now c.self.inside.channels.items c.in-Some.i (ap has_id (to_z-of_z w64 c.args.id c.ranges.id)) c.deref.ensures.value c.in-Some.ensures) c.index_mut.ensures.value (ap (λ (z : ChannelState). z.id) c.hear.ensures.step) other)
