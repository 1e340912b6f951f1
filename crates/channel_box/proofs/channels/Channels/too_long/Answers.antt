use Rattle.std.proofs.Common.{sym, ap, ◌∙◌, arith, subst, ℤ, List, ◌≤◌, ◌≡◌, None}
use Rattle.std.proofs.lemmas.Int.{to_z-of_z}
use Rattle.std.proofs.Common.{to_z, of_z, w64, set}
use Rattle.channel_box.specs.States.{ChannelState, ChannelView, states, has_id, first, spare_of}
use Rattle.channel_box.specs.Steps.{flagged, told_too_long}
use Rattle.channel_box.proofs.Ids.{ids_set}
use Rattle.channel_box.proofs.Indexes.{within, stepped, unmoved, stands_at, room_kept}
use Rattle.channel_box.proofs.Whole.{whole_of}
use Rattle.channel_box.proofs.channels.Channels.too_long.Goals as goal

pub index_mut-requires : goal.index_mut-requires
index_mut-requires c = omega (arith, within (has_id c.args.id) c.self.inside.channels.items c.in-Some.i (stands_at _ (has_id c.args.id) c.deref.result.now c.self.inside.channels.items c.in-Some.i (ap has_id (to_z-of_z w64 c.args.id c.ranges.id)) c.deref.ensures.value c.in-Some.ensures), c.self.inside.channels.ok.0)

pub invariant_of-self : goal.invariant_of-self
invariant_of-self c = whole_of c.self.inside _ c.self.invariant (ids_set c.self.inside.channels.items c.in-Some.i c.index_mut.result.now c.set_flag.new.self c.index_mut.ensures.value (ap (λ (z : ChannelState). z.id) c.set_flag.ensures.step))

pub returns-in-Some-clause-step : goal.returns-in-Some-clause-step
returns-in-Some-clause-step c =
    stepped (has_id c.args.id) flagged c.self.inside.channels.items c.in-Some.i c.index_mut.result.now c.set_flag.new.self (stands_at _ (has_id c.args.id) c.deref.result.now c.self.inside.channels.items c.in-Some.i (ap has_id (to_z-of_z w64 c.args.id c.ranges.id)) c.deref.ensures.value c.in-Some.ensures) c.index_mut.ensures.value c.set_flag.ensures.step
    ∙ ap (λ (vs : List ChannelView). told_too_long (states vs) c.args.id) c.self.view_is

pub returns-in_default-clause-step : goal.returns-in_default-clause-step
returns-in_default-clause-step c =
    unmoved (has_id c.args.id) flagged (states c.args.self.now) (subst (λ (z : ℤ). first (has_id z) (states c.args.self.now) ≡ None) (to_z-of_z w64 c.args.id c.ranges.id) (ap (λ (vs : List ChannelView). first (has_id (to_z w64 (of_z w64 c.args.id))) (states vs)) (sym (c.deref.ensures.value ∙ c.self.view_is)) ∙ c.in_default.ensures))

pub returns-in-Some-clause-spare : goal.returns-in-Some-clause-spare
returns-in-Some-clause-spare c = subst (λ (vs : List ChannelView). (id : ℤ) → spare_of vs id ≤ spare_of (set c.self.inside.channels.items c.in-Some.i c.set_flag.new.self) id) c.self.view_is
    (room_kept c.self.inside.channels.items c.in-Some.i c.index_mut.result.now c.set_flag.new.self c.index_mut.ensures.value (ap (λ (z : ChannelState). z.id) c.set_flag.ensures.step) c.set_flag.ensures.spare)
