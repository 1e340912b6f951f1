use Rattle.std.proofs.Common.{◌++◌, ◌∷◌, [], ℤ, List, refl, sym, ap, ◌∙◌, arith, w64, to_z, of_z, length}
use Rattle.std.proofs.lemmas.Int.{to_z-of_z}
use Rattle.channel_box.specs.States.{ChannelState, ChannelView, states}
use Rattle.channel_box.specs.Steps.{is_watched, channel_of}
use Rattle.channel_box.proofs.Ids.{states_last}
use Rattle.channel_box.proofs.Indexes.{watched_where}
use Rattle.channel_box.proofs.Whole.{whole_last}
use Rattle.channel_box.proofs.channels.Channels.add.Goals as goal

pub returns-then-is_some : goal.returns-then-is_some
returns-then-is_some c =
    let w = ap (λ (z : ℤ). is_watched (states c.args.self.now) z) (sym (to_z-of_z w64 c.args.id c.ranges.id)) ∙ ap (λ (vs : List ChannelView). is_watched (states vs) (to_z w64 (of_z w64 c.args.id))) (sym (c.deref.ensures.value ∙ c.self.view_is)) ∙ watched_where c.deref.result.now _ c.index_of.result c.index_of.ensures in
    record { step = (w ∙ sym c.is_some.ensures ∙ c.if-is_some.true, refl) }

pub invariant_of-self-2 : goal.invariant_of-self-2
invariant_of-self-2 c =
    let w = ap (λ (vs : List ChannelView). is_watched (states vs) (to_z w64 (of_z w64 c.args.id))) (sym c.deref.ensures.value) ∙ watched_where c.deref.result.now _ c.index_of.result c.index_of.ensures in
    whole_last c.self.inside (record { ids = c.push_reserved.new.self; channels = c.push_reserved-2.new.self }) c.new.result (to_z w64 (of_z w64 c.args.id)) c.self.invariant
    (c.push_reserved.ensures.items ∙ ap (λ (l : List ℤ). l ++ to_z w64 (of_z w64 c.args.id) ∷ []) c.reserve.ensures.items)
    (c.push_reserved-2.ensures.items ∙ ap (λ (l : List ChannelView). l ++ c.new.result ∷ []) c.reserve-2.ensures.items)
    (ap (λ (z : ChannelState). z.id) c.new.ensures.state)
    (w ∙ sym c.is_some.ensures ∙ c.if-is_some.false)
    (omega (arith, c.len.ensures, c.if-len-ge-MAX_CHANNELS.false, c.self.inside.channels.ok.0))

pub returns : goal.returns
returns c =
    let w = ap (λ (z : ℤ). is_watched (states c.args.self.now) z) (sym (to_z-of_z w64 c.args.id c.ranges.id)) ∙ ap (λ (vs : List ChannelView). is_watched (states vs) (to_z w64 (of_z w64 c.args.id))) (sym (c.deref.ensures.value ∙ c.self.view_is)) ∙ watched_where c.deref.result.now _ c.index_of.result c.index_of.ensures in
    let last = ap (λ (l : List ChannelView). l ++ c.new.result ∷ []) (c.reserve-2.ensures.items ∙ c.self.view_is) in
    record {
      step = (
        w ∙ sym c.is_some.ensures ∙ c.if-is_some.false,
        omega (arith, c.len.ensures, c.if-len-ge-MAX_CHANNELS.false, c.self.inside.channels.ok.0, ap length c.self.view_is),
        ap states (c.push_reserved-2.ensures.items ∙ last) ∙ states_last c.args.self.now c.new.result
            ∙ ap (λ (z : ChannelState). states c.args.self.now ++ z ∷ []) (c.new.ensures.state ∙ ap (λ (k : ℤ). channel_of k c.args.lane.state c.args.recent) (to_z-of_z w64 c.args.id c.ranges.id)),
      );
    }
