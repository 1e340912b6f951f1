use Rattle.std.proofs.Common.{◌≡◌, ℕ, List, map, pos, get_or, to_z, of_z, w64, refl, rules}
use Rattle.channel_box.specs.States.{ChannelState, states}
use Rattle.box_client.specs.Numbers.{channel_numbers}
use Rattle.report_lines.specs.Texts.{channel_positions}
use Rattle.report_lines.specs.Watched.{position_of}
use Rattle.report_lines.proofs.Lookups.{put_next, put_all}
use Rattle.report_lines.proofs.positions.put_channels.Goals as goal

all : List ChannelState → List ℕ
all cs = channel_positions (map channel_numbers cs)

pub loop-id-preserved : goal.loop-id-preserved
unfolding all
loop-id-preserved c =
    let ids = c.ids-id-items.result.now in
    let same : to_z w64 (of_z w64 (get_or ids c.loop-id.id-index (pos 0))) ≡ get_or ids c.loop-id.id-index (pos 0) = (search rules) in
    put_next all position_of (λ d ds. refl) (states c.args.channels.now) ids c.loop-id.id-index (pos 0) _ _ _ _ c.ids-id-items.ensures.value c.ids-id-items.ensures.distinct c.loop-id-test.true same c.loop-id.invariant c.in_ok-put_channel.ensures

pub returns : goal.returns
unfolding all
returns c = put_all all refl (states c.args.channels.now) c.ids-id-items.result.now c.loop-id.id-index _ _ c.ids-id-items.ensures.value c.loop-id-test.false c.loop-id.invariant
