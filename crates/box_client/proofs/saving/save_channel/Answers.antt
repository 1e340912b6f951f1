use Rattle.std.proofs.Common.{ℤ, subst, to_z, of_z, w64}
use Rattle.std.proofs.lemmas.Int.{to_z-of_z}
use Rattle.channel_box.specs.States.{states, first, has_id}
use Rattle.box_client.specs.Saving.{IsSavedOf}
use Rattle.box_client.proofs.Savings.{channel_is_saved}
use Rattle.box_client.proofs.saving.save_channel.Goals as goal

pub returns-clause-value : goal.returns-clause-value
returns-clause-value c =
    subst (λ (z : ℤ). IsSavedOf (first (has_id z) (states c.args.channels.now)) (record { id = to_z w64 (of_z w64 c.args.id); lane = c.in_ok-lane-in-Some.lane; recent = c.in_ok-recent.recent })) (to_z-of_z w64 c.args.id c.ranges.id)
    (channel_is_saved (states c.args.channels.now) (to_z w64 (of_z w64 c.args.id)) _ c.in_ok-lane-in-Some.lane c.in_ok-recent.recent c.recent.result.now c.in-Some.ensures c.in_ok-lane-in-Some.ensures.value c.recent.ensures c.in_ok-recent.ensures)
