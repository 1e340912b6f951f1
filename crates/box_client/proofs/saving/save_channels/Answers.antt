use Rattle.std.proofs.Common.{◌≡◌, ◌∙◌, sym, ap, subst, pos, get_or, to_z, of_z, w64, rules}
use Rattle.channel_box.specs.States.{states}
use Rattle.box_client.specs.Saving.{uneven_channel}
use Rattle.box_client.specs.Ranges.{AreChannelsInRange}
use Rattle.box_client.proofs.Savings.{watched_here, saved_next, all_saved}
use Rattle.box_client.proofs.Restarts.{even_last, range_last, ids_fit}
use Rattle.box_client.proofs.saving.save_channels.Goals as goal

pub save_channel-requires : goal.save_channel-requires
save_channel-requires c =
    let ids = c.ids-id-items.result.now in
    let same : to_z w64 (of_z w64 (get_or ids c.loop-id.id-index (pos 0))) ≡ get_or ids c.loop-id.id-index (pos 0) = (search rules) in
    record { watched = watched_here (states c.args.channels.now) ids c.loop-id.id-index (pos 0) _ c.ids-id-items.ensures.value c.ids-id-items.ensures.distinct c.loop-id-test.true same }

pub loop-id-preserved : goal.loop-id-preserved
loop-id-preserved c =
    let ids = c.ids-id-items.result.now in
    let same : to_z w64 (of_z w64 (get_or ids c.loop-id.id-index (pos 0))) ≡ get_or ids c.loop-id.id-index (pos 0) = (search rules) in (
      saved_next (states c.args.channels.now) ids c.loop-id.id-index (pos 0) _ c.in_ok-save_channel.field-0 c.loop-id.saved.items c.push.new.self.items c.ids-id-items.ensures.value c.ids-id-items.ensures.distinct c.loop-id-test.true same
          c.in_ok-save_channel.ensures.value c.loop-id.invariant.0 c.in_ok-push.ensures.items,
      ap uneven_channel c.in_ok-push.ensures.items ∙ even_last c.loop-id.saved.items c.in_ok-save_channel.field-0 c.loop-id.invariant.1 c.in_ok-save_channel.ensures.even,
      subst AreChannelsInRange (sym c.in_ok-push.ensures.items) (range_last c.loop-id.saved.items c.in_ok-save_channel.field-0 c.loop-id.invariant.2 c.in_ok-save_channel.ensures.limit),
    )

pub returns-clause-value : goal.returns-clause-value
returns-clause-value c = c.from_vec.ensures ∙ all_saved (states c.args.channels.now) c.ids-id-items.result.now c.loop-id.id-index c.loop-id.saved.items c.ids-id-items.ensures.value c.loop-id-test.false c.loop-id.invariant.0

pub returns-clause-even : goal.returns-clause-even
returns-clause-even c = ap uneven_channel c.from_vec.ensures ∙ c.loop-id.invariant.1

pub returns-clause-limit : goal.returns-clause-limit
returns-clause-limit c = subst AreChannelsInRange (sym c.from_vec.ensures) c.loop-id.invariant.2

pub returns-clause-ids : goal.returns-clause-ids
returns-clause-ids c = ids_fit (states c.args.channels.now) c.ids-id-items.result.now c.from_vec.result c.ids-id-items.ensures.value c.ids-id-items.ensures.distinct c.ids-id-items.ensures.few (returns-clause-value c)
