use Rattle.std.proofs.Common.{◌∙◌}
use Rattle.box_client.proofs.Savings.{settings_are}
use Rattle.box_client.specs.Views.{client_of}
use Rattle.box_client.proofs.Restarts.{restarts}
use Rattle.box_client.proofs.saving.save.Goals as goal

pub returns-clause-value : goal.returns-clause-value
returns-clause-value c =
    let settings = c.in_ok-copy_settings.ensures ∙ settings_are c.args.parts.now.settings.state.table c.all.result.now c.all.ensures.rows in
    λ i. record {
      next = c.args.parts.now.next;
      common = c.in_ok-save_lane.ensures.value i;
      secret = c.in_ok-save_lane-2.ensures.value i;
      date = c.date.ensures i;
      seq = c.at.ensures.value i;
      settings = settings i;
      channels = c.in_ok-save_channels.ensures.value i;
    }

pub returns-clause-loads : goal.returns-clause-loads
returns-clause-loads c = λ low. restarts (client_of c.args.parts.now) _ (record {
  is = returns-clause-value c;
  common = c.in_ok-save_lane.ensures.even;
  secret = c.in_ok-save_lane-2.ensures.even;
  even = c.in_ok-save_channels.ensures.even;
  ids = c.in_ok-save_channels.ensures.ids;
}) c.requires.next c.requires.messages.events low
