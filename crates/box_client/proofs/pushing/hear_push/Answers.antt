use Rattle.std.proofs.Common.{arith, ap, ◌∙◌, ◌++◌, List, length}
use Rattle.box_events.specs.declared.settings.Setting.{Setting}
use Rattle.box_client.specs.Pushes.{settings_in}
use Rattle.box_client.proofs.RoomSteps.{few_settings}
use Rattle.box_client.proofs.pushing.hear_push.Goals as goal

pub hear_pack-requires-clause-room : goal.hear_pack-requires-clause-room
hear_pack-requires-clause-room c = omega (
  arith,
  ap length (c.hear_all.ensures.pack ∙ ap (λ (l : List Setting). l ++ settings_in c.into_vec.result.items) c.in_ok-pack-in-Container.ensures.items),
  few_settings c.into_vec.result.items,
  ap length c.into_vec.ensures,
  ap length c.as_slice.ensures,
  c.in_ok-reserve-in-Container.ensures.ok.settings,
  ap (λ s. s.spare) c.hear_all.ensures.settings,
)
