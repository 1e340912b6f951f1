-- A push whose updates lie in their boxes and whose settings are a stretch of the server's list. This project's own.
use Rattle.std.specs.Prelude.{◌<◌, ◌≤◌, ◌-◌, ℕ, length}
use Rattle.box_events.specs.declared.updates.Push.{Push}
use Rattle.box_events.specs.declared.updates.Push.TheVariants.{TooLong, Container}
use Rattle.pts_machine.specs.Packs.{Pack, pack_of}
use Rattle.pts_machine.specs.Latest.{IsStretch}
use Rattle.box_server.specs.Servers.{ServerState}
use Rattle.box_server.specs.Growing.{AllLie}
use Rattle.box_client.specs.Pushes.{settings_in}
use Rattle.box_world.specs.Agreeing.{Boxes}

-- a pack is the stretch of the server's settings from start to end
pub record PackLies (s : ServerState) (start end : ℕ) (pack : Pack) : Type 0 where
  pub order : start < end
  pub within : end ≤ length s.settings
  pub stretch : IsStretch s.settings start end pack

abbrev pub PushLies : ServerState → Boxes → Push → Type 0
PushLies s boxes TooLong = Unit {0}
PushLies s boxes (Container updates date seq_start seq) = AllLie s boxes updates × (0 < seq → PackLies s (seq_start - 1) seq (pack_of date (settings_in updates)))
