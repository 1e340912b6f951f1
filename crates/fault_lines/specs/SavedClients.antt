-- The lines of saved clients that aren't loaded. Out of memory has none. This project's own.
use Rattle.std.specs.Prelude.{ℕ, List, ◌++◌, Option, Some, None, codes, decimal}
use Rattle.std.specs.Fmt.{signed_decimal}
use Rattle.outside.specs.Answer.{placed_line, unplaced_line}
use Rattle.box_events.specs.declared.positions.LaneName.{LaneName}
use Rattle.box_events.specs.declared.positions.LaneName.TheVariants as lanes
use Rattle.box_client.specs.declared.fault.LoadFault.{LoadFault}
use Rattle.box_client.specs.declared.fault.LoadFault.TheVariants as load

-- a lane by its name, a channel's by its id
abbrev pub lane_words : LaneName → List ℕ
lane_words lanes.Common = codes "common"
lane_words lanes.Secret = codes "secret"
lane_words (lanes.Channel id) = codes "channel " ++ signed_decimal id
lane_words lanes.Seq = codes "seq"

-- a setting and a channel are told by their index
abbrev pub load_line : LoadFault → Option (List ℕ)
load_line (load.BadNext next) = Some (unplaced_line (codes "state") (codes "BadNext " ++ decimal next))
load_line (load.BadLane lane) = Some (unplaced_line (codes "state") (codes "BadLane " ++ lane_words lane))
load_line (load.BadSettings place) = Some (placed_line (codes "state") place (codes "BadSettings"))
load_line (load.BadChannels place) = Some (placed_line (codes "state") place (codes "BadChannels"))
load_line load.Memory = None
