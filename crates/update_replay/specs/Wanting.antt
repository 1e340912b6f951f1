-- Which packets are looked for, by whom they go to. This project's own.
use Rattle.std.specs.Prelude.{Bool, true, false, eqb, Some}
use Rattle.box_world.specs.Possible.{is_for, is_served}
use Rattle.box_world.specs.Worlds.{Packet}
use Rattle.update_world.specs.declared.sent.End.{End}
use Rattle.update_world.specs.declared.sent.End.TheVariants as end
use Rattle.update_replay.specs.declared.wanted.Receiver.{Receiver}
use Rattle.update_replay.specs.declared.wanted.Receiver.TheVariants as wanted

-- client k is looked for by what it hears, the server by what it answers
abbrev pub is_wanted : Receiver → Packet → Bool
is_wanted (wanted.Client k) p = is_for k (Some p)
is_wanted wanted.Server p = is_served (Some p)

-- the same by the packet's end
abbrev pub goes_to : Receiver → End → Bool
goes_to (wanted.Client k) end.Clients = true
goes_to (wanted.Client k) (end.Server j) = false
goes_to (wanted.Client k) (end.Client j) = eqb j k
goes_to wanted.Server end.Clients = false
goes_to wanted.Server (end.Server j) = true
goes_to wanted.Server (end.Client j) = false
