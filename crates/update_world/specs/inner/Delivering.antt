-- What a client hears of a server's frames. This project's own.
use Rattle.std.specs.Prelude.{◌≡◌, cond}
use Rattle.box_events.specs.declared.replies.Frame.{Frame}
use Rattle.box_events.specs.declared.replies.Frame.TheVariants.{Push, Reply}
use Rattle.box_client.specs.States.{ClientState}
use Rattle.box_client.specs.Pushes.{pushed}
use Rattle.box_client.specs.Replies.{refuses, replied}
use Rattle.box_client.specs.declared.fault.ClientFault.{ClientFault}
use Rattle.box_world.specs.Worlds.{after_reply}
use Rattle.report_lines.specs.declared.heard.HeardAs.{HeardAs}
use Rattle.report_lines.specs.declared.heard.HeardAs.TheVariants as heard
use Rattle.update_world.specs.Outcomes.{asks_it}

-- it refuses nothing of the frame
abbrev pub IsTaken : ClientState → Frame → Type 0
IsTaken c (Push p) = Unit {0}
IsTaken c (Reply n r) = (cause : ClientFault) → replied c n r ≡ refuses cause → ⊥

abbrev pub after_frame : ClientState → Frame → ClientState
after_frame c (Push p) = pushed c p
after_frame c (Reply n r) = after_reply c (replied c n r)

abbrev pub frame_as : ClientState → Frame → HeardAs
frame_as c (Push p) = heard.Push
frame_as c (Reply n r) = cond (asks_it n c) heard.Reply heard.Stale
