-- The lines of a replay's report, but for the closing ones: numbers are decimal, bytes are hexadecimal, and each line ends with a line feed.
-- The texts are this project's own.
use Rattle.std.specs.Prelude.{ℕ, ℤ, List, [], ◌∷◌, ◌++◌, codes, decimal, Option, Some, None}
use Rattle.std.specs.Fmt.{signed_decimal}
use Rattle.hex.specs.Hex.{encode_lower}
use Rattle.box_events.specs.declared.positions.State.{State}
use Rattle.channel_box.specs.declared.fault.WatchFault.{WatchFault}
use Rattle.channel_box.specs.declared.fault.WatchFault.TheVariants.{Already, TooMany, Memory}
use Rattle.box_server.specs.declared.fault.PostFault.{PostFault}
use Rattle.box_server.specs.FaultNames.{name_of}
use Rattle.box_client.specs.Numbers.{ChannelNumbers, ClientNumbers}
use Rattle.report_lines.specs.declared.heard.HeardAs.{HeardAs}
use Rattle.report_lines.specs.declared.heard.HeardAs.TheVariants.{Push, Reply, Stale}

-- ---- positions

abbrev pub positions : ℕ → ℕ → ℕ → List ℕ
positions pts qts seq = codes "pts " ++ decimal pts ++ (codes " qts " ++ decimal qts) ++ (codes " seq " ++ decimal seq)

abbrev pub channel_position : ℤ → ℕ → List ℕ
channel_position id at = codes " ch " ++ signed_decimal id ++ (codes " at " ++ decimal at)

abbrev pub channel_positions : List ChannelNumbers → List ℕ
channel_positions [] = []
channel_positions (c ∷ cs) = channel_position c.id c.lane.at ++ channel_positions cs

-- a client's, and those of the channels that it watches, in order of watching
abbrev pub client_positions : ClientNumbers → List ℕ
client_positions c = positions c.common.at c.secret.at c.settings.at ++ channel_positions c.channels

-- ---- the line of a step: its number, and what came of it

abbrev pub step_head : ℕ → List ℕ
step_head k = codes "step " ++ decimal k ++ codes " "

abbrev pub step_line : ℕ → List ℕ → List ℕ
step_line k text = step_head k ++ text ++ codes "\n"

-- a server is here after a post, whose push is packet m
abbrev pub posted_text : State → ℕ → List ℕ
posted_text s m = codes "post " ++ positions s.pts s.qts s.seq ++ (codes " packet " ++ decimal m)

abbrev pub again_text : List ℕ
again_text = codes "post again"

abbrev pub refused_text : PostFault → List ℕ
refused_text fault = codes "post refused " ++ name_of fault

abbrev pub date_text : ℕ → List ℕ
date_text date = codes "date " ++ decimal date

abbrev pub served_text : ℕ → List ℕ
served_text m = codes "serve packet " ++ decimal m

abbrev pub heard_word : HeardAs → List ℕ
heard_word Push = codes " push "
heard_word Reply = codes " reply "
heard_word Stale = codes " stale "

-- client k is at these numbers now
abbrev pub heard_text : ℕ → HeardAs → ClientNumbers → List ℕ
heard_text k told c = codes "hear " ++ decimal k ++ heard_word told ++ client_positions c

abbrev pub ticked_text : ℕ → ℕ → List ℕ
ticked_text k asks = codes "tick " ++ decimal k ++ (codes " asks " ++ decimal asks)

abbrev pub woken_text : ℕ → List ℕ
woken_text k = codes "wake " ++ decimal k

abbrev pub watch_refusal : Option WatchFault → List ℕ
watch_refusal None = []
watch_refusal (Some Already) = codes " refused Already"
watch_refusal (Some TooMany) = codes " refused TooMany"
watch_refusal (Some Memory) = codes " refused Memory"

abbrev pub watched_text : ℕ → ℤ → Option WatchFault → List ℕ
watched_text k id refused = codes "watch " ++ decimal k ++ (codes " " ++ signed_decimal id) ++ watch_refusal refused

abbrev pub restarted_text : ℕ → ClientNumbers → List ℕ
restarted_text k c = codes "restart " ++ decimal k ++ codes " " ++ client_positions c

abbrev pub too_long_text : ℕ → List ℕ
too_long_text m = codes "toolong packet " ++ decimal m

abbrev pub channel_too_long_text : ℕ → List ℕ
channel_too_long_text m = codes "channeltoolong packet " ++ decimal m

-- ---- packets

abbrev pub packet_line : ℕ → List ℕ → List ℕ
packet_line m bytes = codes "packet " ++ decimal m ++ codes " " ++ encode_lower bytes ++ codes "\n"

-- ---- the summary of a made run, but for the server's line

abbrev pub made_line : ℕ → ℕ → ℕ → List ℕ
made_line steps packets bytes = codes "made " ++ decimal steps ++ (codes " steps " ++ decimal packets) ++ (codes " packets " ++ decimal bytes) ++ codes " bytes\n"

-- where client k is
abbrev pub standing_line : ℕ → ClientNumbers → List ℕ
standing_line k c = codes "client " ++ decimal k ++ codes " " ++ client_positions c ++ codes "\n"
