-- A client that agrees with a server: what it has is what lies in the server's boxes, each event once.
-- From "Working with Updates" (core.telegram.org/api/updates): what a client is to have of a box at its pts, and of the settings at its seq.
use Rattle.std.specs.Prelude.{◌≡◌, ◌≤◌, ℤ, List, [], ◌∷◌, ◌++◌, length, Bool, true, false}
use Rattle.box_events.specs.Events.{EventView}
use Rattle.box_events.specs.Boxes.{ending}
use Rattle.box_events.specs.declared.replies.Reply.{Reply}
use Rattle.box_events.specs.declared.replies.Reply.TheVariants.{State, Empty, Difference, Channel, Receipt, Error}
use Rattle.pts_machine.specs.Fitting.{Fits}
use Rattle.pts_machine.specs.Agreeing.{SettingsAgree}
use Rattle.box_events.specs.declared.replies.ChannelReply.{ChannelReply}
use Rattle.box_events.specs.declared.replies.ChannelReply.TheVariants.{Empty as EmptyPart, Part, TooLong}
use Rattle.channel_box.specs.States.{ChannelState}
use Rattle.box_server.specs.Servers.{ServerState}
use Rattle.box_server.specs.Runs.{recent_of}
use Rattle.box_client.specs.States.{ClientState, HasOneMode}
use Rattle.box_world.specs.WholeBoxes.{kept_of}

-- each of them is so
abbrev pub Each : {A : Type 0} → (A → Type 0) → List A → Type 0
Each P [] = Unit {0}
Each P (x ∷ xs) = P x × Each P xs

-- the whole box of each channel
abbrev pub Boxes : Type 0
Boxes = ℤ → List EventView

-- a prefix of the box ends at the channel's restart, and its recent messages are the last of those that were kept of that prefix
pub record IsRecent (box : List EventView) (c : ChannelState) : Type 0 where
  pub prefix : List EventView
  pub rest : List EventView
  pub whole : box ≡ prefix ++ rest
  pub stop : ending prefix ≡ c.lane.restart
  pub content : c.recent ≡ recent_of (kept_of prefix)

pub record ChannelAgrees (box : List EventView) (c : ChannelState) : Type 0 where
  pub lane : Fits box c.lane
  pub recent : IsRecent box c

-- Each lane holds what lies in its box, a channel's in its whole box, and the settings are the latest of the server's at the client's seq.
pub record Agrees (s : ServerState) (boxes : Boxes) (c : ClientState) : Type 0 where
  pub common : Fits s.common c.common
  pub secret : Fits s.secret c.secret
  pub settings : SettingsAgree s.settings s.date c.settings
  pub one_mode : HasOneMode c
  pub channels : Each (λ d. ChannelAgrees (boxes d.id) d) c.channels

-- a client stands at or past where a server was
pub record IsPast (s : ServerState) (c : ClientState) : Type 0 where
  pub common : ending s.common ≤ c.common.at
  pub secret : ending s.secret ≤ c.secret.at
  pub settings : length s.settings ≤ c.settings.at

-- whether a reply is the last part of a difference, or tells that nothing is new
abbrev pub is_final : Reply → Bool
is_final (State state) = false
is_final (Empty date seq) = true
is_final (Difference news secrets others settings state last) = last
is_final (Channel reply) = false
is_final (Receipt receipt) = false
is_final (Error code text) = false

-- with a last part a client reaches where the server was that answered
abbrev pub Reaches : ServerState → Reply → ClientState → Type 0
Reaches m r c = is_final r ≡ true → IsPast m c

-- whether a reply is the last part of a channel's difference
abbrev pub is_last_part : ChannelReply → Bool
is_last_part (EmptyPart pts last) = last
is_last_part (Part pts news others last) = last
is_last_part (TooLong pts recent last) = last
