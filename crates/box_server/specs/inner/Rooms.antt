-- Channels with room for their tails. This project's own.
use Rattle.std.specs.Prelude.{◌≡◌, ℕ, ◌+◌, ◌<◌, ◌≤◌, List, [], ◌∷◌, ◌++◌, length, get_or, drop, eqb, if◌then◌else◌, map as each, Vec, vec_len, vec_capacity}
use Rattle.box_events.specs.BoxViews.{BoxView, end_of}
use Rattle.box_server.specs.declared.channel.Channel.{Channel}
use Rattle.box_server.specs.Posting.{cut}
use Rattle.box_server.specs.Servers.{ChannelBox, channel_end, empty_channel}
use Rattle.box_server.specs.inner.Insides.{channel_view}

-- a box with the events that it had
abbrev pub IsSameBox : BoxView → BoxView → Type 0
IsSameBox b c = (c.first ≡ b.first) × (c.events ≡ b.events)

-- the first n channels have room for their tails
abbrev pub HaveRoom : ℕ → List Channel → List ChannelBox → Type 0
HaveRoom n cs ts = (k : ℕ) (d : Channel) (h : ChannelBox) → k < n → length (get_or ts k h).events ≤ (get_or cs k d).events.spare

-- the first n channels end where their tails begin
abbrev pub HaveEnds : ℕ → List Channel → List ChannelBox → Type 0
HaveEnds n cs ts = (k : ℕ) (d : Channel) (h : ChannelBox) → k < n → end_of (get_or cs k d).events ≡ (get_or ts k h).first

-- the channel of a tail before anything came
abbrev pub emptied : ChannelBox → ChannelBox
emptied t = empty_channel t.id

-- each channel with its tail, of which the last 500 events are kept
abbrev pub grown : List ChannelBox → List ChannelBox → List ChannelBox
grown [] ts = []
grown (c ∷ cs) [] = c ∷ cs
grown (c ∷ cs) (t ∷ ts) = cut (record c { events = c.events ++ t.events }) ∷ grown cs ts

-- a channel's tail, to which nothing comes yet
abbrev pub blank_tail : ChannelBox → ChannelBox
blank_tail c = record { id = c.id; first = channel_end c; events = [] }

-- channels have room for their tails, and the others are opened, with room too and places among the channels
pub record IsRoomy {A B : Type 0} (channels : Vec Channel A) (opened : Vec Channel B) (tails : List ChannelBox) : Type 0 where
  pub room : HaveRoom (length channels.items) channels.items tails
  pub empty : each channel_view opened.items ≡ each emptied (drop (length channels.items) tails)
  pub new_room : HaveRoom (length opened.items) opened.items (drop (length channels.items) tails)
  pub places : vec_len channels + vec_len opened ≤ vec_capacity channels

-- the numbers of the first and the last of settings past a seq; both are 0 where there is none
abbrev pub numbers_of : ℕ → ℕ → ℕ × ℕ
numbers_of from to = if eqb from to then (0, 0) else (from + 1, to)
