-- Requests for differences, as a client asks them. This project's own.
use Rattle.std.specs.Prelude.{◌≡◌, ◌≤◌, List, length, take, map}
use Rattle.box_events.specs.declared.limits.TheConstants.{MAX_ASKS}
use Rattle.box_events.specs.declared.requests.Numbered.{Numbered}
use Rattle.box_events.specs.declared.requests.Request.{Request}
use Rattle.box_events.specs.declared.requests.Request.TheVariants.{State, Difference, Channel, Post}
use Rattle.box_events.specs.declared.asks.Ask.{Ask}
use Rattle.box_events.specs.declared.asks.Ask.TheVariants.{Difference as DifferenceAsk, Channel as ChannelAsk}
use Rattle.box_events.specs.declared.asks.Asks.TheInside.{Inside}

-- the request is for a difference, of the common group or of a channel
abbrev pub IsAsk : Request → Type 0
IsAsk State = ⊥
IsAsk (Difference pts qts date) = Unit {0}
IsAsk (Channel id pts) = Unit {0}
IsAsk (Post id posts) = ⊥

-- what the fields of an ask say
abbrev pub request_of : Ask → Numbered
request_of (DifferenceAsk number pts qts date) = record { number = number; request = Difference pts qts date }
request_of (ChannelAsk number id pts) = record { number = number; request = Channel id pts }

abbrev pub asks_of : Inside → List Numbered
asks_of a = map request_of (take a.len a.slots)

-- so many slots are there
abbrev pub IsAskList : Inside → Type 0
IsAskList a = (a.len ≤ MAX_ASKS) × (length a.slots ≡ MAX_ASKS)
