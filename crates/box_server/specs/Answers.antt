-- What a server answers to requests for its state and for differences.
-- From "Working with Updates" (core.telegram.org/api/updates): updates.getState, updates.getDifference and updates.getChannelDifference. The
-- limits, the settings, and where a channel's difference is too long are this project's own.
use Rattle.std.specs.Prelude.{ℕ, ℤ, pos, negsuc, ◌+◌, ◌-◌, List, [], ◌∷◌, length, Bool, true, false, ◌&&◌, ◌||◌, eqb, ltb, Option, Some, None, codes}
use Rattle.box_events.specs.declared.limits.TheConstants.{MAX_BEHIND}
use Rattle.box_events.specs.declared.positions.State.{State}
use Rattle.box_events.specs.declared.requests.Request.{Request}
use Rattle.box_events.specs.declared.requests.Request.TheVariants.{State as StateRequest, Difference as DifferenceRequest, Channel as ChannelRequest, Post}
use Rattle.box_events.specs.declared.replies.ChannelReply.TheVariants.{Empty as EmptyPart, Part, TooLong}
use Rattle.box_events.specs.declared.replies.Reply.{Reply}
use Rattle.box_events.specs.declared.replies.Reply.TheVariants.{State as StateReply, Empty, Difference, Channel, Error}
use Rattle.box_events.specs.declared.settings.Setting.{Setting}
use Rattle.box_events.specs.Events.{EventView}
use Rattle.box_events.specs.Boxes.{ending}
use Rattle.box_events.specs.Weaving.{bodies, others_from}
use Rattle.box_server.specs.Servers.{ChannelBox, ServerState, channel_in, channel_end, state_of}
use Rattle.box_server.specs.LastEntries.{changed_since}
use Rattle.box_server.specs.Runs.{events_after, run_of, recent_of}

-- the position isn't one of the box
abbrev pub no_position : Reply
no_position = Error (pos 400) (codes "PERSISTENT_TIMESTAMP_INVALID")

-- whether what a difference carries of these ends where they end
abbrev pub is_whole : List EventView → Bool
is_whole es = eqb (ending (run_of es)) (ending es)

-- ---- the common group

-- where a client stands that takes these events from its positions
abbrev pub reached : ServerState → ℕ → ℕ → List EventView → List EventView → State
reached s pts qts news secrets = record { pts = pts + ending news; qts = qts + ending secrets; date = s.date; seq = length s.settings }

-- all that is new; nothing, where there are neither events nor settings
abbrev pub last_by : Bool → ServerState → ℕ → List EventView → List EventView → List Setting → Reply
last_by true s pts news secrets settings = Empty s.date (length s.settings)
last_by false s pts news secrets settings = Difference (bodies news) (bodies secrets) (others_from pts news) settings (state_of s) true

abbrev pub last_difference : ServerState → ℕ → List EventView → List EventView → List Setting → Reply
last_difference s pts news secrets settings = last_by (eqb (length news) 0 && eqb (length secrets) 0 && eqb (length settings) 0) s pts news secrets settings

-- a part of what is new, without settings
abbrev pub slice : ServerState → ℕ → ℕ → List EventView → List EventView → Reply
slice s pts qts news secrets = Difference (bodies news) (bodies secrets) (others_from pts news) [] (reached s pts qts news secrets) false

abbrev pub carried : Bool → ServerState → ℕ → ℕ → ℕ → List EventView → List EventView → Reply
carried true s pts qts date news secrets = last_difference s pts news secrets (changed_since s.settings date)
carried false s pts qts date news secrets = slice s pts qts news secrets

abbrev pub difference_by : ServerState → ℕ → ℕ → ℕ → Option (List EventView) → Option (List EventView) → Reply
difference_by s pts qts date None secrets = no_position
difference_by s pts qts date (Some es) None = no_position
difference_by s pts qts date (Some es) (Some fs) = carried (is_whole es && is_whole fs) s pts qts date (run_of es) (run_of fs)

abbrev pub difference_of : ServerState → ℤ → ℤ → ℕ → Reply
difference_of s (negsuc n) qts date = no_position
difference_of s (pos pts) (negsuc n) date = no_position
difference_of s (pos pts) (pos qts) date = difference_by s pts qts date (events_after s.common pts) (events_after s.secret qts)

-- ---- a channel

-- the kept events don't reach back to the position, or it is too far behind the end
abbrev pub is_far : ChannelBox → ℕ → Bool
is_far c pts = ltb pts c.first || ltb MAX_BEHIND (channel_end c - pts)

abbrev pub channel_part : ℕ → Option (List EventView) → Reply
channel_part pts None = no_position
channel_part pts (Some []) = Channel (EmptyPart pts true)
channel_part pts (Some (e ∷ es)) =
    let run = run_of (e ∷ es) in
    Channel (Part (pts + ending run) (bodies run) (others_from pts run) (is_whole (e ∷ es)))

-- past the end, too far behind, or neither
abbrev pub channel_by : Bool → Bool → ChannelBox → ℕ → Reply
channel_by true far c pts = no_position
channel_by false true c pts = Channel (TooLong (channel_end c) (recent_of c.events) true)
channel_by false false c pts = channel_part pts (events_after c.events (pts - c.first))

abbrev pub channel_difference : ChannelBox → ℤ → Reply
channel_difference c (negsuc n) = no_position
channel_difference c (pos pts) = channel_by (ltb (channel_end c) pts) (is_far c pts) c pts

-- ---- all requests; a server answers no post so

unfoldable pub answer : ServerState → Request → Reply
answer s StateRequest = StateReply (state_of s)
answer s (DifferenceRequest pts qts date) = difference_of s pts qts date
answer s (ChannelRequest id pts) = channel_difference (channel_in s.channels id) pts
answer s (Post random_id posts) = StateReply (state_of s)

-- the request isn't a post
abbrev pub IsAnswered : Request → Type 0
IsAnswered StateRequest = Unit {0}
IsAnswered (DifferenceRequest pts qts date) = Unit {0}
IsAnswered (ChannelRequest id pts) = Unit {0}
IsAnswered (Post random_id posts) = ⊥
