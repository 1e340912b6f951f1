-- Frames that are their value's again, and frames whose parts have a spelling. This project's own.
use Rattle.std.specs.Prelude.{◌≡◌, ℕ, ◌+◌, ◌<◌, ◌^◌, List, [], length, false}
use Rattle.std.specs.List.{All}
use Rattle.box_events.specs.Events.{EventView, added, edited, deleted, read, is_new}
use Rattle.box_events.specs.Views.{HasCount}
use Rattle.box_events.specs.declared.settings.Setting as settings
use Rattle.box_events.specs.declared.updates.Placed as placed
use Rattle.box_events.specs.declared.updates.Update.{Update}
use Rattle.box_events.specs.declared.updates.Update.TheVariants.{Common, Secret, Channel, ChannelTooLong, Setting}
use Rattle.box_events.specs.declared.updates.Push.{Push}
use Rattle.box_events.specs.declared.updates.Push.TheVariants as push
use Rattle.box_events.specs.declared.positions.State as states
use Rattle.box_events.specs.declared.positions.Receipt as receipts
use Rattle.box_events.specs.declared.replies.ChannelReply.{ChannelReply}
use Rattle.box_events.specs.declared.replies.ChannelReply.TheVariants as channel
use Rattle.box_events.specs.declared.replies.Reply.{Reply}
use Rattle.box_events.specs.declared.replies.Reply.TheVariants as reply
use Rattle.box_events.specs.declared.replies.Frame.{Frame}
use Rattle.box_events.specs.declared.replies.Frame.TheVariants as frame
use Rattle.wire_forms.specs.IsOf.{IsInt, IsLong, IsText}

-- ---- their value's again

-- its event counts for 1 to 4,096 numbers
abbrev pub IsUpdate : Update → Type 0
IsUpdate (Common e pts) = HasCount e
IsUpdate (Channel id e pts) = HasCount e
IsUpdate u = Unit {0}

-- no message
abbrev pub IsOther : placed.Placed → Type 0
IsOther p = HasCount p.event × (is_new p.event ≡ false)

-- with seq 0 the start is 0
abbrev pub IsPush : Push → Type 0
IsPush push.TooLong = Unit {0}
IsPush (push.Container us date start seq) = All IsUpdate us × (seq ≡ 0 → start ≡ 0)

-- only the last difference has settings
abbrev pub IsReply : Reply → Type 0
IsReply (reply.Difference news secrets others settings state last) = All IsOther others × (last ≡ false → settings ≡ [])
IsReply (reply.Channel (channel.Part pts news others last)) = All IsOther others
IsReply r = Unit {0}

-- a frame
abbrev pub IsFrame : Frame → Type 0
IsFrame (frame.Push p) = IsPush p
IsFrame (frame.Reply n r) = IsReply r

-- ---- with a spelling

-- a number of 32 bits
abbrev pub IsWord : ℕ → Type 0
IsWord n = n < 2 ^ 32

-- a list that is short enough, of such elements
abbrev pub IsList : {A : Type 0} → (A → Type 0) → List A → Type 0
IsList P xs = (length xs < 2 ^ 31) × All P xs

-- an event
abbrev pub FitsEvent : EventView → Type 0
FitsEvent (added body) = IsText body
FitsEvent (edited body) = IsText body
FitsEvent (deleted ids) = IsList IsInt ids
FitsEvent (read id) = IsInt id

-- a setting
abbrev pub FitsSetting : settings.Setting → Type 0
FitsSetting s = IsText s.key × IsText s.value

-- an update
abbrev pub FitsUpdate : Update → Type 0
FitsUpdate (Common e pts) = FitsEvent e × IsWord pts
FitsUpdate (Secret body qts) = IsText body × IsWord qts
FitsUpdate (Channel id e pts) = IsLong id × FitsEvent e × IsWord pts
FitsUpdate (ChannelTooLong id) = IsLong id
FitsUpdate (Setting s) = FitsSetting s

-- an event of a difference
abbrev pub FitsPlaced : placed.Placed → Type 0
FitsPlaced p = FitsEvent p.event × IsWord p.pts

-- a push
abbrev pub FitsPush : Push → Type 0
FitsPush push.TooLong = Unit {0}
FitsPush (push.Container us date start seq) = IsList FitsUpdate us × IsWord date × IsWord start × IsWord seq

-- a state
abbrev pub FitsState : states.State → Type 0
FitsState s = IsWord s.pts × IsWord s.qts × IsWord s.date × IsWord s.seq

-- a receipt
abbrev pub FitsReceipt : receipts.Receipt → Type 0
FitsReceipt r = IsWord r.pts × IsWord r.qts × IsWord r.date × IsWord r.seq

-- what is answered about a channel
abbrev pub FitsChannelReply : ChannelReply → Type 0
FitsChannelReply (channel.Empty pts last) = IsWord pts
FitsChannelReply (channel.Part pts news others last) = IsWord pts × IsList IsText news × IsList FitsPlaced others
FitsChannelReply (channel.TooLong pts recent last) = IsWord pts × IsList IsText recent

-- a reply
abbrev pub FitsReply : Reply → Type 0
FitsReply (reply.State s) = FitsState s
FitsReply (reply.Empty date seq) = IsWord date × IsWord seq
FitsReply (reply.Difference news secrets others settings state last) =
    IsList IsText news × IsList IsText secrets × All FitsPlaced others × All FitsSetting settings × (length others + length settings < 2 ^ 31) × FitsState state
FitsReply (reply.Channel c) = FitsChannelReply c
FitsReply (reply.Receipt r) = FitsReceipt r
FitsReply (reply.Error code message) = IsInt code × IsText message

-- a frame
abbrev pub FitsFrame : Frame → Type 0
FitsFrame (frame.Push p) = FitsPush p
FitsFrame (frame.Reply n r) = IsWord n × FitsReply r
