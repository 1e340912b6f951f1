-- Messages whose numbers a client can take, as those are that the product spells and reads. This project's own.
use Rattle.std.specs.Prelude.{◌≡◌, ℕ, ◌+◌, ◌<◌, ◌≤◌, ◌^◌, List, [], ◌∷◌, length}
use Rattle.box_events.specs.Events.{count_of}
use Rattle.box_events.specs.declared.limits.TheConstants.{MAX_END}
use Rattle.box_events.specs.declared.updates.Update.{Update}
use Rattle.box_events.specs.declared.updates.Update.TheVariants.{Common, Secret, Channel, ChannelTooLong, Setting}
use Rattle.box_events.specs.declared.updates.Push.{Push}
use Rattle.box_events.specs.declared.updates.Push.TheVariants.{TooLong, Container}
use Rattle.box_events.specs.declared.replies.Reply.{Reply}
use Rattle.box_events.specs.declared.replies.Reply.TheVariants.{State, Empty, Difference, Channel as ChannelAnswer, Receipt, Error}
use Rattle.box_events.specs.declared.saved.Saved.{Saved}
use Rattle.box_events.specs.declared.saved.SavedChannel.{SavedChannel}
use Rattle.box_events.specs.Refusal.{AreOthers}
use Rattle.box_events.specs.DifferenceLaws.{AreCountedOthers}
use Rattle.channel_box.specs.Calls.{IsInRange}
use Rattle.box_client.specs.Pushes.{settings_in}

-- an update ends at a number of a box, and starts at one
abbrev pub IsUpdateInRange : Update → Type 0
IsUpdateInRange (Common event pts) = (count_of event ≤ pts) × (pts ≤ MAX_END)
IsUpdateInRange (Secret body qts) = (1 ≤ qts) × (qts ≤ MAX_END)
IsUpdateInRange (Channel id event pts) = (count_of event ≤ pts) × (pts ≤ MAX_END)
IsUpdateInRange (ChannelTooLong id) = Unit {0}
IsUpdateInRange (Setting setting) = Unit {0}

abbrev pub AreUpdatesInRange : List Update → Type 0
AreUpdatesInRange [] = Unit {0}
AreUpdatesInRange (u ∷ us) = IsUpdateInRange u × AreUpdatesInRange us

-- a container with a seq has as many settings as it says
pub record IsSeqInRange (seq_start seq count : ℕ) : Type 0 where
  pub low : 1 ≤ seq_start
  pub order : seq_start ≤ seq
  pub limit : seq ≤ MAX_END
  pub number : count + seq_start ≡ seq + 1

abbrev pub IsPushInRange : Push → Type 0
IsPushInRange TooLong = Unit {0}
IsPushInRange (Container updates date seq_start seq) = AreUpdatesInRange updates × (0 < seq → IsSeqInRange seq_start seq (length (settings_in updates)))

-- an answer's numbers are numbers of boxes, its other events are no messages and count, and its messages are fewer than 2^31
abbrev pub IsReplyInRange : Reply → Type 0
IsReplyInRange (State state) = Unit {0}
IsReplyInRange (Empty date seq) = Unit {0}
IsReplyInRange (Difference news secrets others settings state last) =
    (state.pts ≤ MAX_END) × (state.qts ≤ MAX_END) × (length news < 2 ^ 31) × (length secrets < 2 ^ 31) × AreOthers others × AreCountedOthers others
IsReplyInRange (ChannelAnswer reply) = IsInRange reply
IsReplyInRange (Receipt receipt) = Unit {0}
IsReplyInRange (Error code text) = Unit {0}

-- each saved lane ends at a number of a box
abbrev pub AreChannelsInRange : List SavedChannel → Type 0
AreChannelsInRange [] = Unit {0}
AreChannelsInRange (c ∷ cs) = (c.lane.at ≤ MAX_END) × AreChannelsInRange cs

pub record IsSavedInRange (s : Saved) : Type 0 where
  pub common : s.common.at ≤ MAX_END
  pub secret : s.secret.at ≤ MAX_END
  pub channels : AreChannelsInRange s.channels
