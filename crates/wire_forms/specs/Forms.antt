-- The forms of the protocol: its constructors and functions, with their fields.
-- From "Working with Updates" (core.telegram.org/api/updates); layouts and numbers are this project's own.
use Rattle.std.specs.Prelude.{ℕ, List, [], ◌∷◌, map, codes, Bool, true, false, not, ◌&&◌, ◌||◌, ◌==◌, Option, Some, None, slice_get}
use Rattle.wire_forms.specs.declared.form.Cell.{Cell}
use Rattle.wire_forms.specs.declared.form.Cell.TheVariants.{Whole, Signed, Long, Body, Key, Ids, Bodies, Flags, Final, Many, One, Bare, ManyBare, Query}
use Rattle.wire_forms.specs.declared.form.Part.{Part}
use Rattle.wire_forms.specs.declared.form.Form.{Form}
use Rattle.wire_forms.specs.declared.numbers.TheConstants.{CHANNEL, CHANNEL_DIFFERENCE_TYPE, CHANNEL_TYPE, CLIENT_TYPE, DIFFERENCE_TYPE, EVENT_TYPE, FRAME_TYPE, GET_CHANNEL_DIFFERENCE, GET_DIFFERENCE, GET_STATE, LANE, LANE_TYPE, POST, POST_TYPE, RECEIPT, RECEIPT_TYPE, SETTING, SETTING_TYPE, STATE, STATE_TYPE, STEP_TYPE, UPDATES_TYPE, UPDATE_TYPE}

-- a field's name, and what stands in it
pub record PartView : Type 0 where
  pub name : List ℕ
  pub cell : Cell

-- a form's name, whether it is a function, the number of its type or of what it answers (none: what its query answers), and its fields
pub record FormView : Type 0 where
  pub name : List ℕ
  pub function : Bool
  pub result : Option ℕ
  pub parts : List PartView

-- the code's own
abbrev pub part_view : Part → PartView
part_view p = record { name = p.name.now; cell = p.cell }

abbrev pub form_view : Form → FormView
form_view f = record { name = f.name.now; function = f.function; result = f.result; parts = map part_view f.parts.now }

-- a field
abbrev pub part : List ℕ → Cell → PartView
part name cell = record { name = name; cell = cell }

-- a constructor of the type with this number
abbrev pub constructor : List ℕ → ℕ → List PartView → FormView
constructor name head parts = record { name = name; function = false; result = Some head; parts = parts }

-- a function that answers the type with this number
abbrev pub function : List ℕ → Option ℕ → List PartView → FormView
function name result parts = record { name = name; function = true; result = result; parts = parts }

-- the forms; a form's number is its index
unfoldable pub forms : List FormView
forms =
    constructor (codes "updateNewMessage") UPDATE_TYPE (part (codes "body") Body ∷ part (codes "pts") Whole ∷ part (codes "pts_count") Whole ∷ [])
    ∷ constructor (codes "updateEditMessage") UPDATE_TYPE (part (codes "body") Body ∷ part (codes "pts") Whole ∷ part (codes "pts_count") Whole ∷ [])
    ∷ constructor (codes "updateDeleteMessages") UPDATE_TYPE (part (codes "ids") Ids ∷ part (codes "pts") Whole ∷ part (codes "pts_count") Whole ∷ [])
    ∷ constructor (codes "updateNewEncryptedMessage") UPDATE_TYPE (part (codes "body") Body ∷ part (codes "qts") Whole ∷ [])
    ∷ constructor (codes "updateNewChannelMessage") UPDATE_TYPE (part (codes "channel_id") Long ∷ part (codes "body") Body ∷ part (codes "pts") Whole ∷ part (codes "pts_count") Whole ∷ [])
    ∷ constructor (codes "updateEditChannelMessage") UPDATE_TYPE (part (codes "channel_id") Long ∷ part (codes "body") Body ∷ part (codes "pts") Whole ∷ part (codes "pts_count") Whole ∷ [])
    ∷ constructor (codes "updateDeleteChannelMessages") UPDATE_TYPE (part (codes "channel_id") Long ∷ part (codes "ids") Ids ∷ part (codes "pts") Whole ∷ part (codes "pts_count") Whole ∷ [])
    ∷ constructor (codes "updateChannelTooLong") UPDATE_TYPE (part (codes "channel_id") Long ∷ [])
    ∷ constructor (codes "updateSetting") UPDATE_TYPE (part (codes "key") Key ∷ part (codes "value") Body ∷ [])
    ∷ constructor (codes "updateReadHistory") UPDATE_TYPE (part (codes "max_id") Signed ∷ part (codes "pts") Whole ∷ part (codes "pts_count") Whole ∷ [])
    ∷ constructor (codes "updateReadChannelHistory") UPDATE_TYPE (part (codes "channel_id") Long ∷ part (codes "max_id") Signed ∷ part (codes "pts") Whole ∷ part (codes "pts_count") Whole ∷ [])
    ∷ constructor (codes "updatesTooLong") UPDATES_TYPE ([])
    ∷ constructor (codes "updates") UPDATES_TYPE (part (codes "updates") (Many UPDATE_TYPE) ∷ part (codes "date") Whole ∷ part (codes "seq") Whole ∷ [])
    ∷ constructor (codes "updatesCombined") UPDATES_TYPE (part (codes "updates") (Many UPDATE_TYPE) ∷ part (codes "date") Whole ∷ part (codes "seq_start") Whole ∷ part (codes "seq") Whole ∷ [])
    ∷ constructor (codes "updates.state") STATE_TYPE (part (codes "pts") Whole ∷ part (codes "qts") Whole ∷ part (codes "date") Whole ∷ part (codes "seq") Whole ∷ [])
    ∷ constructor (codes "updates.differenceEmpty") DIFFERENCE_TYPE (part (codes "date") Whole ∷ part (codes "seq") Whole ∷ [])
    ∷ constructor (codes "updates.difference") DIFFERENCE_TYPE (part (codes "new_messages") Bodies ∷ part (codes "new_encrypted_messages") Bodies ∷ part (codes "other_updates") (Many UPDATE_TYPE) ∷ part (codes "state") (One STATE_TYPE) ∷ [])
    ∷ constructor (codes "updates.differenceSlice") DIFFERENCE_TYPE (part (codes "new_messages") Bodies ∷ part (codes "new_encrypted_messages") Bodies ∷ part (codes "other_updates") (Many UPDATE_TYPE) ∷ part (codes "intermediate_state") (One STATE_TYPE) ∷ [])
    ∷ constructor (codes "updates.channelDifferenceEmpty") CHANNEL_DIFFERENCE_TYPE (part (codes "flags") Flags ∷ part (codes "final") Final ∷ part (codes "pts") Whole ∷ [])
    ∷ constructor (codes "updates.channelDifference") CHANNEL_DIFFERENCE_TYPE (part (codes "flags") Flags ∷ part (codes "final") Final ∷ part (codes "pts") Whole ∷ part (codes "new_messages") Bodies ∷ part (codes "other_updates") (Many UPDATE_TYPE) ∷ [])
    ∷ constructor (codes "updates.channelDifferenceTooLong") CHANNEL_DIFFERENCE_TYPE (part (codes "flags") Flags ∷ part (codes "final") Final ∷ part (codes "pts") Whole ∷ part (codes "messages") Bodies ∷ [])
    ∷ constructor (codes "peer.push") FRAME_TYPE (part (codes "updates") (One UPDATES_TYPE) ∷ [])
    ∷ constructor (codes "peer.stateReply") FRAME_TYPE (part (codes "number") Whole ∷ part (codes "state") (Bare STATE) ∷ [])
    ∷ constructor (codes "peer.differenceReply") FRAME_TYPE (part (codes "number") Whole ∷ part (codes "difference") (One DIFFERENCE_TYPE) ∷ [])
    ∷ constructor (codes "peer.channelReply") FRAME_TYPE (part (codes "number") Whole ∷ part (codes "difference") (One CHANNEL_DIFFERENCE_TYPE) ∷ [])
    ∷ constructor (codes "peer.receiptReply") FRAME_TYPE (part (codes "number") Whole ∷ part (codes "receipt") (Bare RECEIPT) ∷ [])
    ∷ constructor (codes "peer.errorReply") FRAME_TYPE (part (codes "number") Whole ∷ part (codes "code") Signed ∷ part (codes "text") Key ∷ [])
    ∷ constructor (codes "peer.receipt") RECEIPT_TYPE (part (codes "pts") Whole ∷ part (codes "qts") Whole ∷ part (codes "date") Whole ∷ part (codes "seq") Whole ∷ [])
    ∷ constructor (codes "peer.postMessage") POST_TYPE (part (codes "body") Body ∷ [])
    ∷ constructor (codes "peer.postEdit") POST_TYPE (part (codes "body") Body ∷ [])
    ∷ constructor (codes "peer.postDelete") POST_TYPE (part (codes "ids") Ids ∷ [])
    ∷ constructor (codes "peer.postSecret") POST_TYPE (part (codes "body") Body ∷ [])
    ∷ constructor (codes "peer.postChannelMessage") POST_TYPE (part (codes "channel_id") Long ∷ part (codes "body") Body ∷ [])
    ∷ constructor (codes "peer.postChannelEdit") POST_TYPE (part (codes "channel_id") Long ∷ part (codes "body") Body ∷ [])
    ∷ constructor (codes "peer.postChannelDelete") POST_TYPE (part (codes "channel_id") Long ∷ part (codes "ids") Ids ∷ [])
    ∷ constructor (codes "peer.postSetting") POST_TYPE (part (codes "key") Key ∷ part (codes "value") Body ∷ [])
    ∷ constructor (codes "peer.postRead") POST_TYPE (part (codes "max_id") Signed ∷ [])
    ∷ constructor (codes "peer.postChannelRead") POST_TYPE (part (codes "channel_id") Long ∷ part (codes "max_id") Signed ∷ [])
    ∷ constructor (codes "replay.post") STEP_TYPE (part (codes "random_id") Long ∷ part (codes "posts") (Many POST_TYPE) ∷ [])
    ∷ constructor (codes "replay.date") STEP_TYPE (part (codes "date") Whole ∷ [])
    ∷ constructor (codes "replay.serve") STEP_TYPE (part (codes "packet") Whole ∷ [])
    ∷ constructor (codes "replay.hear") STEP_TYPE (part (codes "client") Whole ∷ part (codes "packet") Whole ∷ [])
    ∷ constructor (codes "replay.tick") STEP_TYPE (part (codes "client") Whole ∷ [])
    ∷ constructor (codes "replay.wake") STEP_TYPE (part (codes "client") Whole ∷ [])
    ∷ constructor (codes "replay.watch") STEP_TYPE (part (codes "client") Whole ∷ part (codes "channel_id") Long ∷ [])
    ∷ constructor (codes "replay.restart") STEP_TYPE (part (codes "client") Whole ∷ [])
    ∷ constructor (codes "replay.tooLong") STEP_TYPE ([])
    ∷ constructor (codes "replay.channelTooLong") STEP_TYPE (part (codes "channel_id") Long ∷ [])
    ∷ constructor (codes "state.new") EVENT_TYPE (part (codes "body") Body ∷ [])
    ∷ constructor (codes "state.edit") EVENT_TYPE (part (codes "body") Body ∷ [])
    ∷ constructor (codes "state.delete") EVENT_TYPE (part (codes "ids") Ids ∷ [])
    ∷ constructor (codes "state.read") EVENT_TYPE (part (codes "max_id") Signed ∷ [])
    ∷ constructor (codes "state.lane") LANE_TYPE (part (codes "restart") Whole ∷ part (codes "at") Whole ∷ part (codes "events") (Many EVENT_TYPE) ∷ [])
    ∷ constructor (codes "state.setting") SETTING_TYPE (part (codes "key") Key ∷ part (codes "value") Body ∷ [])
    ∷ constructor (codes "state.channel") CHANNEL_TYPE (part (codes "channel_id") Long ∷ part (codes "lane") (Bare LANE) ∷ part (codes "recent") Bodies ∷ [])
    ∷ constructor (codes "state.client") CLIENT_TYPE (part (codes "version") Whole ∷ part (codes "next") Whole ∷ part (codes "common") (Bare LANE) ∷ part (codes "secret") (Bare LANE) ∷ part (codes "date") Whole ∷ part (codes "seq") Whole ∷ part (codes "settings") (ManyBare SETTING) ∷ part (codes "channels") (ManyBare CHANNEL) ∷ [])
    ∷ function (codes "updates.getState") (Some STATE_TYPE) ([])
    ∷ function (codes "updates.getDifference") (Some DIFFERENCE_TYPE) (part (codes "pts") Signed ∷ part (codes "qts") Signed ∷ part (codes "date") Whole ∷ [])
    ∷ function (codes "updates.getChannelDifference") (Some CHANNEL_DIFFERENCE_TYPE) (part (codes "channel_id") Long ∷ part (codes "pts") Signed ∷ [])
    ∷ function (codes "peer.invoke") None (part (codes "number") Whole ∷ part (codes "query") Query ∷ [])
    ∷ function (codes "peer.post") (Some RECEIPT_TYPE) (part (codes "random_id") Long ∷ part (codes "posts") (Many POST_TYPE) ∷ [])
    ∷ []

-- the names of the types; a type's number is its index
unfoldable pub type_names : List (List ℕ)
type_names =
    codes "Update" ∷ codes "Updates" ∷ codes "updates.State" ∷ codes "updates.Difference" ∷ codes "updates.ChannelDifference" ∷ codes "peer.Frame" ∷ codes "peer.Receipt" ∷ codes "peer.Post" ∷ codes "replay.Step" ∷ codes "state.Event" ∷ codes "state.Lane" ∷ codes "state.Setting" ∷ codes "state.Channel" ∷ codes "state.Client" ∷ []

-- ---- one form

-- what stands in the fields of form k; nothing where k is no form
abbrev pub cells_in : Option FormView → List Cell
cells_in None = []
cells_in (Some f) = map (λ p. p.cell) f.parts

-- likewise of the form with this number
abbrev pub cells_of : ℕ → List Cell
cells_of k = cells_in (slice_get forms k)

-- the form is a constructor of type h
abbrev pub is_type : ℕ → Option ℕ → Bool
is_type h None = false
is_type h (Some g) = g == h

abbrev pub makes : ℕ → Option FormView → Bool
makes h None = false
makes h (Some f) = not f.function && is_type h f.result

-- form k is a constructor of type h
abbrev pub constructs : ℕ → ℕ → Bool
constructs h k = makes h (slice_get forms k)

-- form k is a function
abbrev pub answers : Option FormView → Bool
answers None = false
answers (Some f) = f.function

abbrev pub is_function : ℕ → Bool
is_function k = answers (slice_get forms k)

-- form k is one of the functions that a server answers
abbrev pub is_request : ℕ → Bool
is_request k = (k == GET_STATE) || ((k == GET_DIFFERENCE) || ((k == GET_CHANNEL_DIFFERENCE) || (k == POST)))
