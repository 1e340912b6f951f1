-- A client that a run recovers from a state file, and what it has of an honest server. This project's own.
use Rattle.std.specs.Prelude.{◌≡◌, ℕ, ℤ, List, length, false, Some, slice_get}
use Rattle.tl_numbers.specs.Bytes.{AreBytes}
use Rattle.box_events.specs.declared.replies.Frame.{Frame}
use Rattle.wire_profile.specs.Indexes.{ProfileView}
use Rattle.wire_values.specs.SavedClients.{saved_tree}
use Rattle.box_wire.specs.Framing.{Framed}
use Rattle.box_wire.specs.Kinds.{saved_clients}
use Rattle.channel_box.specs.States.{ChannelState}
use Rattle.box_client.specs.Asking.{is_one_asking}
use Rattle.box_client.specs.Saving.{saved_of}
use Rattle.box_client.specs.States.{ClientState}
use Rattle.box_world.specs.Agreeing.{Agrees}
use Rattle.box_world.specs.Streams.{Doing, begun, past_of}
use Rattle.update_sessions.specs.Honest.{told_all}
use Rattle.update_sessions.specs.Packed.{Came, MeansFrame}
use Rattle.session_commands.specs.Client.{HasClient, watch_all}
use Rattle.headline.specs.Boxes.{HasBoxes}
use Rattle.headline.specs.CatchingUp.{LastAnswer, heard_all}
use Rattle.headline.specs.CatchingUpChannels.{LastChannelAnswer}

-- Each client that a state file's bytes have agrees with the server as it was after the first m of its history.
abbrev pub StateAgrees : ProfileView → List Doing → ℕ → List ℕ → Type 0
StateAgrees p h m bytes = AreBytes bytes → (c : ClientState) → HasClient p bytes c → Agrees (past_of h m).server (past_of h m).boxes c

-- From a state's bytes, and over a link that gives these, a client is recovered and saved: the state's client, or a new one, watches these channels too and
-- is c then; it asks for all that is new, hears the frames that come first, until it asks no more, and is d after them; and d is saved.
pub record Recovers (p : ProfileView) (channels : List ℤ) (state given saved : List ℕ) (frames : List Frame) (c d : ClientState) : Type 0 where
  pub opened : ClientState
  pub has : HasClient p state opened
  pub watches : watch_all channels opened ≡ Some c
  pub left : List ℕ
  pub came : Came (MeansFrame p) given frames left
  pub heard : d ≡ heard_all (begun c) (told_all frames)
  pub done : is_one_asking d ≡ false
  pub saves : Framed p saved_clients (saved_tree (saved_of d)) saved

-- With a server of this history: d has its boxes, stands at or past where it was at its last answer to c, each channel too, and what was saved agrees with it.
pub record IsRecovered (p : ProfileView) (h : List Doing) (m : ℕ) (saved : List ℕ) (frames : List Frame) (c d : ClientState) : Type 0 where
  pub boxes : HasBoxes (past_of h (length h)).server (past_of h (length h)).boxes d
  pub last : LastAnswer h (begun c) m (told_all frames)
  pub channels : (i : ℕ) (e : ChannelState) → slice_get c.channels i ≡ Some e → LastChannelAnswer h (begun c) m (told_all frames) i e.id
  pub state : StateAgrees p h (length h) saved
