-- What `client` answers: the client of a state file is brought up to date, saved and told; or where and why schema, profile, state or channels are refused, or
-- what the other end of the link does wrong. This project's own.
use Rattle.std.specs.Prelude.{◌≡◌, ℕ, ◌<◌, ◌≤◌, ◌^◌, ℤ, List, [], ◌∷◌, ◌++◌, length, ltb, cond, codes, Option, Some, None, option_and_then, Ok, Err}
use Rattle.std.specs.List.{AllByRecursion}
use Rattle.tl_numbers.specs.Bytes.{AreBytes}
use Rattle.tl_base.specs.Contents.{Files, HoldBytes}
use Rattle.tl_base.specs.Outside.{View, HasFile, IsFile}
use Rattle.box_events.specs.declared.limits.TheConstants.{MAX_CHANNELS}
use Rattle.box_events.specs.declared.saved.Saved.{Saved}
use Rattle.pts_machine.specs.Steps.{new_lane}
use Rattle.channel_box.specs.Steps.{channel_of, is_watched}
use Rattle.box_client.specs.declared.fault.LoadFault.{LoadFault}
use Rattle.box_client.specs.Loads.{IsCauseOf, IsLoadedAs}
use Rattle.box_client.specs.Numbers.{client_numbers}
use Rattle.box_client.specs.Saving.{saved_of}
use Rattle.box_client.specs.States.{ClientState, new_client}
use Rattle.wire_profile.specs.declared.wire_fault.WireFault.{WireFault}
use Rattle.wire_forms.specs.IsOf.{IsLong}
use Rattle.wire_profile.specs.Indexes.{ProfileView}
use Rattle.wire_values.specs.Carried.{IsSaved}
use Rattle.wire_values.specs.SavedClients.{saved_tree}
use Rattle.box_wire.specs.Kinds.{saved_clients}
use Rattle.box_wire.specs.Framing.{Framed, Means, WireRefused}
use Rattle.report_lines.specs.Texts.{client_positions}
use Rattle.update_sessions.specs.Honest.{HearsHonestly}
use Rattle.update_sessions.specs.declared.fault.SessionFault.{SessionFault}
use Rattle.outside.specs.Answer.{Answer, refused, unplaced_line}
use Rattle.outside.specs.Jobs.{Job}
use Rattle.outside.specs.declared.status.Status.TheVariants.{PeerFault}
use Rattle.fault_lines.specs.Messages.{wire_line}
use Rattle.fault_lines.specs.Profiled.{OfProfileFile}
use Rattle.fault_lines.specs.SavedClients.{load_line}
use Rattle.session_commands.specs.declared.state.TheConstants.{MAX_STATE_BYTES}
use Rattle.session_commands.specs.Linked.{over_link, saves_after, linking_job, next_link, KeepsFiles, LeavesLinks, LeavesState}
use Rattle.session_commands.specs.Post.{ReachesLink}
use Rattle.session_commands.specs.SessionEnds.{IsShort, session_line}

-- ---- the state file

-- the bytes of a file that has a saved client
pub record HasSaved (p : ProfileView) (bytes : List ℕ) (s : Saved) : Type 0 where
  pub some : 0 < length bytes
  pub few : length bytes ≤ MAX_STATE_BYTES
  pub is : IsSaved s
  pub means : Means p saved_clients (saved_tree s) bytes

-- the client of a state file: a new one, where that is empty; else one that is loaded of what it has
pub data HasClient (p : ProfileView) (bytes : List ℕ) (c : ClientState) : Type 0 where
  begins : bytes ≡ [] → c ≡ new_client → HasClient p bytes c
  loads : (s : Saved) → HasSaved p bytes s → IsLoadedAs s c → HasClient p bytes c

abbrev pub long_state_line : List ℕ
long_state_line = unplaced_line (codes "state") (codes "TooLong")

-- the line says why it has none: it is too long; or its bytes are no saved client; or no client can be loaded of that
pub data TellsNoClient (p : ProfileView) (bytes line : List ℕ) : Type 0 where
  too_long : MAX_STATE_BYTES < length bytes → line ≡ long_state_line → TellsNoClient p bytes line
  no_saved : (fault : WireFault) → 0 < length bytes → length bytes ≤ MAX_STATE_BYTES → WireRefused p saved_clients bytes fault → line ≡ wire_line (codes "state") fault → TellsNoClient p bytes line
  not_loaded : (s : Saved) (fault : LoadFault) → HasSaved p bytes s → IsCauseOf s fault → load_line fault ≡ Some line → TellsNoClient p bytes line

-- ---- channels

-- a channel is watched too, last in order; one that is watched already is no second one, and there is no place for one more than MAX_CHANNELS
abbrev pub watch_one : ClientState → ℤ → Option ClientState
watch_one c id = cond (is_watched c.channels id) (Some c) (cond (ltb (length c.channels) MAX_CHANNELS) (Some (record c { channels = c.channels ++ channel_of id new_lane [] ∷ [] })) None)

-- likewise each of these, in order
abbrev pub watch_all : List ℤ → ClientState → Option ClientState
watch_all [] c = Some c
watch_all (id ∷ ids) c = option_and_then (watch_all ids) (watch_one c id)

abbrev pub many_channels_line : List ℕ
many_channels_line = unplaced_line (codes "words") (codes "TooMany")

-- ---- the session

-- where a client is, in one line
abbrev pub client_line : ClientState → List ℕ
client_line c = codes "client " ++ client_positions (client_numbers c) ++ codes "\n"

-- The server is asked for all that is new over a link that gives these bytes, and the client after that is saved and told; or the other end does something
-- wrong, and nothing is saved. The session is one that `HearsHonestly`: over an honest server's frames each lane that is saved is what lies in that
-- server's box from the lane's restart to its position.
pub data OfSession (p : ProfileView) (address name : List ℕ) (c : ClientState) (given : List ℕ) (a : Answer) : Type 0 where
  failed : (fault : SessionFault) (sent line : List ℕ) (d : ClientState) → HearsHonestly p c given sent d (Err fault) → IsShort fault → session_line fault ≡ Some line → a ≡ over_link address sent PeerFault [] line
      → OfSession p address name c given a
  recovered : (frames : ℕ) (sent saved : List ℕ) (d : ClientState) → HearsHonestly p c given sent d (Ok frames) → Framed p saved_clients (saved_tree (saved_of d)) saved → a ≡ saves_after address sent name saved (client_line d)
      → OfSession p address name c given a

-- ---- the answer

-- the state has no client; or there is no place for its channels and these; or its client watches them too, and is brought up to date
pub data OfState (p : ProfileView) (address name : List ℕ) (channels : List ℤ) (bytes given : List ℕ) (a : Answer) : Type 0 where
  no_client : (line : List ℕ) → TellsNoClient p bytes line → a ≡ refused line → OfState p address name channels bytes given a
  too_many : (c : ClientState) → HasClient p bytes c → watch_all channels c ≡ None → a ≡ refused many_channels_line → OfState p address name channels bytes given a
  watches : (c d : ClientState) → HasClient p bytes c → watch_all channels c ≡ Some d → OfSession p address name d given a → OfState p address name channels bytes given a

-- of a profile the state file tells
abbrev pub OfStateFile : List ℕ → List ℕ → List ℤ → Files → List ℕ → ProfileView → Answer → Type 0
OfStateFile address name channels files given p a = (bytes : List ℕ) × HasFile files name bytes × OfState p address name channels bytes given a

-- client's answer, over a link that gives these bytes
abbrev pub ClientAnswer : Files → List ℕ → List ℕ → List ℕ → List ℕ → List ℤ → Answer → Type 0
ClientAnswer files given schema address name channels a = OfProfileFile (OfStateFile address name channels files given) files schema a

-- ---- what is left

-- What `client` leaves: files, moments and Input; State, where the session doesn't end well; and links, where the work doesn't come to them
pub record ClientKeeps (schema address name : List ℕ) (channels : List ℤ) (v w : View) : Type 0 where
  pub rest : KeepsFiles v w
  pub input : w.left.input ≡ v.left.input
  pub state : LeavesState (ClientAnswer v.files (next_link v) schema address name channels) v w
  pub links : LeavesLinks (ReachesLink v.files schema name) v w

-- `client SCHEMA ADDRESS STATE [CHANNEL ..]`
abbrev pub client_job : List ℕ → List ℕ → List ℕ → List ℤ → Job
client_job schema address name channels = linking_job (λ v a. ClientAnswer v.files (next_link v) schema address name channels a) (ClientKeeps schema address name channels)

-- ---- laws

-- over a link that gives bytes there is one answer at most
abbrev pub ClientHasOneAnswer : Type 0
ClientHasOneAnswer =
    (files : Files) → HoldBytes files → (given : List ℕ) → AreBytes given → (schema address name : List ℕ) (channels : List ℤ) (a b : Answer)
    → ClientAnswer files given schema address name channels a → ClientAnswer files given schema address name channels b → a ≡ b

-- Where files hold bytes, those of schema and state are there, and ids have 64 bits, there is one over a link that gives fewer than 2^30 bytes: over one that
-- gives more, answers may bring more keys than a saved client can have.
abbrev pub ClientsAreAnswered : Type 0
ClientsAreAnswered =
    (files : Files) → HoldBytes files → (given : List ℕ) → AreBytes given → length given < 2 ^ 30 → (schema address name : List ℕ) (channels : List ℤ) → AllByRecursion IsLong channels → IsFile files schema → IsFile files name
    → (a : Answer) × ClientAnswer files given schema address name channels a
