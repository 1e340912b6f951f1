-- What `client` does. This project's own.
use Rattle.std.specs.Prelude.{◌≡◌, ℕ, ℤ, List, Bool, true, false, Option, Some, None, Ok, Err}
use Rattle.tl_base.specs.declared.host.Slot.TheVariants as slots
use Rattle.tl_base.specs.declared.host.Out.TheVariants as outs
use Rattle.box_client.specs.States.{ClientState}
use Rattle.box_client.specs.Saving.{saved_of}
use Rattle.wire_profile.specs.Indexes.{ProfileView}
use Rattle.wire_values.specs.SavedClients.{saved_tree}
use Rattle.box_wire.specs.Kinds.{saved_clients}
use Rattle.box_wire.specs.Framing.{Framed}
use Rattle.outside.specs.Answer.{done, refused, link_fault_line, memory_line, write_fault_line}
use Rattle.outside.specs.declared.status.Status.{Status}
use Rattle.outside.specs.declared.status.Status.TheVariants.{LinkFault, Memory, PeerFault, WriteFault}
use Rattle.outside.specs.Events.{Event, created, connected}
use Rattle.outside.specs.Pieces.{ReadsFile, Tells, Writes}
use Rattle.outside.specs.Printing.{Prints, Unread}
use Rattle.outside.specs.Steps.{Step, Calls, Then}
use Rattle.codec_rooms.specs.Typed.{OfCommand}
use Rattle.update_commands.specs.Profile.{OfProfile}
use Rattle.session_commands.specs.declared.state.TheConstants.{MAX_STATE_BYTES}
use Rattle.session_commands.specs.Client.{HasClient, TellsNoClient, watch_all, many_channels_line, client_line}
use Rattle.session_commands.specs.SessionEnds.{session_line}
use Rattle.session_rooms.specs.Conversing.{Converses, Outcome}

-- ---- what is left of a client

abbrev pub unwritten : Step Status
unwritten = Tells write_fault_line WriteFault

-- State was written: where the client is, is written in one line; or that failed
abbrev pub after_state : ClientState → Bool → Step Status
after_state c true = Prints (done (client_line c))
after_state c false = unwritten

-- State was created, and takes these bytes; or it could not be
abbrev pub after_create : ClientState → List ℕ → Bool → Step Status
after_create c bytes true = Then (Writes outs.State bytes) (after_state c)
after_create c bytes false = unwritten

-- What the client saves has these bytes: State is created under the name, and written, and then it is told where the client is. Or there is no memory for them, as
-- where they are more than a saved client can have; that is told.
pub data Leaves (p : ProfileView) (name : List ℕ) (c : ClientState) (t : List Event) (status : Status) : Type 0 where
  saves : (bytes : List ℕ) → Framed p saved_clients (saved_tree (saved_of c)) bytes → Then (Calls (created outs.State name)) (after_create c bytes) t status → Leaves p name c t status
  no_memory : Tells memory_line Memory t status → Leaves p name c t status

-- ---- the session

-- the line of what the other end did wrong; or that of a link that failed
abbrev pub ends_by : Option (List ℕ) → Step Status
ends_by (Some line) = Tells line PeerFault
ends_by None = Tells link_fault_line LinkFault

-- a client is saved only where the session had no fault
abbrev pub after_session : ProfileView → List ℕ → Outcome → Step Status
after_session p name (Ok c) = Leaves p name c
after_session p name (Err fault) = ends_by (session_line fault)

abbrev pub after_connect : ProfileView → List ℕ → ClientState → Bool → Step Status
after_connect p name c true = Then (Converses p c) (after_session p name)
after_connect p name c false = Tells link_fault_line LinkFault

-- a link is made to the address, and the client is brought up to date over it
abbrev pub Recovers : ProfileView → List ℕ → List ℕ → ClientState → Step Status
Recovers p address name c = Then (Calls (connected address)) (after_connect p name c)

-- ---- the command

-- The state's bytes have no client, or there is no place for the channels that it is to watch too: that is told, and no link is made.
pub data OfState (p : ProfileView) (address name : List ℕ) (channels : List ℤ) (bytes : List ℕ) (t : List Event) (status : Status) : Type 0 where
  no_client : (line : List ℕ) → TellsNoClient p bytes line → Prints (refused line) t status → OfState p address name channels bytes t status
  too_many : (c : ClientState) → HasClient p bytes c → watch_all channels c ≡ None → Prints (refused many_channels_line) t status → OfState p address name channels bytes t status
  watches : (c d : ClientState) → HasClient p bytes c → watch_all channels c ≡ Some d → Recovers p address name d t status → OfState p address name channels bytes t status

abbrev pub after_reading : ProfileView → List ℕ → List ℕ → List ℤ → Option (List ℕ) → Step Status
after_reading p address name channels (Some bytes) = OfState p address name channels bytes
after_reading p address name channels None = Unread

-- the state file is read
abbrev pub OfStateFile : List ℕ → List ℕ → List ℤ → ProfileView → Step Status
OfStateFile address name channels p = Then (ReadsFile slots.State name MAX_STATE_BYTES) (after_reading p address name channels)

-- `client SCHEMA ADDRESS STATE [CHANNEL ..]`
abbrev pub recovers : List ℕ → List ℕ → List ℕ → List ℤ → Step Status
recovers schema address name channels = OfCommand (OfProfile (OfStateFile address name channels)) schema
