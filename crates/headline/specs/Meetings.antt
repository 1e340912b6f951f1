-- Runs of `client` on one state file against one server, session by session. This project's own.
use Rattle.std.specs.Prelude.{◌≡◌, ℕ, ◌<◌, ◌^◌, ℤ, List, [], ◌∷◌, ◌++◌, length, false, Some}
use Rattle.tl_numbers.specs.Bytes.{AreBytes}
use Rattle.wire_profile.specs.Indexes.{ProfileView}
use Rattle.wire_profile.specs.Profiles.{IsProfile}
use Rattle.wire_values.specs.SavedClients.{saved_tree}
use Rattle.box_wire.specs.Framing.{Framed}
use Rattle.box_wire.specs.Kinds.{saved_clients}
use Rattle.box_client.specs.Asking.{is_one_asking}
use Rattle.box_client.specs.Saving.{saved_of}
use Rattle.box_client.specs.States.{ClientState}
use Rattle.box_server.specs.Servers.{ServerState, dated_at}
use Rattle.box_world.specs.Streams.{Doing, dates}
use Rattle.session_commands.specs.Client.{HasClient, watch_all}
use Rattle.headline.specs.Answering.{IsUpToDate}
use Rattle.headline.specs.Recovered.{StateAgrees}
use Rattle.headline.specs.Histories.{HasHistory}
use Rattle.headline.specs.TwoPrograms.{Converse}

-- The client of a state file, which watches these channels too, and a session of the server at a moment hear each other to the end; then it is saved.
pub record Meets (p : ProfileView) (s : ServerState) (now : ℕ) (channels : List ℤ) (state saved : List ℕ) (t : ServerState) (d : ClientState) : Type 0 where
  pub opened : ClientState
  pub c : ClientState
  pub has : HasClient p state opened
  pub watches : watch_all channels opened ≡ Some c
  pub converse : Converse p s now c t d
  pub saves : Framed p saved_clients (saved_tree (saved_of d)) saved
  pub bytes : AreBytes state × AreBytes saved

-- a client that was loaded, and watches further channels, waits for nothing
abbrev pub LoadedAskNothing : Type 0
LoadedAskNothing = (p : ProfileView) (bytes : List ℕ) (channels : List ℤ) (opened c : ClientState) → HasClient p bytes opened → watch_all channels opened ≡ Some c → is_one_asking c ≡ false

-- A state agreed with a server of this history. Then the client ends the session up to date, the server is as it was but for its date, and what is saved
-- agrees with it: so the next run may begin with that, after anything that was done to the server meanwhile.
pub record StatesMeetServers : Type 0 where
  pub meet : (p : ProfileView) → IsProfile p → (h : List Doing) (s : ServerState) (now : ℕ) (channels : List ℤ) (state saved : List ℕ) (t : ServerState) (d : ClientState) → HasHistory h s → now < 2 ^ 31 → StateAgrees p h (length h) state
      → Meets p s now channels state saved t d → (t ≡ dated_at s now) × HasHistory (h ++ dates now ∷ []) t × IsUpToDate (h ++ dates now ∷ []) d × StateAgrees p (h ++ dates now ∷ []) (length (h ++ dates now ∷ [])) saved
  pub later : (p : ProfileView) (h more : List Doing) (state : List ℕ) → StateAgrees p h (length h) state → StateAgrees p (h ++ more) (length (h ++ more)) state
