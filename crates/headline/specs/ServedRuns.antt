-- Two runs of the program over one link: one of `serve`, and one of `client` in one of its sessions. This project's own.
use Rattle.std.specs.Prelude.{◌≡◌, ℕ, ◌+◌, ◌<◌, ◌≤◌, ℤ, List, [], ◌∷◌, ◌++◌, length, get_or}
use Rattle.tl_numbers.specs.Bytes.{AreBytes}
use Rattle.tl_base.specs.Outside.{View, HasFile}
use Rattle.wire_profile.specs.Indexes.{ProfileView}
use Rattle.wire_values.specs.SavedClients.{saved_tree}
use Rattle.box_wire.specs.Framing.{Framed}
use Rattle.box_wire.specs.Kinds.{saved_clients}
use Rattle.box_client.specs.Saving.{saved_of}
use Rattle.box_client.specs.States.{ClientState}
use Rattle.box_server.specs.Servers.{new_server}
use Rattle.box_world.specs.Streams.{Doing, dates}
use Rattle.outside.specs.declared.status.Status.TheVariants.{Done}
use Rattle.fault_lines.specs.Profiled.{IsProfileText}
use Rattle.session_commands.specs.Linked.{next_link}
use Rattle.session_commands.specs.Serve.{IsAny, Sessions, Total}
use Rattle.commands.specs.Requests.{AsksFor, client, serve}
use Rattle.outside.specs.Events.{Event, Outside}
use Rattle.run_laws.specs.Runs.{RunsOver}
use Rattle.headline.specs.Answering.{IsUpToDate}
use Rattle.headline.specs.Recovered.{StateAgrees}
use Rattle.headline.specs.Histories.{AreMoments, HasHistory}

-- A run of `serve SCHEMA ADDRESS SESSIONS` with this schema ended with status 0. In its session k, counted from 0, this came over the link, and that was sent.
pub record ServesOver (schema : List ℕ) (k : ℕ) (came sent : List ℕ) (v w : View) : Type 0 where
  pub words : List (List ℕ)
  pub schema_name : List ℕ
  pub address : List ℕ
  pub sessions : ℕ
  pub trace : List Event
  pub before : Outside
  pub after : Outside
  pub shown : (before.view ≡ v) × (after.view ≡ w)
  pub asks : AsksFor words (serve schema_name address sessions)
  pub has : HasFile v.files schema_name schema
  pub runs : RunsOver words trace Done before after
  pub among : k < sessions
  pub given : get_or v.links k [] ≡ came
  pub written : get_or w.written.links (length v.written.links + k) [] ≡ sent

-- A run of `client SCHEMA ADDRESS STATE [CHANNEL ..]` with this schema and state ended with status 0. This came over its link, and that was sent.
pub record RecoversOver (schema state : List ℕ) (came sent : List ℕ) (v w : View) : Type 0 where
  pub words : List (List ℕ)
  pub schema_name : List ℕ
  pub address : List ℕ
  pub state_name : List ℕ
  pub channels : List ℤ
  pub trace : List Event
  pub before : Outside
  pub after : Outside
  pub shown : (before.view ≡ v) × (after.view ≡ w)
  pub asks : AsksFor words (client schema_name address state_name channels)
  pub has : HasFile v.files schema_name schema
  pub holds : HasFile v.files state_name state
  pub runs : RunsOver words trace Done before after
  pub given : next_link v ≡ came
  pub written : get_or w.written.links (length v.written.links) [] ≡ sent

-- The sessions before session k came to a server with a history. Where the state that was there agreed with that server as it once was, the client that was
-- saved is up to date with it, dated as session k began, and the state that was saved agrees with it.
pub record SavesUpToDate (schema state : List ℕ) (k : ℕ) (v : View) (saved : List ℕ) : Type 0 where
  pub p : ProfileView
  pub profile : IsProfileText schema p
  pub before : Total
  pub sessions : Sessions IsAny p new_server v.links v.moments k before
  pub history : (h : List Doing) × HasHistory h before.server
  pub d : ClientState
  pub saves : Framed p saved_clients (saved_tree (saved_of d)) saved
  pub meets : (h : List Doing) (m : ℕ) → HasHistory h before.server → m ≤ length h → StateAgrees p h m state → let g : List Doing = h ++ dates (get_or v.moments k 0) ∷ [] in IsUpToDate g d × StateAgrees p g (length g) saved

-- The client's link gave what the server sent in its session k, and the other way about.
abbrev pub ServedRunsMeet : Type 0
ServedRunsMeet =
    (schema state asked answered : List ℕ) (k : ℕ) (v w x y : View) → AreBytes state → AreBytes asked → AreBytes answered → AreMoments v.moments
    → ServesOver schema k asked answered v w → RecoversOver schema state answered asked x y → SavesUpToDate schema state k v y.written.state
