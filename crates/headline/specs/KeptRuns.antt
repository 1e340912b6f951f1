-- A run of `keep` and one of `client` over one link. This project's own.
use Rattle.std.specs.Prelude.{◌≡◌, ℕ, ◌+◌, ◌<◌, ◌≤◌, List, [], ◌∷◌, ◌++◌, length, get_or, Some}
use Rattle.tl_numbers.specs.Bytes.{AreBytes}
use Rattle.tl_base.specs.Outside.{View, HasFile}
use Rattle.wire_profile.specs.Indexes.{ProfileView}
use Rattle.wire_values.specs.SavedClients.{saved_tree}
use Rattle.box_wire.specs.Framing.{Framed}
use Rattle.box_wire.specs.Kinds.{saved_clients}
use Rattle.box_client.specs.Saving.{saved_of}
use Rattle.box_client.specs.States.{ClientState}
use Rattle.box_server.specs.Servers.{ServerState}
use Rattle.box_server.specs.declared.entry.Entry.{Entry}
use Rattle.box_server.specs.Keeping.{KeeperState}
use Rattle.box_server.specs.Rebuilding.{Rebuilds, rebuilt}
use Rattle.box_world.specs.Streams.{Doing, dates}
use Rattle.outside.specs.declared.status.Status.TheVariants.{Done}
use Rattle.fault_lines.specs.Profiled.{IsProfileText}
use Rattle.session_commands.specs.Serve.{IsAny, Sessions, Total}
use Rattle.outside.specs.Events.{Outside}
use Rattle.serve_rooms.specs.Acts.{Act}
use Rattle.serve_rooms.specs.declared.status.KeptStatus.TheVariants.{Run}
use Rattle.commands.specs.KeepWords.{AsksToKeep, KeepText}
use Rattle.run_laws.specs.Runs.{StoresOver}
use Rattle.headline.specs.Answering.{IsUpToDate}
use Rattle.headline.specs.Histories.{AreMoments, HasHistory, IsThere}
use Rattle.headline.specs.Recovered.{StateAgrees}
use Rattle.headline.specs.ServedRuns.{RecoversOver}
use Rattle.headline.specs.TwoClients.{BothAreUpToDate}

-- A run of `keep SCHEMA ADDRESS SESSIONS FILE` with this schema, over a file that keeps these entries, ended with status 0. In its session k, counted from 0,
-- this came over the link, and that was sent.
pub record KeepsOver (schema : List ℕ) (es : List Entry) (k : ℕ) (came sent : List ℕ) (v w : View) : Type 0 where
  pub words : List (List ℕ)
  pub request : KeepText
  pub acts : List Act
  pub before : Outside
  pub after : Outside
  pub file_old : KeeperState
  pub file_new : KeeperState
  pub shown : (before.view ≡ v) × (after.view ≡ w) × (file_old.entries ≡ Some es)
  pub asks : AsksToKeep words request
  pub has : HasFile v.files request.schema schema
  pub runs : StoresOver words acts (Run Done) before after file_old file_new
  pub among : k < request.sessions
  pub given : get_or v.links k [] ≡ came
  pub written : get_or w.written.links (length v.written.links + k) [] ≡ sent

-- The sessions before session k, from the server that the entries rebuild, came to one with its history, and more. Where the state that was there agreed with
-- that server as it once was, the client that was saved is up to date with it, dated as session k began, and the state that was saved agrees with it.
pub record SavesOfKept (schema state : List ℕ) (es : List Entry) (k : ℕ) (v : View) (saved : List ℕ) : Type 0 where
  pub p : ProfileView
  pub profile : IsProfileText schema p
  pub before : Total
  pub sessions : Sessions IsAny p (rebuilt es) v.links v.moments k before
  pub history : (h : List Doing) (s : ServerState) → HasHistory h s → Rebuilds es s → s.date ≤ get_or v.moments 0 0 → (more : List Doing) × (t : ServerState) × IsThere (h ++ more) t before.server (get_or v.moments k 0)
  pub d : ClientState
  pub saves : Framed p saved_clients (saved_tree (saved_of d)) saved
  pub meets : (h : List Doing) (s : ServerState) (m : ℕ) → IsThere h s before.server (get_or v.moments k 0) → m ≤ length h → StateAgrees p h m state → let g : List Doing = h ++ dates (get_or v.moments k 0) ∷ [] in IsUpToDate g d × StateAgrees p g (length g) saved

-- The client's link gave what the server sent in its session k, and the other way about.
abbrev pub KeptRunsMeet : Type 0
KeptRunsMeet =
    (schema state asked answered : List ℕ) (es : List Entry) (k : ℕ) (v w x y : View) → AreBytes state → AreBytes asked → AreBytes answered → AreMoments v.moments
    → KeepsOver schema es k asked answered v w → RecoversOver schema state answered asked x y → SavesOfKept schema state es k v y.written.state

-- One client was there in session j, and another, or the same again, in a later session k of it.
abbrev pub KeptClientsMeet : Type 0
KeptClientsMeet =
    (schema first second asked answered then_asked then_answered : List ℕ) (es : List Entry) (j k : ℕ) (v w x y a b : View) → AreBytes first → AreBytes second → AreBytes asked → AreBytes answered → AreBytes then_asked → AreBytes then_answered → AreMoments v.moments → j < k
    → KeepsOver schema es j asked answered v w → KeepsOver schema es k then_asked then_answered v w → RecoversOver schema first answered asked x y → RecoversOver schema second then_answered then_asked a b
    → BothAreUpToDate schema first second (rebuilt es) j k v y.written.state b.written.state
