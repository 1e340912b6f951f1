-- Two runs of `client`, each over a link that one run of `serve` is on in one of its sessions. This project's own.
use Rattle.std.specs.Prelude.{◌≡◌, ℕ, ◌<◌, ◌≤◌, List, [], ◌∷◌, ◌++◌, length, get_or, Some, slice_get}
use Rattle.tl_numbers.specs.Bytes.{AreBytes}
use Rattle.tl_base.specs.Outside.{View}
use Rattle.wire_profile.specs.Indexes.{ProfileView}
use Rattle.wire_values.specs.SavedClients.{saved_tree}
use Rattle.box_wire.specs.Framing.{Framed}
use Rattle.box_wire.specs.Kinds.{saved_clients}
use Rattle.channel_box.specs.States.{ChannelState}
use Rattle.box_client.specs.Saving.{saved_of}
use Rattle.box_client.specs.States.{ClientState}
use Rattle.box_server.specs.Servers.{ServerState, new_server}
use Rattle.box_world.specs.Streams.{Doing, dates}
use Rattle.fault_lines.specs.Profiled.{IsProfileText}
use Rattle.session_commands.specs.Serve.{IsAny, Sessions, Total}
use Rattle.headline.specs.Answering.{IsUpToDate}
use Rattle.headline.specs.Histories.{AreMoments, IsThere}
use Rattle.headline.specs.Recovered.{StateAgrees}
use Rattle.headline.specs.ServedRuns.{RecoversOver, ServesOver}

-- the second of two clients stands at or past where the first does, in each channel too that both watch
pub record IsNotBehind (d e : ClientState) : Type 0 where
  pub common : d.common.at ≤ e.common.at
  pub secret : d.secret.at ≤ e.secret.at
  pub settings : d.settings.at ≤ e.settings.at
  pub channels : (i k : ℕ) (x y : ChannelState) → slice_get d.channels i ≡ Some x → slice_get e.channels k ≡ Some y → x.id ≡ y.id → x.lane.at ≤ y.lane.at

-- What a client of the later session comes to, where its state agreed with the server at a moment until then: it is up to date with that server too, and
-- not behind the other client.
abbrev pub LaterIsUpToDate : ProfileView → List Doing → List ℕ → ℕ → ClientState → ClientState → List ℕ → Type 0
LaterIsUpToDate p h second now d e saved =
    (m : ℕ) → m ≤ length h → StateAgrees p h m second → let g : List Doing = h ++ dates now ∷ [] in IsUpToDate g e × StateAgrees p g (length g) saved × IsNotBehind d e

-- Of sessions from a server on, those before session j came to one. Where a state agreed with that as it once was, its client is up to date with it, dated as
-- session j began; and one history goes on from there to session k, with which the other client is up to date.
pub record BothAreUpToDate (schema first second : List ℕ) (base : ServerState) (j k : ℕ) (v : View) (saved then_saved : List ℕ) : Type 0 where
  pub p : ProfileView
  pub profile : IsProfileText schema p
  pub before : Total
  pub sessions : Sessions IsAny p base v.links v.moments j before
  pub d : ClientState
  pub e : ClientState
  pub saves : Framed p saved_clients (saved_tree (saved_of d)) saved × Framed p saved_clients (saved_tree (saved_of e)) then_saved
  pub meet : (h : List Doing) (s : ServerState) (m : ℕ) → IsThere h s before.server (get_or v.moments j 0) → m ≤ length h → StateAgrees p h m first → let f : List Doing = h ++ dates (get_or v.moments j 0) ∷ [] in IsUpToDate f d × StateAgrees p f (length f) saved
      × (more : List Doing) × LaterIsUpToDate p (f ++ more) second (get_or v.moments k 0) d e then_saved

-- One client was there in session j, and another, or the same again, in a later session k.
abbrev pub TwoClientsMeet : Type 0
TwoClientsMeet =
    (schema first second asked answered then_asked then_answered : List ℕ) (j k : ℕ) (v w x y a b : View) → AreBytes first → AreBytes second → AreBytes asked → AreBytes answered → AreBytes then_asked → AreBytes then_answered → AreMoments v.moments → j < k
    → ServesOver schema j asked answered v w → ServesOver schema k then_asked then_answered v w → RecoversOver schema first answered asked x y → RecoversOver schema second then_answered then_asked a b
    → BothAreUpToDate schema first second new_server j k v y.written.state b.written.state
