-- What a server's session comes to over an outside whose links give bytes. This project's own.
use Rattle.std.specs.Prelude.{◌≡◌, ℕ, List, [], ◌∷◌, ◌++◌, true, false}
use Rattle.tl_base.specs.Outside.{left_of, written_of}
use Rattle.tl_base.specs.declared.host.Out.TheVariants as outs
use Rattle.tl_base.specs.declared.host.Slot.TheVariants as slots
use Rattle.box_events.specs.declared.requests.Numbered.{Numbered}
use Rattle.box_server.specs.Servers.{ServerState}
use Rattle.box_server.specs.declared.entry.Entry.{Entry}
use Rattle.wire_profile.specs.Indexes.{ProfileView}
use Rattle.outside.specs.Events.{Outside}
use Rattle.outside.specs.Fits.{Fits}
use Rattle.update_sessions.specs.Kept.{KeeperBroke, kept_in}
use Rattle.update_sessions.specs.Served.{Serves}
use Rattle.serve_rooms.specs.Acts.{Act, hosted, loaded, added, events_in}
use Rattle.serve_rooms.specs.Answering.{AnswersAll, Session, over, lost}

-- ---- one session

-- the entries that were added, in their order
abbrev pub added_in : List Act → List Entry
added_in [] = []
added_in (hosted e ∷ t) = added_in t
added_in (loaded by ∷ t) = added_in t
added_in (added e true ∷ t) = e ∷ added_in t
added_in (added e false ∷ t) = added_in t

-- as a session of the server ends; or the keeper failed
abbrev pub EndsAs : ProfileView → ServerState → List ℕ → List ℕ → List Numbered → Session → Type 0
EndsAs p s bytes out cs (over t end) = Serves p s bytes out t end cs
EndsAs p s bytes out cs lost = KeeperBroke p s bytes out cs

-- A session of the server over what was left of the link: this was sent, these calls were taken, and their entries are those that were added.
pub record SessionOver (p : ProfileView) (s : ServerState) (t : List Act) (r : Session) (x y : Outside) : Type 0 where
  pub sent : List ℕ
  pub calls : List Numbered
  pub wrote : written_of outs.Link y.view ≡ written_of outs.Link x.view ++ sent
  pub ends : EndsAs p s (left_of slots.Link x.view) sent calls r
  pub entries : added_in t ≡ kept_in s calls

-- What is answered until the link ends is such a session, however it ends.
abbrev pub SessionsAnswer : Type 0
SessionsAnswer = (p : ProfileView) (s : ServerState) (t : List Act) (r : Session) (x y : Outside) → AnswersAll p s t r → Fits (events_in t) x y → SessionOver p s t r x y
