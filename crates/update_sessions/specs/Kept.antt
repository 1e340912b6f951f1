-- A session of a server whose posts are kept: what its calls add to the entries, and how it ends. This project's own.
use Rattle.std.specs.Prelude.{◌≡◌, ◌≢◌, ℕ, ◌<◌, ◌≤◌, List, [], ◌∷◌, ◌++◌, length, Option, Some, None, Result, Ok, Err}
use Rattle.box_events.specs.declared.requests.Numbered.{Numbered}
use Rattle.box_events.specs.declared.requests.Request.{Request}
use Rattle.box_events.specs.declared.requests.Request.TheVariants as request
use Rattle.box_server.specs.Servers.{ServerState}
use Rattle.box_server.specs.declared.entry.Entry.{Entry}
use Rattle.box_server.specs.Keeping.{with_more}
use Rattle.box_server.specs.Rebuilding.{kept_of}
use Rattle.wire_profile.specs.Indexes.{ProfileView}
use Rattle.update_sessions.specs.declared.fault.SessionFault.{SessionFault}
use Rattle.update_sessions.specs.declared.fault.SessionFault.TheVariants.{LinkFault}
use Rattle.update_sessions.specs.declared.fault.TheConstants.{MAX_FRAMES}
use Rattle.update_sessions.specs.declared.storing.StoreSession.{StoreSession}
use Rattle.update_sessions.specs.declared.storing.StoreSession.TheVariants.{Session, Memory, Failed}
use Rattle.update_sessions.specs.Exchanges.{Exchanged}
use Rattle.update_sessions.specs.Links.{OverLink}
use Rattle.update_sessions.specs.Packed.{Came, MeansCall}
use Rattle.update_sessions.specs.Receiving.{ComesFirst}
use Rattle.update_sessions.specs.Served.{Serves}
use Rattle.update_sessions.specs.Serving.{after_request, server_side}

-- what a call to a server adds to the entries: a new post
abbrev pub kept_for : ServerState → Request → List Entry
kept_for s request.State = []
kept_for s (request.Difference pts qts date) = []
kept_for s (request.Channel id pts) = []
kept_for s (request.Post random_id posts) = kept_of s random_id posts

-- what calls add in turn
abbrev pub kept_in : ServerState → List Numbered → List Entry
kept_in s [] = []
kept_in s (c ∷ cs) = kept_for s c.request ++ kept_in (after_request s c.request) cs

-- with this server it came to that, or the keeper failed
pub data StoreEnd (T : Type 0) : Type 0 where
  ended : ServerState → Result T SessionFault → StoreEnd T
  keeper_failed : ServerState → StoreEnd T

abbrev pub end_of : {T : Type 0} → ServerState → Result T StoreSession → StoreEnd T
end_of t (Ok x) = ended t (Ok x)
end_of t (Err (Session f)) = ended t (Err f)
end_of t (Err Memory) = ended t (Err LinkFault)
end_of t (Err Failed) = keeper_failed t

-- The keeper failed at the call after these, a post that would be kept. All that is sent for these was written, and nothing else.
pub record KeeperBroke (p : ProfileView) (s : ServerState) (bytes out : List ℕ) (cs : List Numbered) : Type 0 where
  pub between : ServerState
  pub left : List ℕ
  pub exchanged : Exchanged (server_side p) s bytes left out between cs
  pub few : length cs < MAX_FRAMES
  pub last : Numbered
  pub rest : List ℕ
  pub comes : ComesFirst (MeansCall p) last left rest
  pub new : kept_for between last.request ≢ []

-- as a session of the server ends; where the keeper failed, the server is as after these
abbrev pub EndsSession : ProfileView → ServerState → List ℕ → List ℕ → List Numbered → StoreEnd ℕ → Type 0
EndsSession p s bytes out cs (ended t result) = Serves p s bytes out t result cs
EndsSession p s bytes out cs (keeper_failed t) = (broke : KeeperBroke p s bytes out cs) × (t ≡ broke.between)

-- What a session of a store does whose server's date was set: where the link tells its bytes, it is that of the server over them, and where the
-- keeper tells its entries, they have what the calls add.
pub record Stores (p : ProfileView) (s : ServerState) (left written now_written : Option (List ℕ)) (entries now_entries : Option (List Entry)) (end : StoreEnd ℕ) : Type 0 where
  pub calls : List Numbered
  pub link : OverLink left written now_written (λ bytes out. EndsSession p s bytes out calls end)
  pub appended : now_entries ≡ with_more (kept_in s calls) entries

-- these calls may come first; any, where the link doesn't tell its bytes
abbrev pub MayCome : ProfileView → Option (List ℕ) → Option (List ℕ) → List Numbered → Type 0
MayCome p None written cs = Unit {0}
MayCome p (Some bytes) None cs = Unit {0}
MayCome p (Some bytes) (Some before) cs = (left : List ℕ) × Came (MeansCall p) bytes cs left

-- there is room for these entries with what calls add that may come first, so many at most
abbrev pub RoomFor : ProfileView → ℕ → ServerState → Option (List ℕ) → Option (List ℕ) → ℕ → List Entry → Type 0
RoomFor p most s left written room es = (cs : List Numbered) → MayCome p left written cs → length cs ≤ most → length (es ++ kept_in s cs) ≤ room
