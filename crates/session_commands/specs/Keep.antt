-- What `keep` answers: how the sessions end that it serves in turn from the server that the entries of a keeper rebuild, and which entries are then kept; or
-- which entry isn't accepted. This project's own.
use Rattle.std.specs.Prelude.{◌≡◌, ◌⊎◌, ℕ, ◌<◌, ◌≤◌, List, [], ◌++◌, get_or, codes, true, Option, Some, None, IsSome}
use Rattle.tl_base.specs.Outside.{View}
use Rattle.box_server.specs.Servers.{ServerState, dated_at}
use Rattle.box_server.specs.declared.entry.Entry.{Entry}
use Rattle.box_server.specs.Keeping.{with_more}
use Rattle.box_server.specs.Rebuilding.{IsBad, are_right, rebuilt}
use Rattle.box_server.specs.Storing.{Tells}
use Rattle.wire_profile.specs.Indexes.{ProfileView}
use Rattle.update_sessions.specs.declared.fault.TheConstants.{MAX_FRAMES}
use Rattle.update_sessions.specs.Kept.{RoomFor}
use Rattle.outside.specs.Answer.{placed_line, refused}
use Rattle.outside.specs.Jobs.{Job}
use Rattle.fault_lines.specs.Profiled.{HasProfile}
use Rattle.session_commands.specs.Serve.{IsAny, IsWhole, OfSessions, Sessions, SessionsAnswer, Total, serving_job}

-- ---- answers

-- the server that entries rebuild; any, where they aren't told
abbrev pub Starts : Option (List Entry) → ServerState → Type 0
Starts None s = Unit {0}
Starts (Some es) s = (are_right es ≡ true) × (s ≡ rebuilt es)

-- the entry n is the first that isn't accepted
abbrev pub IsBadEntry : Option (List Entry) → ℕ → Type 0
IsBadEntry None n = Unit {0}
IsBadEntry (Some es) n = IsBad es n

-- "tlbox: keeper N BadEntry"
abbrev pub bad_entry_line : ℕ → List ℕ
bad_entry_line n = placed_line (codes "keeper") n (codes "BadEntry")

-- sessions from the server that the entries rebuild; or an entry isn't accepted, and nothing listens
abbrev pub OfEntries : Option (List Entry) → List ℕ → SessionsAnswer
OfEntries entries address Is n given moments p a =
    ((s : ServerState) × Starts entries s × OfSessions s address Is n given moments p a) ⊎ ((k : ℕ) × IsBadEntry entries k × (a ≡ refused (bad_entry_line k)))

-- `keep SCHEMA ADDRESS SESSIONS FILE`, over these entries
abbrev pub keep_job : Option (List Entry) → List ℕ → List ℕ → ℕ → Job
keep_job entries schema address n = serving_job schema n (OfEntries entries address)

-- likewise, and the schema's profile is answered only over entries that are told
abbrev pub OfToldEntries : Option (List Entry) → List ℕ → SessionsAnswer
OfToldEntries entries address Is n given moments p a = IsSome entries × OfEntries entries address Is n given moments p a

abbrev pub told_job : Option (List Entry) → List ℕ → List ℕ → ℕ → Job
told_job entries schema address n = serving_job schema n (OfToldEntries entries address)

-- ---- entries

-- sessions from a server on; the link of one failed only where the count of links' faults rose
abbrev pub SessionsBy : Type 0 → ProfileView → ServerState → List (List ℕ) → List ℕ → ℕ → Total → Type 0
SessionsBy link_rose p s given moments n r = Sessions IsWhole p s given moments n r ⊎ (link_rose × Sessions IsAny p s given moments n r)

-- n sessions from a server on were served at an address, which sent what was sent: the entries of their new posts were added, and all rebuild the server
-- after them, its date aside
abbrev pub KeepsSessions : Type 0 → ProfileView → List ℕ → ServerState → ℕ → Option (List Entry) → Option (List Entry) → View → View → Type 0
KeepsSessions link_rose p address s n entries now_entries v w =
    (r : Total) × SessionsBy link_rose p s v.links v.moments n r × (w.written.links ≡ v.written.links ++ r.sent) × (0 < n → w.address ≡ Some address) × (now_entries ≡ with_more r.entries entries) × Tells now_entries r.server

-- so of the first sessions, n at most
abbrev pub KeepsFirst : Type 0 → ProfileView → List ℕ → ServerState → ℕ → Option (List Entry) → Option (List Entry) → View → View → Type 0
KeepsFirst link_rose p address s n entries now_entries v w = (k : ℕ) × (k ≤ n) × KeepsSessions link_rose p address s k entries now_entries v w

-- ---- room

-- there is room for these entries with what each of n sessions from a server on may add to them
abbrev pub RoomForAll : ProfileView → ServerState → ℕ → ℕ → View → List Entry → Type 0
RoomForAll p s n room v es =
    (k : ℕ) → k < n → (r : Total) → Sessions IsAny p s v.links v.moments k r → RoomFor p MAX_FRAMES (dated_at r.server (get_or v.moments k 0)) (Some (get_or v.links k [])) (Some []) room (es ++ r.entries)

-- over an outside that tells its view
abbrev pub RoomOver : Option View → (View → List Entry → Type 0) → List Entry → Type 0
RoomOver None P es = ⊥
RoomOver (Some v) P es = P v es

-- there is room for the entries with what a run may add to them
abbrev pub RoomForRun : List ℕ → ℕ → ℕ → View → List Entry → Type 0
RoomForRun schema n room v es = (h : HasProfile v.files schema) → RoomForAll h.p (rebuilt es) n room v es
