-- What holds of sessions of a server whose posts are kept. This project's own.
use Rattle.std.specs.Prelude.{◌≡◌, ◌<◌, ◌≤◌, ◌^◌, ℕ, List, ◌++◌, Result}
use Rattle.box_events.specs.declared.requests.Numbered.{Numbered}
use Rattle.box_server.specs.Servers.{ServerState, dated_at}
use Rattle.box_server.specs.declared.entry.Entry.{Entry}
use Rattle.box_server.specs.Rebuilding.{Rebuilds}
use Rattle.wire_profile.specs.Indexes.{ProfileView}
use Rattle.update_sessions.specs.declared.fault.SessionFault.{SessionFault}
use Rattle.update_sessions.specs.Exchanges.{after_all}
use Rattle.update_sessions.specs.Kept.{kept_in}
use Rattle.update_sessions.specs.Served.{Serves}
use Rattle.update_sessions.specs.Serving.{server_side}

-- entries with what calls add rebuild the server after these
abbrev pub CallsAreKept : Type 0
CallsAreKept =
    (p : ProfileView) (es : List Entry) (s : ServerState) (now : ℕ) (cs : List Numbered) → s.date < 2 ^ 31 → now < 2 ^ 31 → Rebuilds es s
    → Rebuilds (es ++ kept_in (dated_at s now) cs) (after_all (server_side p) (dated_at s now) cs)

-- servers that the same entries rebuild serve alike from a date on that is past theirs
abbrev pub RebuiltServeAlike : Type 0
RebuiltServeAlike =
    (p : ProfileView) (es : List Entry) (s u : ServerState) (now : ℕ) (bytes out : List ℕ) (t : ServerState) (r : Result ℕ SessionFault) (cs : List Numbered)
    → Rebuilds es s → Rebuilds es u → s.date ≤ now → u.date ≤ now → Serves p (dated_at s now) bytes out t r cs → Serves p (dated_at u now) bytes out t r cs

-- no session changes the server's date
abbrev pub SessionsKeepDates : Type 0
SessionsKeepDates = (p : ProfileView) (s : ServerState) (bytes out : List ℕ) (t : ServerState) (r : Result ℕ SessionFault) (cs : List Numbered) → Serves p s bytes out t r cs → t.date ≡ s.date
