-- The server after sessions of `serve`, or after runs of `keep`, is one with a history, and the same history goes on. This project's own.
use Rattle.std.specs.Prelude.{◌≡◌, ℕ, ◌<◌, ◌≤◌, ◌^◌, List, [], ◌∷◌, ◌++◌, length, get_or}
use Rattle.tl_numbers.specs.Bytes.{ListsOfBytes}
use Rattle.box_server.specs.Servers.{ServerState, dated_at, new_server}
use Rattle.box_server.specs.Sound.{IsSound}
use Rattle.box_server.specs.declared.entry.Entry.{Entry}
use Rattle.box_server.specs.Rebuilding.{Rebuilds, rebuilt}
use Rattle.box_world.specs.Streams.{Doing, dates, past_of, posts}
use Rattle.wire_profile.specs.Indexes.{ProfileView}
use Rattle.wire_profile.specs.Profiles.{IsProfile}
use Rattle.session_commands.specs.Serve.{IsAny, Sessions, Total}
use Rattle.headline.specs.ReadHistories.{WereRead}

-- the dates of a history are of 31 bits
abbrev pub AreDated : List Doing → Type 0
AreDated [] = Unit {0}
AreDated (posts random_id ps ∷ h) = AreDated h
AreDated (dates date ∷ h) = (date < 2 ^ 31) × AreDated h

-- this is the server after all of a history
pub record HasHistory (h : List Doing) (s : ServerState) : Type 0 where
  pub dated : AreDated h
  pub is : s ≡ (past_of h (length h)).server

-- a server has the history, and is the one that is there as a session begins, its date aside
abbrev pub IsThere : List Doing → ServerState → ServerState → ℕ → Type 0
IsThere h s t now = HasHistory h s × (dated_at s now ≡ dated_at t now)

-- servers with a history are sound, and that to which nothing was posted is one
pub record HistoriesAreSound : Type 0 where
  pub first : HasHistory [] new_server
  pub sound : (h : List Doing) (s : ServerState) → HasHistory h s → IsSound s

-- moments of 31 bits
abbrev pub AreMoments : List ℕ → Type 0
AreMoments moments = (i : ℕ) → get_or moments i 0 < 2 ^ 31

-- Sessions of `serve`, however each of them ended, a link's fault among the ends: its server has had this history, and has more of it after them. Where what
-- came was of bytes, so were the posts in it.
abbrev pub SessionsGoOn : Type 0
SessionsGoOn =
    (p : ProfileView) (h : List Doing) (s : ServerState) (given : List (List ℕ)) (moments : List ℕ) (k : ℕ) (r : Total) → HasHistory h s → AreMoments moments → Sessions IsAny p s given moments k r
    → (more : List Doing) × HasHistory (h ++ more) r.server × (IsProfile p × ListsOfBytes given → WereRead more)

-- The same of a run of `keep`, whose entries rebuild that server, its date aside: where the clock doesn't show less than that date.
abbrev pub KeptRunsGoOn : Type 0
KeptRunsGoOn =
    (p : ProfileView) (h : List Doing) (s : ServerState) (es : List Entry) (given : List (List ℕ)) (moments : List ℕ) (k : ℕ) (r : Total) → HasHistory h s → Rebuilds es s → AreMoments moments → s.date ≤ get_or moments 0 0
    → Sessions IsAny p (rebuilt es) given moments k r → Rebuilds (es ++ r.entries) r.server → (more : List Doing) × (t : ServerState) × HasHistory (h ++ more) t × Rebuilds (es ++ r.entries) t × (IsProfile p × ListsOfBytes given → WereRead more)
