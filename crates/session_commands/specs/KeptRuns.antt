-- Runs of `keep` one after the other on one keeper, and one run of `serve` over all their sessions. This project's own.
use Rattle.std.specs.Prelude.{◌≡◌, ℕ, ◌<◌, ◌≤◌, List, [], ◌∷◌, ◌++◌, length, get_or}
use Rattle.box_server.specs.Servers.{new_server}
use Rattle.box_server.specs.declared.entry.Entry.{Entry}
use Rattle.box_server.specs.Rebuilding.{Rebuilds, rebuilt}
use Rattle.wire_profile.specs.Indexes.{ProfileView}
use Rattle.session_commands.specs.Serve.{IsWhole, Sessions, Total}

-- a run: what its links give, the moments of its sessions, and what these came to
pub record KeptRun : Type 0 where
  pub given : List (List ℕ)
  pub moments : List ℕ
  pub total : Total

-- Runs in turn, from these entries to those: each serves from the server that the entries rebuild, over links that don't fail, and the entries of its new
-- posts are added, with which they rebuild the server in which it ends.
abbrev pub Runs : ProfileView → List Entry → List KeptRun → List Entry → Type 0
Runs p es [] fs = es ≡ fs
Runs p es (r ∷ rs) fs =
    (length r.moments ≡ length r.given) × Sessions IsWhole p (rebuilt es) r.given r.moments (length r.given) r.total × Rebuilds (es ++ r.total.entries) r.total.server × Runs p (es ++ r.total.entries) rs fs

abbrev pub all_given : List KeptRun → List (List ℕ)
all_given [] = []
all_given (r ∷ rs) = r.given ++ all_given rs

abbrev pub all_moments : List KeptRun → List ℕ
all_moments [] = []
all_moments (r ∷ rs) = r.moments ++ all_moments rs

abbrev pub all_sent : List KeptRun → List (List ℕ)
all_sent [] = []
all_sent (r ∷ rs) = r.total.sent ++ all_sent rs

-- moments don't fall
abbrev pub NeverFall : List ℕ → Type 0
NeverFall ms = (i k : ℕ) → i ≤ k → k < length ms → get_or ms i 0 ≤ get_or ms k 0

-- Runs on a keeper that had no entries are as one run of `serve` over all their sessions: the same is sent over each link, and the entries rebuild the
-- server in which it ends.
abbrev pub RunsAreOne : Type 0
RunsAreOne =
    (p : ProfileView) (rs : List KeptRun) (fs : List Entry) → NeverFall (all_moments rs) → Runs p [] rs fs
    → (t : Total) × Sessions IsWhole p new_server (all_given rs) (all_moments rs) (length (all_given rs)) t × (t.sent ≡ all_sent rs) × Rebuilds fs t.server
