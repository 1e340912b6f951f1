-- A state file run after run. This project's own.
use Rattle.std.specs.Prelude.{◌≡◌, ◌≤◌, ℕ, ℤ, List, [], ◌∷◌, ◌++◌, length}
use Rattle.tl_numbers.specs.Bytes.{AreBytes}
use Rattle.box_events.specs.declared.replies.Frame.{Frame}
use Rattle.wire_profile.specs.Indexes.{ProfileView}
use Rattle.wire_profile.specs.Profiles.{IsProfile}
use Rattle.box_client.specs.States.{ClientState}
use Rattle.box_world.specs.Streams.{Doing, Honest, begun}
use Rattle.update_sessions.specs.Honest.{told_all}
use Rattle.headline.specs.Recovered.{Recovers, StateAgrees}

-- a run: its channels, what its link gives, and what was done to the server until its end
pub record ClientRun : Type 0 where
  pub channels : List ℤ
  pub given : List ℕ
  pub saved : List ℕ
  pub frames : List Frame
  pub c : ClientState
  pub d : ClientState
  pub doings : List Doing

-- Runs in turn, each over an honest link to one server: from a state and a history to those after all of them.
abbrev pub ClientRuns : ProfileView → List Doing → List ℕ → List ClientRun → List Doing → List ℕ → Type 0
ClientRuns p h state [] g last = (g ≡ h) × (last ≡ state)
ClientRuns p h state (r ∷ rs) g last =
    Recovers p r.channels state r.given r.saved r.frames r.c r.d × AreBytes r.saved × Honest (h ++ r.doings) (begun r.c) (length h) (told_all r.frames) × ClientRuns p (h ++ r.doings) r.saved rs g last

-- A client that was saved by one run, and loaded by the next, still agrees with the server, however many runs there were. They begin with an empty state.
pub record StatesGoOn : Type 0 where
  pub first : (p : ProfileView) (h : List Doing) (m : ℕ) → StateAgrees p h m []
  pub later : (p : ProfileView) (h : List Doing) (m k : ℕ) (bytes : List ℕ) → m ≤ k → StateAgrees p h m bytes → StateAgrees p h k bytes
  pub runs : (p : ProfileView) → IsProfile p → (h : List Doing) (state : List ℕ) (rs : List ClientRun) (g : List Doing) (last : List ℕ) → AreBytes state → StateAgrees p h (length h) state → ClientRuns p h state rs g last → StateAgrees p g (length g) last
