-- What a client has of a server's boxes, and what a finished difference reaches. This project's own.
use Rattle.std.specs.Prelude.{◌≡◌, ◌≤◌, ℕ, ℤ, List, [], ◌∷◌, ◌++◌, length, true, false, Some, slice_get}
use Rattle.box_events.specs.Boxes.{Between}
use Rattle.box_events.specs.Events.{EventView}
use Rattle.box_events.specs.declared.replies.ChannelReply.{ChannelReply}
use Rattle.box_events.specs.declared.replies.Reply.TheVariants.{Channel}
use Rattle.box_events.specs.declared.requests.Numbered.{Numbered}
use Rattle.box_events.specs.declared.steps.Step.{Step}
use Rattle.box_events.specs.declared.steps.Step.TheVariants.{Hear, Serve}
use Rattle.pts_machine.specs.Latest.{latest}
use Rattle.channel_box.specs.States.{ChannelState, first}
use Rattle.channel_box.specs.Steps.{asks_number, is_asking}
use Rattle.box_server.specs.Answers.{answer}
use Rattle.box_server.specs.Servers.{ServerState, channel_end, channel_in}
use Rattle.box_client.specs.States.{ClientState}
use Rattle.box_world.specs.Agreeing.{Boxes, Each, IsPast, IsRecent, is_final, is_last_part}
use Rattle.box_world.specs.Reached.{boxes_of}
use Rattle.box_world.specs.Worlds.{request, run}
use Rattle.headline.specs.Forward.{GoesForward, IsWhole}

-- A channel's events are what lies in its whole box from its restart to its pts, each once; and its recent messages are the last that stood before the restart.
pub record HasChannel (box : List EventView) (d : ChannelState) : Type 0 where
  pub events : Between box d.lane.restart d.lane.at d.lane.events
  pub recent : IsRecent box d

-- A client's events are what lies in the server's boxes from its restarts to its pts and qts, each once, and its settings are the server's latest at its seq.
pub record HasBoxes (s : ServerState) (boxes : Boxes) (c : ClientState) : Type 0 where
  pub common : Between s.common c.common.restart c.common.at c.common.events
  pub secret : Between s.secret c.secret.restart c.secret.at c.secret.events
  pub channels : Each (λ d. HasChannel (boxes d.id) d) c.channels
  pub seq : c.settings.at ≤ length s.settings
  pub settings : c.settings.table ≡ latest s.settings c.settings.at

-- Among these steps the server, as `s`, answers request q of client k, and the client hears that answer later: it is c before and d after that.
pub record HearsAnswer (n : ℕ) (steps : List Step) (k : ℕ) (q : Numbered) (s : ServerState) (c d : ClientState) : Type 0 where
  pub early : List Step
  pub later : List Step
  pub rest : List Step
  pub j : ℕ
  pub parts : steps ≡ early ++ Serve j ∷ (later ++ Hear k (length (run n early).pool) ∷ rest)
  pub asked : slice_get (run n early).pool j ≡ Some (request k q)
  pub server : s ≡ (run n early).server
  pub before : slice_get (run n (early ++ Serve j ∷ later)).clients k ≡ Some c
  pub after : slice_get (run n (early ++ Serve j ∷ (later ++ Hear k (length (run n early).pool) ∷ []))).clients k ≡ Some d

-- With the last part of a difference that the client still asks for it stands at or past where the server was that answered, then and after all of the steps.
abbrev pub FinishedReach : ℕ → List Step → Type 0
FinishedReach n steps = (k : ℕ) (q : Numbered) (s : ServerState) (c d : ClientState) → HearsAnswer n steps k q s c d → is_final (answer s q.request) ≡ true → is_asking q.number c.common.mode ≡ true
    → IsPast s d × ((x : ClientState) → slice_get (run n steps).clients k ≡ Some x → IsPast s x)

-- a channel of this id among these stands at or past where the server's was
abbrev pub IsChannelPast : ServerState → ℤ → List ChannelState → Type 0
IsChannelPast s id ds = (i : ℕ) × (f : ChannelState) × (slice_get ds i ≡ Some f) × (f.id ≡ id) × (channel_end (channel_in s.channels id) ≤ f.lane.at)

-- The same of a channel's.
abbrev pub FinishedChannelsReach : ℕ → List Step → Type 0
FinishedChannelsReach n steps =
    (k : ℕ) (q : Numbered) (s : ServerState) (c d : ClientState) (v : ChannelReply) (e : ChannelState) → HearsAnswer n steps k q s c d → answer s q.request ≡ Channel v → is_last_part v ≡ true → is_asking q.number c.common.mode ≡ false
    → first (asks_number q.number) c.channels ≡ Some e → IsChannelPast s e.id d.channels × ((x : ClientState) → slice_get (run n steps).clients k ≡ Some x → IsChannelPast s e.id x.channels)

-- a client at a moment, and the same client after further steps
abbrev pub ClientsGoForward : Type 0
ClientsGoForward = (n : ℕ) (steps later : List Step) (k : ℕ) (c : ClientState) → slice_get (run n steps).clients k ≡ Some c
    → (d : ClientState) × (slice_get (run n (steps ++ later)).clients k ≡ Some d) × GoesForward c d

-- After every list of steps.
pub record RunsKeepBoxes : Type 0 where
  pub boxes : (n : ℕ) (steps : List Step) (k : ℕ) (c : ClientState) → slice_get (run n steps).clients k ≡ Some c → HasBoxes (run n steps).server (boxes_of (run n steps)) c
  pub whole : (n : ℕ) (steps : List Step) (k : ℕ) (c : ClientState) → slice_get (run n steps).clients k ≡ Some c → IsWhole c
  pub forward : ClientsGoForward
  pub finished : (n : ℕ) (steps : List Step) → FinishedReach n steps
  pub channels_finished : (n : ℕ) (steps : List Step) → FinishedChannelsReach n steps
