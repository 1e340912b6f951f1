-- A session of `serve` and one of `client` that come to their end together. This project's own.
use Rattle.std.specs.Prelude.{◌≡◌, ℕ, ◌<◌, ◌≤◌, ◌^◌, ℤ, List, [], ◌∷◌, ◌++◌, length, false, Some, IsOk}
use Rattle.std.specs.List.{AllByRecursion}
use Rattle.box_events.specs.declared.limits.TheConstants.{MAX_CHANNELS}
use Rattle.box_events.specs.declared.replies.Frame.{Frame}
use Rattle.box_events.specs.declared.replies.Frame.TheVariants.{Reply}
use Rattle.box_events.specs.declared.requests.Numbered.{Numbered}
use Rattle.channel_box.specs.States.{ids_of}
use Rattle.box_client.specs.Asking.{is_one_asking}
use Rattle.box_client.specs.States.{ClientState}
use Rattle.box_client.specs.declared.loading.TheConstants.{MAX_NEXT}
use Rattle.box_server.specs.Answers.{answer}
use Rattle.box_server.specs.Servers.{ServerState, dated_at}
use Rattle.box_world.specs.Agreeing.{Agrees}
use Rattle.box_world.specs.Streams.{Doing, dates, past_of}
use Rattle.wire_forms.specs.IsOf.{IsLong}
use Rattle.wire_profile.specs.Indexes.{ProfileView}
use Rattle.wire_profile.specs.Profiles.{IsProfile}
use Rattle.update_sessions.specs.declared.fault.TheConstants.{MAX_FRAMES}
use Rattle.session_commands.specs.Client.{HasClient, watch_all}
use Rattle.headline.specs.Ending.{EndsInOrder}
use Rattle.headline.specs.Histories.{HasHistory}
use Rattle.headline.specs.ReadHistories.{WereRead}
use Rattle.headline.specs.TwoPrograms.{Converse}

-- a server's answers to requests, as it sends them
abbrev pub answers_of : ServerState → List Numbered → List Frame
answers_of s [] = []
answers_of s (q ∷ qs) = Reply q.number (answer s q.request) ∷ answers_of s qs

-- a client that has numbers left for its requests, and whose channels fit a file
pub record CanBegin (c : ClientState) : Type 0 where
  pub next : (1 ≤ c.next) × (c.next ≤ MAX_NEXT)
  pub few : length c.channels ≤ MAX_CHANNELS
  pub ids : AllByRecursion IsLong (ids_of c.channels)

-- each client of a state file is one, with the channels that it watches too
abbrev pub LoadedCanBegin : Type 0
LoadedCanBegin = (p : ProfileView) → IsProfile p → (bytes : List ℕ) (channels : List ℤ) (opened c : ClientState) → HasClient p bytes opened → AllByRecursion IsLong channels → watch_all channels opened ≡ Some c → CanBegin c

-- The client agreed with the server, to which each post came as bytes, and asked for nothing. The server's answers in order end its session
-- (SessionsEndInOrder); where they are fewer than a session may have, both programs come to their end over one link.
abbrev pub ConversationsEnd : Type 0
ConversationsEnd =
    (p : ProfileView) → IsProfile p → (h : List Doing) (s : ServerState) (now : ℕ) (c : ClientState) → HasHistory h s → WereRead h → now < 2 ^ 31 → Agrees s (past_of h (length h)).boxes c → is_one_asking c ≡ false → CanBegin c
    → (e : EndsInOrder (h ++ dates now ∷ []) c) → length e.replies < MAX_FRAMES → (d : ClientState) × (m : Converse p s now c (dated_at s now) d) × IsOk m.ended
