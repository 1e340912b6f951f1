-- Laws of the frames of a sound server and of the calls of a client. This project's own.
use Rattle.std.specs.Prelude.{◌≡◌, ℕ, ℤ, pos, ◌+◌, ◌<◌, ◌≤◌, ◌^◌, List, [], ◌∷◌, length, None, Ok}
use Rattle.std.specs.List.{All}
use Rattle.box_events.specs.declared.limits.TheConstants.{MAX_ASKS, MAX_CHANNELS}
use Rattle.box_events.specs.declared.requests.Post.{Post}
use Rattle.box_events.specs.declared.requests.Request.{Request}
use Rattle.box_events.specs.declared.positions.Receipt.{Receipt}
use Rattle.box_events.specs.declared.replies.Frame.{Frame}
use Rattle.box_events.specs.declared.replies.Frame.TheVariants.{Push, Reply}
use Rattle.box_events.specs.declared.replies.Reply.{Reply as SomeReply}
use Rattle.box_events.specs.declared.replies.Reply.TheVariants.{Error, Receipt as ReceiptReply}
use Rattle.box_events.specs.declared.saved.Saved.{Saved}
use Rattle.box_events.specs.declared.updates.Push.{Push as SomePush}
use Rattle.box_events.specs.declared.updates.Push.TheVariants.{TooLong, Container}
use Rattle.box_events.specs.declared.updates.Update.TheVariants.{ChannelTooLong}
use Rattle.box_server.specs.declared.fault.PostFault.{PostFault}
use Rattle.box_server.specs.FaultNames.{name_of}
use Rattle.box_server.specs.Servers.{ServerState, dated_at, new_server}
use Rattle.box_server.specs.Receiving.{after_post, post_answer}
use Rattle.box_server.specs.declared.posted.Posted.{Posted}
use Rattle.box_server.specs.Sound.{IsSound}
use Rattle.box_server.specs.Answers.{answer, IsAnswered}
use Rattle.box_server.specs.Posting.{push_of}
use Rattle.box_server.specs.Refusing.{post_cause}
use Rattle.box_client.specs.States.{ClientState, new_client}
use Rattle.box_client.specs.Pushes.{pushed}
use Rattle.box_client.specs.Saving.{client_loaded, load_cause, saved_of}
use Rattle.box_client.specs.Replies.{becomes, replied}
use Rattle.box_client.specs.Asking.{restarted, ticks, wakes}
use Rattle.channel_box.specs.Steps.{watched}
use Rattle.box_client.specs.Ranges.{IsSavedInRange}
use Rattle.wire_forms.specs.IsOf.{IsLong}
use Rattle.wire_values.specs.Carried.{FitsPost, FitsSaved, IsSaved}
use Rattle.wire_values.specs.CarriedFrames.{FitsFrame, FitsPush, FitsReceipt, FitsReply, IsFrame, IsWord}
use Rattle.wire_values.specs.Frames.{frame_tree}
use Rattle.wire_values.specs.SavedClients.{saved_tree}
use Rattle.wire_profile.specs.Indexes.{ProfileView}
use Rattle.wire_profile.specs.Profiles.{IsProfile}
use Rattle.box_wire.specs.Framing.{Means}
use Rattle.box_wire.specs.Kinds.{frames, saved_clients}
use Rattle.box_events.specs.declared.steps.Step.{Step}
use Rattle.box_world.specs.Worlds.{run}
use Rattle.box_world.specs.Sizes.{call_size, frame_size}
use Rattle.box_world.specs.Dated.{IsDatedClient, IsDatedFrame, IsDatedPush, IsDatedReply}
use Rattle.box_world.specs.Fitting.{CallFits, FrameFits, IsHearable, IsNumber}
use Rattle.box_world.specs.Spelled.{FitsClient, FitsServer, IsNarrow}
use Rattle.box_world.specs.SpelledWorlds.{FitsWorld, IsStep}
use Rattle.box_world.specs.Sums.{IsBelow, most_of_answer, most_of_push}

-- ---- what is sent is read as it was spelled

-- the push of posts that are taken
abbrev pub PushesFit : Type 0
PushesFit = (s : ServerState) (posts : List Post) → IsSound s → post_cause s posts ≡ None → FrameFits (Push (push_of s posts))

-- each answer to a number
abbrev pub AnswersFit : Type 0
AnswersFit = (s : ServerState) (n : ℕ) (r : Request) → IsSound s → IsNumber n → IsAnswered r → FrameFits (Reply n (answer s r))

-- that more is new than a push would carry, of all boxes or of a channel's
abbrev pub WarningsFit : Type 0
WarningsFit = (id : ℤ) (date : ℕ) → date < 2 ^ 31 → FrameFits (Push TooLong) × FrameFits (Push (Container (ChannelTooLong id ∷ []) date 0 0))

-- what a client asks in a tick
abbrev pub AsksFit : Type 0
AsksFit =
    (c : ClientState) → 1 ≤ c.next → c.next + MAX_ASKS < 2 ^ 31 → c.settings.date < 2 ^ 31 → length c.channels ≤ MAX_CHANNELS
    → All CallFits (ticks c).asks

-- ---- what is sent has no more bytes than a frame may have

abbrev pub PushesAreBelow : Type 0
PushesAreBelow = (s : ServerState) (posts : List Post) → IsSound s → post_cause s posts ≡ None → IsBelow most_of_push (frame_size (Push (push_of s posts)))

abbrev pub AnswersAreBelow : Type 0
AnswersAreBelow = (s : ServerState) (n : ℕ) (r : Request) → IsSound s → IsBelow most_of_answer (frame_size (Reply n (answer s r)))

-- both warnings, a post's receipt, and its refusal by name
abbrev pub WarningsAreBelow : Type 0
WarningsAreBelow = (id : ℤ) (date : ℕ) → (frame_size (Push TooLong) ≡ 8) × (frame_size (Push (Container (ChannelTooLong id ∷ []) date 0 0)) ≡ 36)

abbrev pub ReceiptsAreBelow : Type 0
ReceiptsAreBelow = (n : ℕ) (receipt : Receipt) → frame_size (Reply n (ReceiptReply receipt)) ≡ 24

abbrev pub RefusalsAreBelow : Type 0
RefusalsAreBelow = (n : ℕ) (fault : PostFault) → frame_size (Reply n (Error (pos 400) (name_of fault))) ≤ 80

-- what a client asks
abbrev pub AsksAreBelow : Type 0
AsksAreBelow = (c : ClientState) → All (λ n. call_size n ≡ 24) (ticks c).asks

-- ---- what is read is taken

-- each frame that bytes mean is in the range of a client's calls
abbrev pub ReadFramesAreTaken : Type 0
ReadFramesAreTaken = (p : ProfileView) → IsProfile p → (f : Frame) (b : List ℕ) → IsFrame f → Means p frames (frame_tree f) b → IsHearable f

-- and so is each saved client
abbrev pub ReadClientsAreTaken : Type 0
ReadClientsAreTaken = (p : ProfileView) → IsProfile p → (s : Saved) (b : List ℕ) → IsSaved s → Means p saved_clients (saved_tree s) b → IsSavedInRange s

-- their dates are below 2^31
abbrev pub ReadFramesAreDated : Type 0
ReadFramesAreDated = (p : ProfileView) → IsProfile p → (f : Frame) (b : List ℕ) → IsFrame f → Means p frames (frame_tree f) b → IsDatedFrame f

abbrev pub ReadClientsAreDated : Type 0
ReadClientsAreDated = (p : ProfileView) → IsProfile p → (s : Saved) (b : List ℕ) → IsSaved s → Means p saved_clients (saved_tree s) b → s.date < 2 ^ 31

-- and with them a client's stay so, which is what its requests want
pub record ClientsStayDated : Type 0 where
  pub new : IsDatedClient new_client
  pub push : (c : ClientState) (p : SomePush) → IsDatedClient c → IsDatedPush p → IsDatedClient (pushed c p)
  pub reply : (c : ClientState) (n : ℕ) (r : SomeReply) (d : ClientState) → IsDatedClient c → IsDatedReply r → replied c n r ≡ becomes d → IsDatedClient d
  pub tick : (c : ClientState) → IsDatedClient c → IsDatedClient (ticks c).client
  pub wake : (c : ClientState) → IsDatedClient c → IsDatedClient (wakes c)
  pub restart : (c : ClientState) → IsDatedClient c → IsDatedClient (restarted c)
  pub watch : (c : ClientState) (id : ℤ) → IsDatedClient c → IsDatedClient (record c { channels = watched c.channels id })
  pub loaded : (s : Saved) → s.date < 2 ^ 31 → IsDatedClient (client_loaded s)

-- ---- what has a spelling

-- a server keeps a spelling for each of its parts
pub record ServersKeepSpellings : Type 0 where
  pub new : FitsServer new_server
  pub date : (s : ServerState) (date : ℕ) → FitsServer s → FitsServer (dated_at s date)
  pub post : (s : ServerState) (random_id : ℤ) (posts : List Post) → FitsServer s → IsSound s → All FitsPost posts → FitsServer (after_post s random_id posts)

-- and so does a client through what it hears and does by itself
pub record ClientsKeepSpellings : Type 0 where
  pub new : FitsClient new_client
  pub push : (c : ClientState) (p : SomePush) → FitsClient c → FitsPush p → FitsClient (pushed c p)
  pub reply : (c : ClientState) (n : ℕ) (r : SomeReply) (d : ClientState) → FitsClient c → FitsReply r → replied c n r ≡ becomes d → FitsClient d
  pub tick : (c : ClientState) → FitsClient c → FitsClient (ticks c).client
  pub wake : (c : ClientState) → FitsClient c → FitsClient (wakes c)
  pub restart : (c : ClientState) → FitsClient c → FitsClient (restarted c)
  pub watch : (c : ClientState) (id : ℤ) → FitsClient c → IsLong id → FitsClient (record c { channels = watched c.channels id })

-- what is saved of such a client has one, where its numbers and lists fit the format; and such a client is loaded of what has one
abbrev pub ClientsAreSaved : Type 0
ClientsAreSaved = (c : ClientState) → FitsClient c → IsNarrow c → FitsSaved (saved_of c)

abbrev pub LoadedHaveSpellings : Type 0
LoadedHaveSpellings = (s : Saved) → FitsSaved s → load_cause s ≡ None → FitsClient (client_loaded s)

-- each frame that such a server sends has one: a push,
abbrev pub PushesHaveSpellings : Type 0
PushesHaveSpellings = (s : ServerState) (posts : List Post) → IsSound s → All FitsPost posts → post_cause s posts ≡ None → FitsFrame (Push (push_of s posts))

-- an answer to a number,
abbrev pub AnswersHaveSpellings : Type 0
AnswersHaveSpellings = (s : ServerState) (n : ℕ) (r : Request) → FitsServer s → IsSound s → IsWord n → FitsFrame (Reply n (answer s r))

-- the receipt of a post, the refusal of one by name,
abbrev pub ReceiptsHaveSpellings : Type 0
ReceiptsHaveSpellings = (s : ServerState) (random_id : ℤ) (posts : List Post) (a : Posted) → FitsServer s → IsSound s → post_answer s random_id posts ≡ Ok a → FitsReceipt a.receipt

abbrev pub RefusalsHaveSpellings : Type 0
RefusalsHaveSpellings = (n : ℕ) (fault : PostFault) → IsWord n → FitsFrame (Reply n (Error (pos 400) (name_of fault)))

-- and both warnings
abbrev pub WarningsHaveSpellings : Type 0
WarningsHaveSpellings = (id : ℤ) (date : ℕ) → IsLong id → IsWord date → FitsFrame (Push TooLong) × FitsFrame (Push (Container (ChannelTooLong id ∷ []) date 0 0))

-- a world after steps that were read has parts and packets with a spelling, while its packets are fewer than 2^32
abbrev pub RunsFit : Type 0
RunsFit = (n : ℕ) (steps : List Step) → All IsStep steps → length (run n steps).pool < 2 ^ 32 → FitsWorld (run n steps)
