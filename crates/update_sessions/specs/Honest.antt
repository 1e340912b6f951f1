-- What holds of a client's session where the frames are an honest server's. This project's own.
use Rattle.std.specs.Prelude.{◌≡◌, ℕ, ◌≤◌, List, [], ◌∷◌, ◌++◌, length, false, Result, Err}
use Rattle.box_events.specs.declared.replies.Frame.{Frame}
use Rattle.box_events.specs.declared.replies.Frame.TheVariants.{Push, Reply}
use Rattle.box_server.specs.Servers.{ServerState}
use Rattle.box_client.specs.States.{ClientState}
use Rattle.box_client.specs.Asking.{is_one_asking}
use Rattle.box_world.specs.Agreeing.{Agrees}
use Rattle.box_world.specs.Streams as streams
use Rattle.box_world.specs.Streams.{Doing, past_of, begun, Honest, heard_frame, told_push, told_reply}
use Rattle.box_world.specs.Recovering.{AnswersAsked, most_frames}
use Rattle.wire_profile.specs.Indexes.{ProfileView}
use Rattle.update_sessions.specs.declared.fault.SessionFault.{SessionFault}
use Rattle.update_sessions.specs.declared.fault.SessionFault.TheVariants.{Client}
use Rattle.update_sessions.specs.Heard.{Hears}

-- frames as those of a stream
abbrev pub told : Frame → streams.Frame
told (Push p) = told_push p
told (Reply n r) = told_reply n r

abbrev pub told_all : List Frame → List streams.Frame
told_all [] = []
told_all (f ∷ fs) = told f ∷ told_all fs

abbrev pub IsNoClientFault : Result ℕ SessionFault → Type 0
IsNoClientFault (Err (Client fault)) = ⊥
IsNoClientFault result = Unit {0}

-- where the client agrees with a server as it was, and the frames are honest from then on, it agrees at the end with the server after all of its
-- history, and has refused nothing
abbrev pub StaysHonest : ClientState → List Frame → ClientState → Result ℕ SessionFault → Type 0
StaysHonest c fs d result =
    (h : List Doing) (m : ℕ) → m ≤ length h → Agrees (past_of h m).server (past_of h m).boxes c → Honest h (begun c) m (told_all fs)
    → Agrees (past_of h (length h)).server (past_of h (length h)).boxes d × IsNoClientFault result

-- each frame is a reply to a number that is asked then, and the server's answer
abbrev pub AnswersAll : ServerState → ClientState → List Frame → Type 0
AnswersAll s c [] = Unit {0}
AnswersAll s c (Push p ∷ fs) = ⊥
AnswersAll s c (Reply n r ∷ fs) = AnswersAsked s c n r × AnswersAll s (heard_frame c (told_reply n r)) fs

-- where the client agrees with a server that doesn't change, asks for nothing at first, and gets that server's answers alone, they are so many at most
abbrev pub StaysShort : ClientState → List Frame → Type 0
StaysShort c fs =
    (h : List Doing) (m : ℕ) → Agrees (past_of h m).server (past_of h m).boxes c → is_one_asking c ≡ false → AnswersAll (past_of h m).server (begun c) fs → length fs ≤ most_frames (past_of h m) c

-- a session over these bytes, with the frames that it took and the one that it refused, if there is one
pub record HearsHonestly (p : ProfileView) (c : ClientState) (bytes out : List ℕ) (d : ClientState) (result : Result ℕ SessionFault) : Type 0 where
  pub frames : List Frame
  pub last : List Frame
  pub hears : Hears p c bytes out d result frames last
  pub honest : StaysHonest c (frames ++ last) d result
  pub short : StaysShort c frames
