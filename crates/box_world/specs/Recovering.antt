-- How many frames a client reads until it stands at the end of a server that doesn't change. This project's own.
use Rattle.std.specs.Prelude.{◌≡◌, ◌≤◌, ℕ, ◌+◌, ◌-◌, min, List, [], ◌∷◌, length, false, Some}
use Rattle.box_events.specs.declared.limits.TheConstants.{MAX_BEHIND}
use Rattle.box_events.specs.declared.requests.Request.{Request}
use Rattle.box_events.specs.declared.replies.Reply.{Reply}
use Rattle.box_events.specs.Boxes.{ending}
use Rattle.channel_box.specs.States.{ChannelState}
use Rattle.box_server.specs.Servers.{ServerState}
use Rattle.box_server.specs.Answers.{answer}
use Rattle.box_client.specs.States.{ClientState}
use Rattle.box_client.specs.Asking.{is_one_asking}
use Rattle.box_world.specs.Agreeing.{Boxes, Agrees}
use Rattle.box_world.specs.Streams.{Doing, Past, past_of, told_reply, heard_frame, begun, asked_by}

-- a reply to a number that is asked is the server's answer
abbrev pub AnswersAsked : ServerState → ClientState → ℕ → Reply → Type 0
AnswersAsked s c n v = (r : Request) × (asked_by c n ≡ Some r) × (v ≡ answer s r)

-- each frame is the server's answer to a number that the client asks then
abbrev pub AnswersEach : ServerState → ClientState → List (ℕ × Reply) → Type 0
AnswersEach s c [] = Unit {0}
AnswersEach s c (f ∷ fs) = AnswersAsked s c f.0 f.1 × AnswersEach s (heard_frame c (told_reply f.0 f.1)) fs

-- for each channel one frame more than the numbers that it is behind, or than those from which on it begins anew
abbrev pub most_of_channels : Boxes → List ChannelState → ℕ
most_of_channels boxes [] = 0
most_of_channels boxes (d ∷ ds) = (min (ending (boxes d.id) - d.lane.at) MAX_BEHIND + 1) + most_of_channels boxes ds

abbrev pub most_frames : Past → ClientState → ℕ
most_frames p c = (ending p.server.common - c.common.at) + (ending p.server.secret - c.secret.at) + 1 + most_of_channels p.boxes c.channels

-- a client that agrees with a server and asks for nothing yet reads so many answers at most
abbrev pub FramesAreBounded : Type 0
FramesAreBounded = (h : List Doing) (m : ℕ) (c : ClientState) (frames : List (ℕ × Reply)) → Agrees (past_of h m).server (past_of h m).boxes c → is_one_asking c ≡ false → AnswersEach (past_of h m).server (begun c) frames
    → length frames ≤ most_frames (past_of h m) c
