-- A client's session comes to its end where the server answers. This project's own.
use Rattle.std.specs.Prelude.{◌≡◌, ◌≤◌, ℕ, List, [], ◌∷◌, length, false}
use Rattle.box_events.specs.declared.replies.Reply.{Reply}
use Rattle.box_client.specs.Asking.{is_one_asking}
use Rattle.box_client.specs.States.{ClientState}
use Rattle.box_world.specs.Agreeing.{Agrees}
use Rattle.box_world.specs.Recovering.{AnswersEach, most_frames}
use Rattle.box_world.specs.Streams.{Doing, Frame, Honest, begun, past_of, told_reply}
use Rattle.headline.specs.Answering.{AreAnswers, session_asks}
use Rattle.headline.specs.CatchingUp.{heard_all}

-- replies by their numbers, as frames
abbrev pub told_replies : List (ℕ × Reply) → List Frame
told_replies [] = []
told_replies (f ∷ fs) = told_reply f.0 f.1 ∷ told_replies fs

-- These replies end a client's session: each is the server's answer to a number that the client asks then, so they are an honest stream; the client asks no
-- more after them, and they are so many at most.
pub record EndsSession (h : List Doing) (c : ClientState) : Type 0 where
  pub replies : List (ℕ × Reply)
  pub answers : AnswersEach (past_of h (length h)).server (begun c) replies
  pub honest : Honest h (begun c) (length h) (told_replies replies)
  pub done : is_one_asking (heard_all (begun c) (told_replies replies)) ≡ false
  pub few : length replies ≤ most_frames (past_of h (length h)) c

-- There are such replies for each client that agrees with the server and asks for nothing yet. So an honest stream that ends a session is there, always.
abbrev pub SessionsEnd : Type 0
SessionsEnd = (h : List Doing) (c : ClientState) → Agrees (past_of h (length h)).server (past_of h (length h)).boxes c → is_one_asking c ≡ false → EndsSession h c

-- The server's answers to all that a client's session asks, in the order in which it asks, end the session: each is to a number that the client asks then, the
-- client asks no more after the last, and they are so many at most.
pub record EndsInOrder (h : List Doing) (c : ClientState) : Type 0 where
  pub replies : List (ℕ × Reply)
  pub answers : AreAnswers (past_of h (length h)).server (session_asks c (told_replies replies)) (told_replies replies)
  pub all : length (session_asks c (told_replies replies)) ≡ length replies
  pub each : AnswersEach (past_of h (length h)).server (begun c) replies
  pub done : is_one_asking (heard_all (begun c) (told_replies replies)) ≡ false
  pub few : length replies ≤ most_frames (past_of h (length h)) c

-- They do for each such client, however many channels it asks for at once.
abbrev pub SessionsEndInOrder : Type 0
SessionsEndInOrder = (h : List Doing) (c : ClientState) → Agrees (past_of h (length h)).server (past_of h (length h)).boxes c → is_one_asking c ≡ false → EndsInOrder h c
