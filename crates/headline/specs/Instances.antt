-- Small cases, each worked out by hand, that a wrong definition would turn round. This project's own.
use Rattle.std.specs.Prelude.{ℕ, pos, List, [], ◌∷◌, codes, true}
use Rattle.box_events.specs.Boxes.{Between}
use Rattle.box_events.specs.Events.{EventView, added, deleted}
use Rattle.box_events.specs.SettingLists.{Dated, Values}
use Rattle.box_events.specs.declared.replies.Reply.TheVariants.{Difference, Empty}
use Rattle.box_events.specs.declared.requests.Post.TheVariants.{Message}
use Rattle.box_events.specs.declared.updates.Push.TheVariants.{Container}
use Rattle.box_events.specs.declared.updates.Update.TheVariants.{Common}
use Rattle.pts_machine.specs.Steps.{new_lane}
use Rattle.pts_machine.specs.Latest.{latest}
use Rattle.pts_machine.specs.SeqStates.{new_settings}
use Rattle.box_server.specs.Servers.{ServerState, new_server}
use Rattle.box_client.specs.States.{ClientState, new_client}
use Rattle.box_world.specs.Agreeing.{Boxes, IsPast}
use Rattle.box_world.specs.Streams.{Doing, Honest, begun, posts, told_push, told_reply}
use Rattle.headline.specs.Answering.{IsUpToDate}
use Rattle.headline.specs.Boxes.{HasBoxes}
use Rattle.headline.specs.CatchingUp.{LastAnswer}

-- ---- a box of two messages

abbrev pub one : EventView
one = added (codes "one")

abbrev pub two : EventView
two = added (codes "second")

abbrev pub box : List EventView
box = one ∷ two ∷ []

-- From 0 to 2 lie both in their order, each once, and nothing else; no number lies within a delete of two ids.
pub record StretchesAreExact : Type 0 where
  pub both : Between box 0 2 (one ∷ two ∷ [])
  pub second : Between box 1 2 (two ∷ [])
  pub lost_second : Between box 0 2 (one ∷ []) → ⊥
  pub lost_first : Between box 0 2 (two ∷ []) → ⊥
  pub turned : Between box 0 2 (two ∷ one ∷ []) → ⊥
  pub twice : Between box 0 2 (one ∷ one ∷ []) → ⊥
  pub changed : Between box 0 2 (one ∷ added (codes "another") ∷ []) → ⊥
  pub short : Between box 0 1 (one ∷ two ∷ []) → ⊥
  pub cut : (xs : List EventView) → Between (deleted (pos 4 ∷ pos 5 ∷ []) ∷ []) 0 1 xs → ⊥

-- ---- a server that has these, and set one key twice

abbrev pub set_to : List ℕ → ℕ → Dated
set_to value date = record { setting = record { key = codes "color"; value = value }; date = date }

abbrev pub server : ServerState
server = record new_server { common = box; settings = set_to (codes "red") 7 ∷ set_to (codes "blue") 8 ∷ [] }

abbrev pub no_channels : Boxes
no_channels id = []

abbrev pub client : List EventView → ℕ → ℕ → Values → ClientState
client events pts seq table = record new_client { common = record new_lane { events = events; at = pts }; settings = record new_settings { at = seq; table = table } }

-- A client that has all, one that is behind, and one that begins have its boxes; one that lost a message doesn't, nor one with another setting than its seq
-- says. Only the first stands past the server, and every client stands past one to which nothing was posted.
pub record ClientsHaveBoxes : Type 0 where
  pub all : HasBoxes server no_channels (client (one ∷ two ∷ []) 2 2 (latest server.settings 2))
  pub behind : HasBoxes server no_channels (client (one ∷ []) 1 1 (latest server.settings 1))
  pub begins : HasBoxes server no_channels new_client
  pub lost_second : HasBoxes server no_channels (client (one ∷ []) 2 2 (latest server.settings 2)) → ⊥
  pub lost_first : HasBoxes server no_channels (client (two ∷ []) 2 2 (latest server.settings 2)) → ⊥
  pub old_setting : HasBoxes server no_channels (client (one ∷ two ∷ []) 2 2 (latest server.settings 1)) → ⊥
  pub new_setting : HasBoxes server no_channels (client (one ∷ two ∷ []) 2 1 (latest server.settings 2)) → ⊥
  pub past_end : HasBoxes server no_channels (client (one ∷ two ∷ []) 2 3 (latest server.settings 3)) → ⊥
  pub up_to_date : IsPast server (client (one ∷ two ∷ []) 2 2 (latest server.settings 2))
  pub one_behind : IsPast server (client (one ∷ []) 1 2 (latest server.settings 2)) → ⊥
  pub seq_behind : IsPast server (client (one ∷ two ∷ []) 2 1 (latest server.settings 1)) → ⊥
  pub not_begun : IsPast server new_client → ⊥
  pub past_nothing : IsPast new_server new_client

-- ---- a history of one post, and what a client may hear of it

abbrev pub history : List Doing
history = posts (pos 9) (Message (codes "one") ∷ []) ∷ []

-- A client asks by the number 1. Honest are the post's push, and the answer by that number, before the post or after it; but no push that nobody posted, no
-- answer that the server doesn't give. By a number that nobody asks anything may come. A client that heard nothing had no last answer, and one that has nothing
-- isn't up to date.
pub record StreamsAreSent : Type 0 where
  pub posted : Honest history (begun new_client) 0 (told_push (Container (Common one 1 ∷ []) 0 0 0) ∷ [])
  pub answered : Honest history (begun new_client) 0 (told_reply 1 (Difference (codes "one" ∷ []) [] [] [] (record { pts = 1; qts = 0; date = 0; seq = 0 }) true) ∷ [])
  pub answered_before : Honest history (begun new_client) 0 (told_reply 1 (Empty 0 0) ∷ [])
  pub unasked : Honest history (begun new_client) 0 (told_reply 2 (Empty 0 5) ∷ [])
  pub made_up : Honest history (begun new_client) 0 (told_push (Container (Common two 1 ∷ []) 0 0 0) ∷ []) → ⊥
  pub misplaced : Honest history (begun new_client) 0 (told_push (Container (Common one 2 ∷ []) 0 0 0) ∷ []) → ⊥
  pub wrong_answer : Honest history (begun new_client) 0 (told_reply 1 (Empty 0 5) ∷ []) → ⊥
  pub nothing_heard : (m : ℕ) → LastAnswer history (begun new_client) m [] → ⊥
  pub not_up_to_date : IsUpToDate history new_client → ⊥
