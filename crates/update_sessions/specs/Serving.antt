-- What a server sends for a call, and the server after it.
-- From "Working with Updates" (core.telegram.org/api/updates); the posts, and what a refused one is answered, are this project's own.
use Rattle.std.specs.Prelude.{ℕ, pos, List, [], ◌∷◌, Option, Some, None, Result, Ok, Err}
use Rattle.box_events.specs.declared.requests.Numbered.{Numbered}
use Rattle.box_events.specs.declared.requests.Request.{Request}
use Rattle.box_events.specs.declared.requests.Request.TheVariants as request
use Rattle.box_events.specs.declared.replies.Frame.{Frame}
use Rattle.box_events.specs.declared.replies.Frame.TheVariants.{Push as PushFrame, Reply}
use Rattle.box_events.specs.declared.replies.Reply.TheVariants.{Receipt as ReceiptReply, Error}
use Rattle.box_events.specs.declared.updates.Push.{Push}
use Rattle.box_server.specs.Servers.{ServerState}
use Rattle.box_server.specs.Answers.{answer}
use Rattle.box_server.specs.FaultNames.{name_of}
use Rattle.box_server.specs.Receiving.{post_answer, after_post}
use Rattle.box_server.specs.declared.fault.PostFault.{PostFault}
use Rattle.box_server.specs.declared.posted.Posted.{Posted}
use Rattle.wire_profile.specs.Indexes.{ProfileView}
use Rattle.update_sessions.specs.Packed.{MeansCall, SpellsFrame}
use Rattle.update_sessions.specs.Exchanges.{Side}

-- the push of a new post; a known one has none
abbrev pub push_frames : Option Push → List Frame
push_frames None = []
push_frames (Some p) = PushFrame p ∷ []

-- the receipt and then the push of a post, or the refusal by its name
abbrev pub posted_frames : ℕ → Result Posted PostFault → List Frame
posted_frames n (Ok p) = Reply n (ReceiptReply p.receipt) ∷ push_frames p.push
posted_frames n (Err fault) = Reply n (Error (pos 400) (name_of fault)) ∷ []

abbrev pub sent_for : ServerState → ℕ → Request → List Frame
sent_for s n request.State = Reply n (answer s request.State) ∷ []
sent_for s n (request.Difference pts qts date) = Reply n (answer s (request.Difference pts qts date)) ∷ []
sent_for s n (request.Channel id pts) = Reply n (answer s (request.Channel id pts)) ∷ []
sent_for s n (request.Post random_id posts) = posted_frames n (post_answer s random_id posts)

-- only a post changes a server
abbrev pub after_request : ServerState → Request → ServerState
after_request s request.State = s
after_request s (request.Difference pts qts date) = s
after_request s (request.Channel id pts) = s
after_request s (request.Post random_id posts) = after_post s random_id posts

-- the server's side of an exchange: each call is taken
abbrev pub server_side : ProfileView → Side ServerState Numbered Frame
server_side p = record {
  means = MeansCall p;
  spells = SpellsFrame p;
  takes = λ s c. Unit {0};
  sends = λ s c. sent_for s c.number c.request;
  next = λ s c. after_request s c.request;
}
