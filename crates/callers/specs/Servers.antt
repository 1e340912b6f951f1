-- A server that takes posts and answers. This project's own.
use Rattle.std.specs.Prelude.{◌≡◌, ◌⊎◌, ℤ, List, Result, Ok, Err}
use Rattle.box_events.specs.declared.requests.Post.{Post}
use Rattle.box_events.specs.declared.requests.Request.{Request}
use Rattle.box_events.specs.declared.replies.Reply.{Reply}
use Rattle.box_server.specs.Answers.{answer}
use Rattle.box_server.specs.Receiving.{after_post, post_answer}
use Rattle.box_server.specs.Servers.{ServerState, dated_at}
use Rattle.box_server.specs.declared.fault.PostFault.{PostFault}
use Rattle.box_server.specs.declared.fault.PostFault.TheVariants.{Memory}
use Rattle.box_server.specs.declared.posted.Posted.{Posted}

-- The posts are taken at the date, and the request is answered by the server after them; or they are refused for their cause. Out of memory is free.
abbrev pub PostsAndAnswers : ServerState → ℤ → List Post → Request → Result (Posted × Reply) PostFault → ServerState → Type 0
PostsAndAnswers dated random_id posts request (Ok p) t = (Ok p.0 ≡ post_answer dated random_id posts) × (t ≡ after_post dated random_id posts) × (p.1 ≡ answer t request)
PostsAndAnswers dated random_id posts request (Err fault) t = (fault ≡ Memory) ⊎ ((Err fault ≡ post_answer dated random_id posts) × (t ≡ after_post dated random_id posts))
