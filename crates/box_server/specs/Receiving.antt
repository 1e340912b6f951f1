-- What a server answers to a post, and the server after it.
-- This project's own, in the manner of "Working with Updates" (core.telegram.org/api/updates): a random id that was received before is known.
use Rattle.std.specs.Prelude.{◌≡◌, ◌⊎◌, ℤ, List, Option, Some, None, Result, Ok, Err}
use Rattle.std.specs.FinMap as map
use Rattle.box_events.specs.declared.positions.Receipt.{Receipt}
use Rattle.box_events.specs.declared.requests.Post.{Post}
use Rattle.box_server.specs.declared.fault.PostFault.{PostFault}
use Rattle.box_server.specs.declared.fault.PostFault.TheVariants.{Memory}
use Rattle.box_server.specs.declared.posted.Posted.{Posted}
use Rattle.box_server.specs.Servers.{ServerState}
use Rattle.box_server.specs.Posting.{posted, push_of, receipt_of}
use Rattle.box_server.specs.Refusing.{post_cause}

-- a known post has its receipt alone, a refused one its cause, a new one its receipt and the push
abbrev pub answer_by : ServerState → ℤ → List Post → Option Receipt → Option PostFault → Result Posted PostFault
answer_by s random_id posts (Some receipt) cause = Ok (record { receipt = receipt; push = None })
answer_by s random_id posts None (Some cause) = Err cause
answer_by s random_id posts None None = Ok (record { receipt = receipt_of (posted s random_id posts); push = Some (push_of s posts) })

abbrev pub post_answer : ServerState → ℤ → List Post → Result Posted PostFault
post_answer s random_id posts = answer_by s random_id posts (map.get s.receipts random_id) (post_cause s posts)

-- only a new post that isn't refused changes the server
abbrev pub state_by : ServerState → ℤ → List Post → Option Receipt → Option PostFault → ServerState
state_by s random_id posts (Some receipt) cause = s
state_by s random_id posts None (Some cause) = s
state_by s random_id posts None None = posted s random_id posts

abbrev pub after_post : ServerState → ℤ → List Post → ServerState
after_post s random_id posts = state_by s random_id posts (map.get s.receipts random_id) (post_cause s posts)

-- the answer and the server after it; where memory runs out nothing changes
abbrev pub Receives : ServerState → ℤ → List Post → Result Posted PostFault → ServerState → Type 0
Receives s random_id posts result t =
    ((result ≡ Err Memory) × (t ≡ s)) ⊎ ((result ≡ post_answer s random_id posts) × (t ≡ after_post s random_id posts))
