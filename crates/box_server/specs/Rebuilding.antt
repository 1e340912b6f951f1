-- Which lists of entries are right, and which server they rebuild. This project's own.
use Rattle.std.specs.Prelude.{◌≡◌, ℕ, ℤ, ◌+◌, ◌<◌, ◌^◌, List, [], ◌∷◌, length, take, Bool, true, false, ◌&&◌, leb, ltb, Option, Some, None}
use Rattle.std.specs.FinMap as map
use Rattle.box_events.specs.declared.positions.Receipt.{Receipt}
use Rattle.box_events.specs.declared.requests.Post.{Post}
use Rattle.box_server.specs.declared.fault.PostFault.{PostFault}
use Rattle.box_server.specs.Servers.{ServerState, new_server, dated_at}
use Rattle.box_server.specs.Receiving.{after_post}
use Rattle.box_server.specs.Refusing.{post_cause}
use Rattle.box_server.specs.declared.entry.Entry.{Entry}

-- a server takes posts as new: their id isn't known, and there is no cause to refuse them
abbrev pub is_new_by : Option Receipt → Option PostFault → Bool
is_new_by (Some receipt) cause = false
is_new_by None (Some cause) = false
is_new_by None None = true

abbrev pub is_new : ServerState → ℤ → List Post → Bool
is_new s random_id posts = is_new_by (map.get s.receipts random_id) (post_cause s posts)

-- a server accepts an entry: it isn't dated before the server, its date is below 2^31, and with the date set its posts are taken as new
abbrev pub is_accepted : ServerState → Entry → Bool
is_accepted s e = leb s.date e.date && ltb e.date (2 ^ 31) && is_new (dated_at s e.date) e.random_id e.posts

-- the server after an entry: its date is set, and its posts are posted
abbrev pub with_entry : ServerState → Entry → ServerState
with_entry s e = after_post (dated_at s e.date) e.random_id e.posts

abbrev pub rebuilt_from : ServerState → List Entry → ServerState
rebuilt_from s [] = s
rebuilt_from s (e ∷ es) = rebuilt_from (with_entry s e) es

-- the server that entries rebuild, from the empty one
abbrev pub rebuilt : List Entry → ServerState
rebuilt es = rebuilt_from new_server es

abbrev pub are_right_from : ServerState → List Entry → Bool
are_right_from s [] = true
are_right_from s (e ∷ es) = is_accepted s e && are_right_from (with_entry s e) es

-- entries are right: each is accepted in its turn
abbrev pub are_right : List Entry → Bool
are_right es = are_right_from new_server es

-- entry n is the first that isn't accepted
pub record IsBad (es : List Entry) (n : ℕ) : Type 0 where
  pub there : n < length es
  pub before : are_right (take n es) ≡ true
  pub with_it : are_right (take (n + 1) es) ≡ false

-- right entries rebuild a server, its date aside: at its own date they rebuild it
pub record Rebuilds (es : List Entry) (s : ServerState) : Type 0 where
  pub right : are_right es ≡ true
  pub server : s ≡ dated_at (rebuilt es) s.date

-- what a post adds to the entries: itself, where it is new
abbrev pub kept_if : Bool → ServerState → ℤ → List Post → List Entry
kept_if true s random_id posts = record { date = s.date; random_id = random_id; posts = posts } ∷ []
kept_if false s random_id posts = []

abbrev pub kept_of : ServerState → ℤ → List Post → List Entry
kept_of s random_id posts = kept_if (is_new s random_id posts) s random_id posts
