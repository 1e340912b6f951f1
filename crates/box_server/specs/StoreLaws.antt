-- What holds of entries and the servers that they rebuild. This project's own.
use Rattle.std.specs.Prelude.{◌≡◌, ◌≤◌, ◌<◌, ◌^◌, ℕ, ℤ, List, ◌++◌, [], true, Some, Err}
use Rattle.std.specs.FinMap as map
use Rattle.box_events.specs.declared.positions.Receipt.{Receipt}
use Rattle.box_events.specs.declared.requests.Post.{Post}
use Rattle.box_server.specs.Servers.{ServerState, new_server, dated_at}
use Rattle.box_server.specs.Receiving.{after_post, post_answer}
use Rattle.box_server.specs.Sound.{IsSound}
use Rattle.box_server.specs.declared.fault.PostFault.{PostFault}
use Rattle.box_server.specs.declared.entry.Entry.{Entry}
use Rattle.box_server.specs.Rebuilding.{Rebuilds, kept_of, are_right, rebuilt, is_new}

-- no entries rebuild the empty server
abbrev pub NoEntriesRebuild : Type 0
NoEntriesRebuild = (date : ℕ) → Rebuilds [] (dated_at new_server date)

-- entries with what a post adds rebuild the server after the post
abbrev pub PostsAreKept : Type 0
PostsAreKept = (es : List Entry) (s : ServerState) (random_id : ℤ) (posts : List Post) → s.date < 2 ^ 31 → Rebuilds es s → Rebuilds (es ++ kept_of s random_id posts) (after_post s random_id posts)

-- a later date is aside
abbrev pub DatesAreAside : Type 0
DatesAreAside = (es : List Entry) (s : ServerState) (date : ℕ) → Rebuilds es s → Rebuilds es (dated_at s date)

-- two servers that the same entries rebuild are one from a date on that is past theirs
abbrev pub OneServerFrom : Type 0
OneServerFrom = (es : List Entry) (s t : ServerState) (now : ℕ) → Rebuilds es s → Rebuilds es t → s.date ≤ now → t.date ≤ now → dated_at s now ≡ dated_at t now

-- right entries rebuild a sound server
abbrev pub RebuiltIsSound : Type 0
RebuiltIsSound = (es : List Entry) → are_right es ≡ true → IsSound (rebuilt es)

-- a known id adds nothing and changes nothing
abbrev pub KnownAddsNothing : Type 0
KnownAddsNothing = (s : ServerState) (random_id : ℤ) (posts : List Post) (r : Receipt) → map.get s.receipts random_id ≡ Some r → (kept_of s random_id posts ≡ []) × (after_post s random_id posts ≡ s)

-- neither does a post that is refused
abbrev pub RefusedAddsNothing : Type 0
RefusedAddsNothing = (s : ServerState) (random_id : ℤ) (posts : List Post) (fault : PostFault) → Err fault ≡ post_answer s random_id posts → (kept_of s random_id posts ≡ []) × (after_post s random_id posts ≡ s)

-- after a post that was taken as new its id is known
abbrev pub NewIsKnownAfter : Type 0
NewIsKnownAfter = (s : ServerState) (random_id : ℤ) (posts : List Post) → is_new s random_id posts ≡ true → (r : Receipt) × (map.get (after_post s random_id posts).receipts random_id ≡ Some r)
