-- How a store answers. This project's own.
use Rattle.std.specs.Prelude.{◌≡◌, ℤ, List, [], true, Result, Ok, Err}
use Rattle.box_events.specs.declared.requests.Post.{Post}
use Rattle.box_server.specs.Receiving.{post_answer}
use Rattle.box_server.specs.declared.posted.Posted.{Posted}
use Rattle.box_server.specs.declared.entry.Entry.{Entry}
use Rattle.box_server.specs.declared.store_fault.OpenFault.{OpenFault}
use Rattle.box_server.specs.declared.store_fault.OpenFault.TheVariants as opening
use Rattle.box_server.specs.declared.store_fault.Unopened.{Unopened}
use Rattle.box_server.specs.declared.store_fault.StoreFault.{StoreFault}
use Rattle.box_server.specs.declared.store_fault.StoreFault.TheVariants as storing
use Rattle.box_server.specs.Rebuilding.{are_right, rebuilt, IsBad, is_new, kept_of}
use Rattle.box_server.specs.Storing.{StoredView, Takes}

-- ---- a store is opened

-- an entry is told as bad only where it is the first that isn't accepted
abbrev pub TellsBad : List Entry → OpenFault → Type 0
TellsBad es (opening.BadEntry n) = IsBad es n
TellsBad es opening.Failed = Unit {0}
TellsBad es opening.Memory = Unit {0}

-- right entries give the server that they rebuild; else the first that isn't accepted is told
abbrev pub Opens : {K : Type 0} → List Entry → Result (StoredView K) (Unopened K) → Type 0
Opens es (Ok s) = (are_right es ≡ true) × (s.server ≡ rebuilt es)
Opens es (Err u) = TellsBad es u.fault

-- the keeper that comes back
abbrev pub opened_keeper : {K : Type 0} → Result (StoredView K) (Unopened K) → K
opened_keeper (Ok s) = s.keeper
opened_keeper (Err u) = u.keeper

abbrev pub IsOpenFailed : {K : Type 0} → Result (StoredView K) (Unopened K) → Type 0
IsOpenFailed (Ok s) = ⊥
IsOpenFailed (Err u) = u.fault ≡ opening.Failed

-- ---- posts are taken

-- As the server, and a new post is kept; a refusal changes nothing. Where the keeper fails, the post was new, and the server is as before.
abbrev pub TakesPosts : {K : Type 0} → StoredView K → ℤ → List Post → Result Posted StoreFault → StoredView K → Type 0
TakesPosts s random_id posts (Ok posted) t = Takes s.server random_id posts posted t.server
TakesPosts s random_id posts (Err (storing.Refused fault)) t = (Err fault ≡ post_answer s.server random_id posts) × (t ≡ s)
TakesPosts s random_id posts (Err storing.Failed) t = (is_new s.server random_id posts ≡ true) × (t.server ≡ s.server)
TakesPosts s random_id posts (Err storing.Memory) t = t ≡ s

-- what a call appended to the entries: a new post's entry, where it was answered
abbrev pub kept_after : {K : Type 0} → StoredView K → ℤ → List Post → Result Posted StoreFault → List Entry
kept_after s random_id posts (Ok posted) = kept_of s.server random_id posts
kept_after s random_id posts (Err fault) = []
