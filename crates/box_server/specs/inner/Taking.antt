-- What becomes of a server that takes a draft. This project's own.
use Rattle.std.specs.Prelude.{◌≡◌, ◌⊎◌, ◌<◌, ◌≤◌, ℕ, ℤ, List, [], ◌∷◌, length, map as each, Result, Ok, Err, Some, None}
use Rattle.std.specs.FinMap as map
use Rattle.box_events.specs.declared.limits.TheConstants.{MAX_KEYS}
use Rattle.box_events.specs.declared.requests.Post.{Post}
use Rattle.box_events.specs.declared.updates.Push.TheVariants.{Container}
use Rattle.box_server.specs.declared.draft.Draft.{Draft}
use Rattle.box_server.specs.declared.fault.PostFault.{PostFault}
use Rattle.box_server.specs.declared.fault.PostFault.TheVariants.{Memory}
use Rattle.box_server.specs.declared.posted.Posted.{Posted}
use Rattle.box_server.specs.declared.prepared.Prepared.{Prepared}
use Rattle.box_server.specs.declared.prepared.Prepared.TheVariants.{Known, New}
use Rattle.box_server.specs.declared.store_fault.KeepFault.{KeepFault}
use Rattle.box_server.specs.declared.store_fault.KeepFault.TheVariants as keeping
use Rattle.box_server.specs.declared.store_fault.StoreFault.{StoreFault}
use Rattle.box_server.specs.declared.store_fault.StoreFault.TheVariants as storing
use Rattle.box_server.specs.declared.entry.Entry.{Entry}
use Rattle.box_server.specs.Servers.{ServerState}
use Rattle.box_server.specs.Sound.{IsSound}
use Rattle.box_server.specs.Keeping.{KeeperState, Keeps, with_more}
use Rattle.box_server.specs.Receiving.{Receives}
use Rattle.box_server.specs.Entries.{entries_of}
use Rattle.box_server.specs.LastEntries.{keys_in}
use Rattle.box_server.specs.Posting.{applied_all, cut, received, receipt_of, updates_of}
use Rattle.box_server.specs.Refusing.{first_cause, too_many, post_cause}
use Rattle.box_server.specs.inner.Drafted.{Fits, joined}
use Rattle.box_server.specs.inner.Rooms.{numbers_of}

-- neither too many channels nor too many keys; so many keys
abbrev pub CountsKeys : ServerState → List Post → Result ℕ PostFault → Type 0
CountsKeys s posts (Ok keys) = (first_cause (too_many (applied_all s (entries_of posts))) ≡ None) × (keys ≡ keys_in (applied_all s (entries_of posts)).settings)
CountsKeys s posts (Err f) = (f ≡ Memory) ⊎ (first_cause (too_many (applied_all s (entries_of posts))) ≡ Some f)

-- a server with a draft, of which each channel keeps the last 500 events, and with the receipt
abbrev pub with_draft : ServerState → ℤ → Draft → ServerState
with_draft s random_id d = received (record (joined s d) { channels = each cut (joined s d).channels }) random_id

-- a draft may be taken: it is one of this server's, its keys are so many, its random id isn't known, and the server with it is sound
pub record IsReady (s : ServerState) (random_id : ℤ) (keys : ℕ) (d : Draft) : Type 0 where
  pub fits : Fits s d
  pub count : keys ≡ keys_in (joined s d).settings
  pub few : keys ≤ MAX_KEYS
  pub fresh : map.get s.receipts random_id ≡ None
  pub sound : IsSound (with_draft s random_id d)

-- a draft of new posts, which may be taken
pub record IsPlan (s : ServerState) (random_id : ℤ) (posts : List Post) (keys : ℕ) (d : Draft) : Type 0 where
  pub ready : IsReady s random_id keys d
  pub cause : post_cause s posts ≡ None
  pub applies : joined s d ≡ applied_all s (entries_of posts)
  pub updates : d.updates ≡ updates_of s (entries_of posts)

-- what a server would do with posts: what it answers already, or a draft of them
abbrev pub Prepares : ServerState → ℤ → List Post → Result Prepared PostFault → Type 0
Prepares s random_id posts (Ok (Known receipt)) = Receives s random_id posts (Ok (record { receipt = receipt; push = None })) s
Prepares s random_id posts (Ok (New keys draft)) = IsPlan s random_id posts keys draft
Prepares s random_id posts (Err f) = Receives s random_id posts (Err f) s

-- the draft is taken, or nothing changes
abbrev pub Takes : ServerState → ℤ → Draft → Result Posted KeepFault → ServerState → Type 0
Takes s random_id d (Ok posted) t =
    (t ≡ with_draft s random_id d)
    × (posted ≡ record { receipt = receipt_of (joined s d); push = Some (Container d.updates s.date (numbers_of (length s.settings) (length (joined s d).settings)).0 (numbers_of (length s.settings) (length (joined s d).settings)).1) })
Takes s random_id d (Err f) t = t ≡ s

-- a keeper added an entry, or failed at it and its entries are as before, or was never asked
abbrev pub Adds : {K T : Type 0} → (K → KeeperState) → K → K → Entry → Result T KeepFault → Type 0
Adds state old new e (Ok u) = ((state new).entries ≡ with_more (e ∷ []) (state old).entries) × Keeps (state old) (state new) ⊥ (λ es. length es < (state old).room)
Adds state old new e (Err keeping.Failed) = ((state new).entries ≡ (state old).entries) × Keeps (state old) (state new) (Unit {0}) (λ es. length es < (state old).room)
Adds state old new e (Err keeping.Memory) = new ≡ old

-- the draft is taken, or memory runs out and nothing changes
abbrev pub TakesUnkept : ServerState → ℤ → Draft → Result Posted PostFault → ServerState → Type 0
TakesUnkept s random_id d (Ok posted) t = Takes s random_id d (Ok posted) t
TakesUnkept s random_id d (Err f) t = (f ≡ Memory) × (t ≡ s)

-- what a store answers where its server took a draft, or didn't
abbrev pub store_answer : Result Posted KeepFault → Result Posted StoreFault
store_answer (Ok posted) = Ok posted
store_answer (Err keeping.Failed) = Err storing.Failed
store_answer (Err keeping.Memory) = Err storing.Memory
