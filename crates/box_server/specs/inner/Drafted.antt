-- A draft of what posts bring, and the server that has it. This project's own.
use Rattle.std.specs.Prelude.{◌≡◌, ◌⊎◌, ◌+◌, ◌≤◌, List, [], ◌∷◌, ◌++◌, length, false, ltb, eqb, Result, Ok, Err, Some, None}
use Rattle.box_events.specs.declared.limits.TheConstants.{MAX_END, MAX_IDS}
use Rattle.box_events.specs.declared.requests.Post.{Post}
use Rattle.box_events.specs.Events.{count_of}
use Rattle.box_events.specs.Boxes.{ending}
use Rattle.box_server.specs.declared.draft.Draft.{Draft}
use Rattle.box_server.specs.declared.fault.PostFault.{PostFault}
use Rattle.box_server.specs.declared.fault.PostFault.TheVariants.{Memory}
use Rattle.box_server.specs.Servers.{ChannelBox, ServerState, channel_end, lane_end}
use Rattle.box_server.specs.Entries.{Entry, entries_of, lane_of, raise_of, is_event}
use Rattle.box_server.specs.Posting.{applied, applied_all, update_of, updates_of}
use Rattle.box_server.specs.Refusing.{box_full}
use Rattle.box_server.specs.inner.Drafts.{Refuses}

-- boxes with the events of tails; a tail that has no box is a new one
abbrev pub joined_channels : List ChannelBox → List ChannelBox → List ChannelBox
joined_channels [] ts = ts
joined_channels (c ∷ cs) [] = c ∷ cs
joined_channels (c ∷ cs) (t ∷ ts) = record c { events = c.events ++ t.events } ∷ joined_channels cs ts

-- a server with a draft
abbrev pub joined : ServerState → Draft → ServerState
joined s d = record s {
  common = s.common ++ d.common.events;
  secret = s.secret ++ d.secret.events;
  channels = joined_channels s.channels d.channels.items;
  settings = s.settings ++ d.settings.items;
}

-- each box has the tail of its id, which begins where it ends; the others begin at 0
abbrev pub AreAligned : List ChannelBox → List ChannelBox → Type 0
AreAligned [] [] = Unit {0}
AreAligned [] (t ∷ ts) = (t.first ≡ 0) × AreAligned [] ts
AreAligned (c ∷ cs) [] = ⊥
AreAligned (c ∷ cs) (t ∷ ts) = (t.id ≡ c.id) × (t.first ≡ channel_end c) × AreAligned cs ts

-- the draft is one of this server's
pub record Fits (s : ServerState) (d : Draft) : Type 0 where
  pub date : d.date ≡ s.date
  pub common : d.common.first ≡ ending s.common
  pub secret : d.secret.first ≡ ending s.secret
  pub channels : AreAligned s.channels d.channels.items
  pub seq : d.seq ≡ length s.settings + length d.settings.items
  pub limit : d.seq ≤ MAX_END

-- an entry is added to a draft
pub record AddsEntry (s : ServerState) (old new : Draft) (x : Entry) : Type 0 where
  pub fits : Fits s new
  pub applies : joined s new ≡ applied (joined s old) x
  pub updates : new.updates ≡ old.updates ++ update_of (joined s old) x ∷ []
  pub room : ltb MAX_END (lane_end (joined s old) (lane_of x) + raise_of x) ≡ false

abbrev pub Adds : ServerState → Draft → Draft → Entry → Result (Unit {0}) PostFault → Type 0
Adds s old new x (Ok u) = AddsEntry s old new x
Adds s old new x (Err f) = Refuses (lane_of x) (lane_end (joined s old) (lane_of x)) (raise_of x) f

-- a delete has 1 to 4,096 ids
abbrev pub HasIds : Entry → Type 0
HasIds x = (is_event (λ e. eqb (count_of e) 0) x ≡ false) × (is_event (λ e. ltb MAX_IDS (count_of e)) x ≡ false)

-- what posts do is added to a draft
pub record AddsEntries (s : ServerState) (old new : Draft) (xs : List Entry) : Type 0 where
  pub fits : Fits s new
  pub applies : joined s new ≡ applied_all (joined s old) xs
  pub updates : new.updates ≡ old.updates ++ updates_of (joined s old) xs
  pub room : box_full (joined s old) xs ≡ None

abbrev pub AddsAll : ServerState → Draft → Draft → List Post → Result (Unit {0}) PostFault → Type 0
AddsAll s old new posts (Ok u) = AddsEntries s old new (entries_of posts)
AddsAll s old new posts (Err f) = (f ≡ Memory) ⊎ (box_full (joined s old) (entries_of posts) ≡ Some f)

-- a draft that adds nothing
pub record IsBlank (s : ServerState) (d : Draft) : Type 0 where
  pub fits : Fits s d
  pub joins : joined s d ≡ s
  pub updates : d.updates ≡ []

-- a draft of what posts bring, or why there is none
abbrev pub Drafts : ServerState → List Post → Result Draft PostFault → Type 0
Drafts s posts (Ok d) = Fits s d × (joined s d ≡ applied_all s (entries_of posts)) × (d.updates ≡ updates_of s (entries_of posts)) × (box_full s (entries_of posts) ≡ None)
Drafts s posts (Err f) = (f ≡ Memory) ⊎ (box_full s (entries_of posts) ≡ Some f)
