-- What happens between a server whose posts are kept, its host and its keeper, in one order. This project's own.
use Rattle.std.specs.Prelude.{◌≡◌, ℕ, ◌≤◌, List, [], ◌∷◌, length, Bool, true, false, IsTrue, Option, IfSome, IsSome}
use Rattle.tl_base.specs.Causes.{Rose}
use Rattle.box_server.specs.Servers.{ServerState}
use Rattle.box_server.specs.declared.entry.Entry.{Entry}
use Rattle.box_server.specs.Keeping.{KeeperState, with_more}
use Rattle.session_commands.specs.Keep.{Starts, IsBadEntry}
use Rattle.outside.specs.Events.{Event, HostState}
use Rattle.outside.specs.Grown.{Grew}
use Rattle.outside.specs.Laws.{Happened}

-- what reading all entries of a keeper came to: the server that they rebuild, the first entry that isn't accepted, or a call to the keeper failed
pub data Loading : Type 0 where
  rebuilds : (server : ServerState) → Loading
  unaccepted : (n : ℕ) → Loading
  unread : Loading

-- an event of the host; the keeper's entries were read; or an entry was added to them, or that failed
pub data Act : Type 0 where
  hosted : (event : Event) → Act
  loaded : (by : Loading) → Act
  added : (entry : Entry) (ok : Bool) → Act

-- the host's events, in their order
abbrev pub events_in : List Act → List Event
events_in [] = []
events_in (hosted e ∷ t) = e ∷ events_in t
events_in (loaded by ∷ t) = events_in t
events_in (added e ok ∷ t) = events_in t

-- ---- the keeper

-- its entries after an act, where they are told
abbrev pub entries_after : Act → Option (List Entry) → Option (List Entry)
entries_after (hosted e) es = es
entries_after (loaded by) es = es
entries_after (added e true) es = with_more (e ∷ []) es
entries_after (added e false) es = es

abbrev pub entries_after_all : List Act → Option (List Entry) → Option (List Entry)
entries_after_all [] es = es
entries_after_all (a ∷ t) es = entries_after_all t (entries_after a es)

-- What an act says of the entries as they are then, and of a keeper with room for so many: one that is sound gives its entries, and fails only where it is full.
abbrev pub Agrees : Type 0 → ℕ → Option (List Entry) → Act → Type 0
Agrees Sound room es (hosted e) = Unit {0}
Agrees Sound room es (loaded (rebuilds s)) = Starts es s
Agrees Sound room es (loaded (unaccepted n)) = IsBadEntry es n
Agrees Sound room es (loaded unread) = ¬ Sound
Agrees Sound room es (added e true) = Unit {0}
Agrees Sound room es (added e false) = IfSome es (λ kept. Sound → room ≤ length kept)

abbrev pub AgreesAll : Type 0 → ℕ → Option (List Entry) → List Act → Type 0
AgreesAll Sound room es [] = Unit {0}
AgreesAll Sound room es (a ∷ t) = Agrees Sound room es a × AgreesAll Sound room (entries_after a es) t

-- a call to the keeper failed
abbrev pub IsKeeperFault : Act → Type 0
IsKeeperFault (hosted e) = ⊥
IsKeeperFault (loaded (rebuilds s)) = ⊥
IsKeeperFault (loaded (unaccepted n)) = ⊥
IsKeeperFault (loaded unread) = Unit {0}
IsKeeperFault (added e true) = ⊥
IsKeeperFault (added e false) = Unit {0}

-- a keeper that tells its entries and is sound
abbrev pub IsSure : KeeperState → Type 0
IsSure k = IsSome k.entries × IsTrue k.sound

-- the acts happened to a keeper
pub record KeeperGrew (old : KeeperState) (t : List Act) (new : KeeperState) : Type 0 where
  pub entries : new.entries ≡ entries_after_all t old.entries
  pub agrees : AgreesAll (IsSure old) old.room old.entries t
  pub later : old.faults ≤ new.faults
  pub cause : Happened IsKeeperFault t → Rose old.faults new.faults
  pub room_kept : new.room ≡ old.room
  pub stays : IsSure old → IsSure new

-- ---- both

-- a host and a keeper
pub record KeptState : Type 0 where
  pub host : HostState
  pub keeper : KeeperState

abbrev pub beside : HostState → KeeperState → KeptState
beside h k = record { host = h; keeper = k }

-- the acts happened to both
pub record KeptGrew (old : KeptState) (t : List Act) (new : KeptState) : Type 0 where
  pub host : Grew old.host (events_in t) new.host
  pub keeper : KeeperGrew old.keeper t new.keeper
