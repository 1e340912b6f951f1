-- For each key of a list of settings the index of its last. This project's own.
use Rattle.std.specs.Prelude.{◌≡◌, ℕ, ◌<◌, ◌≤◌, ◌+◌, ◌⊎◌, List, slice_get, leb, ◌||◌, true, false, cond, is_some, if◌then◌else◌, Option, Some, None, IsSome, Vec, length}
use Rattle.std.specs.List.{All}
use Rattle.std.specs.Map.{lookup}
use Rattle.box_events.specs.declared.settings.Setting.{Setting}
use Rattle.box_events.specs.declared.limits.TheConstants.{MAX_KEYS}
use Rattle.box_events.specs.declared.requests.Post.{Post}
use Rattle.box_events.specs.declared.requests.Post.TheVariants.{Message, Edit, Delete, Secret, ChannelMessage, ChannelEdit, ChannelDelete, Setting as SettingPost, Read, ChannelRead}
use Rattle.box_events.specs.SettingLists.{Dated, same_key, last_of}
use Rattle.box_server.specs.LastEntries.{keys_in}

-- keys, each with the index of its last setting; none before its first is set
abbrev pub Indexes : Type 0 → Type 0
Indexes A = List (Vec ℕ A × Option ℕ)

-- the setting of an index, where it has one
abbrev pub entry_at : List Dated → Option ℕ → Option Dated
entry_at L None = None
entry_at L (Some i) = slice_get L i

-- of an optional index that may be missing
abbrev pub found : Option (Option ℕ) → Option ℕ
found None = None
found (Some i) = i

-- what stands at a key, where it has a place
abbrev pub noted_in : {A : Type 0} → Indexes A → List ℕ → Option (Option ℕ)
noted_in es key = lookup (λ k. same_key key k.items) es

-- the index that a key has, where it has one
abbrev pub index_in : {A : Type 0} → Indexes A → List ℕ → Option ℕ
index_in es key = found (noted_in es key)

-- an entry's setting, where it is dated not before a date
abbrev pub since_at : ℕ → Option Dated → Option Setting
since_at date None = None
since_at date (Some e) = if leb date e.date then Some e.setting else None

-- each key's index is that of its last setting
abbrev pub ShowsLast : {A : Type 0} → List Dated → Indexes A → Type 0
ShowsLast L es = (key : List ℕ) → entry_at L (index_in es key) ≡ last_of L key

-- that index is one of the list's
abbrev pub AreWithin : {A : Type 0} → List Dated → Indexes A → Type 0
AreWithin L es = (key : List ℕ) (i : ℕ) → index_in es key ≡ Some i → i < length L

-- indexes of last settings, and how many keys have one
pub record IsIndexed {A : Type 0} (L : List Dated) (es : Indexes A) (keys : ℕ) : Type 0 where
  pub shows : ShowsLast L es
  pub within : AreWithin L es
  pub number : keys ≡ keys_in L
  pub few : keys ≤ MAX_KEYS

-- each key has the index that it had
abbrev pub SameIndexes : {A : Type 0} → Indexes A → Indexes A → Type 0
SameIndexes old new = (key : List ℕ) → index_in new key ≡ index_in old key

-- each setting's key has a place
abbrev pub HaveKeys : {A : Type 0} → Indexes A → List Dated → Type 0
HaveKeys es more = All (λ e. IsSome (noted_in es e.setting.key)) more

-- a key with a setting or among the fresh ones changes nothing; another has a place among them then
abbrev pub NotesFresh : {A : Type 0} → List Dated → Indexes A → Indexes A → List ℕ → Type 0
NotesFresh L old new key =
    (((is_some (last_of L key) || is_some (noted_in old key)) ≡ true) × (new ≡ old))
    ⊎ (((is_some (last_of L key) || is_some (noted_in old key)) ≡ false) × ((q : List ℕ) → noted_in new q ≡ cond (same_key q key) (Some None) (noted_in old q)) × (length new ≡ length old + 1))

-- a post that sets nothing changes nothing
abbrev pub NotesPost : {A : Type 0} → List Dated → Indexes A → Indexes A → Post → Type 0
NotesPost L old new (Message body) = new ≡ old
NotesPost L old new (Edit body) = new ≡ old
NotesPost L old new (Delete ids) = new ≡ old
NotesPost L old new (Secret body) = new ≡ old
NotesPost L old new (ChannelMessage id body) = new ≡ old
NotesPost L old new (ChannelEdit id body) = new ≡ old
NotesPost L old new (ChannelDelete id ids) = new ≡ old
NotesPost L old new (SettingPost key value) = NotesFresh L old new key
NotesPost L old new (Read max_id) = new ≡ old
NotesPost L old new (ChannelRead id max_id) = new ≡ old
