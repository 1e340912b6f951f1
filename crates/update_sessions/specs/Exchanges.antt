-- One side of an exchange over a link: messages come, and for each of them others are sent. This project's own.
use Rattle.std.specs.Prelude.{◌≡◌, ℕ, ◌<◌, ◌≤◌, List, [], ◌∷◌, ◌++◌, length}
use Rattle.update_sessions.specs.declared.fault.TheConstants.{MAX_FRAMES}
use Rattle.update_sessions.specs.Packed.{Packed, PartlyPacked, Came}

-- A side: which bytes mean a message that comes, which spell one that is sent, whether it takes a message as it is then, what it sends for it, and
-- what it is after that.
pub record Side (S M N : Type 0) : Type 1 where
  pub means : M → List ℕ → Type 0
  pub spells : N → List ℕ → Type 0
  pub takes : S → M → Type 0
  pub sends : S → M → List N
  pub next : S → M → S

-- it takes these messages in turn,
abbrev pub TakesAll : {S M N : Type 0} → Side S M N → S → List M → Type 0
TakesAll side s [] = Unit {0}
TakesAll side s (m ∷ ms) = side.takes s m × TakesAll side (side.next s m) ms

-- is this after them,
abbrev pub after_all : {S M N : Type 0} → Side S M N → S → List M → S
after_all side s [] = s
after_all side s (m ∷ ms) = after_all side (side.next s m) ms

-- and sends all this for them
abbrev pub sends_all : {S M N : Type 0} → Side S M N → S → List M → List N
sends_all side s [] = []
sends_all side s (m ∷ ms) = side.sends s m ++ sends_all side (side.next s m) ms

-- of the bytes these messages came first, and all that is sent for them was written
pub record Exchanged {S M N : Type 0} (side : Side S M N) (s : S) (bytes left out : List ℕ) (t : S) (ms : List M) : Type 0 where
  pub came : Came side.means bytes ms left
  pub taken : TakesAll side s ms
  pub wrote : Packed side.spells (sends_all side s ms) out
  pub ends : t ≡ after_all side s ms

-- likewise, but of what is sent only a prefix was written
pub record Cut {S M N : Type 0} (side : Side S M N) (s : S) (bytes out : List ℕ) (t : S) (ms : List M) : Type 0 where
  pub left : List ℕ
  pub came : Came side.means bytes ms left
  pub taken : TakesAll side s ms
  pub wrote : PartlyPacked side.spells (sends_all side s ms) out
  pub ends : t ≡ after_all side s ms

-- An exchange that broke off: all that is sent for the first messages was written, and a prefix of what is sent for the last, where one more came.
pub record Broken {S M N : Type 0} (side : Side S M N) (s : S) (bytes out : List ℕ) (t : S) (ms : List M) : Type 0 where
  pub first : List M
  pub last : List M
  pub all : ms ≡ first ++ last
  pub few : length first < MAX_FRAMES
  pub one : length last ≤ 1
  pub between : S
  pub rest : List ℕ
  pub wrote : List ℕ
  pub part : List ℕ
  pub out_is : out ≡ wrote ++ part
  pub exchanged : Exchanged side s bytes rest wrote between first
  pub cut : Cut side between rest part t last

-- what may be written: all that is sent for messages that come first, so many at most
abbrev pub MaySendFor : {S M N : Type 0} → Side S M N → ℕ → S → List ℕ → List ℕ → Type 0
MaySendFor {S} {M} {N} side most s bytes out = (ms : List M) × (left : List ℕ) × (t : S) × Exchanged side s bytes left out t ms × (length ms ≤ most)

-- likewise in a whole session, which ends after MAX_FRAMES messages
abbrev pub MaySend : {S M N : Type 0} → Side S M N → S → List ℕ → List ℕ → Type 0
MaySend side s bytes out = MaySendFor side MAX_FRAMES s bytes out
