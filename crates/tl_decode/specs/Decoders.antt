-- A decoder that takes its input in pieces, and the bytes that it has taken. This project's own.
use Rattle.std.specs.Prelude.{◌≡◌, ◌≢◌, ℕ, ◌-◌, ◌<◌, ◌≤◌, List, ◌++◌, length, false, Option, Some, None, Result, Ok, Err, IfErr}
use Rattle.tl_numbers.specs.Bytes.{AreBytes}
use Rattle.tl_schema.specs.Types.{Shape}
use Rattle.tl_schema.specs.Formed.{IsFormed}
use Rattle.tl_plan.specs.Plans.{IsPlan, PlanView}
use Rattle.tl_plan.specs.PlanLaws.{IsInstance}
use Rattle.tl_types.specs.Offsets.{moved}
use Rattle.tl_types.specs.Refusal.{Refused}
use Rattle.tl_types.specs.Spelling.{Spells}
use Rattle.tl_types.specs.Values.{ValueView, depth}
use Rattle.tl_types.specs.Seen.{view}
use Rattle.tl_types.specs.inner.Reading.{Read, spot, value_at}
use Rattle.tl_types.specs.declared.cause.Cause.{Cause}
use Rattle.tl_types.specs.declared.cause.Cause.TheVariants.{Truncated}
use Rattle.tl_types.specs.declared.value.Value.{Value}
use Rattle.tl_types.specs.declared.value.TheConstants.{MAX_LEVELS}
use Rattle.tl_decode.specs.declared.fault.DecodeFault.{DecodeFault}
use Rattle.tl_decode.specs.declared.fault.DecodeFault.TheVariants as fault
use Rattle.tl_decode.specs.declared.stack.Progress.{Progress}
use Rattle.tl_decode.specs.declared.stack.Progress.TheVariants as progress
use Rattle.tl_decode.specs.declared.stack.Fed.{Fed}
use Rattle.tl_decode.specs.declared.stack.Fed.TheVariants as fed
use Rattle.tl_decode.specs.inner.Frames.{is_truncated, type_in}
use Rattle.tl_decode.specs.inner.Needs.{IsInOrder, piece_work, reads_on}

-- a decoder: what it reads, how far it is, and the offset of the item that is looked for
pub record DecoderView : Type 0 where
  pub plan : PlanView
  pub root : ℕ
  pub progress : Progress
  pub at : ℕ

abbrev pub stopped_by : Progress → Option DecodeFault
stopped_by (progress.Reading r) = None
stopped_by (progress.Done v) = None
stopped_by (progress.Stopped e) = Some e

-- why it has stopped
abbrev pub stopped : DecoderView → Option DecodeFault
stopped d = stopped_by d.progress

-- what all the bytes read as
abbrev pub reads_all : DecoderView → List ℕ → Read ValueView
reads_all d bytes = value_at d.plan.schema.decls MAX_LEVELS (type_in d.plan d.root) (spot 0 bytes)

-- it is so far after these bytes: however the input goes on, the whole is what is read on from here, the value or the fault
abbrev pub HasCome : DecoderView → List ℕ → Progress → Type 0
HasCome d bytes (progress.Reading r) = IsInOrder d.plan r × ((more : List ℕ) → reads_all d (bytes ++ more) ≡ reads_on d.plan r d.at more)
HasCome d bytes (progress.Done v) = (rest : List ℕ) × ((more : List ℕ) → reads_all d (bytes ++ more) ≡ Ok (view v, spot d.at (rest ++ more)))
HasCome d bytes (progress.Stopped (fault.Refused offset cause)) = (is_truncated cause ≡ false) × ((more : List ℕ) → reads_all d (bytes ++ more) ≡ Err (offset, cause))
HasCome d bytes (progress.Stopped fault.ReadFault) = ⊥
HasCome d bytes (progress.Stopped fault.Memory) = Unit {0}

-- the decoder has taken these bytes, piece by piece
unfoldable pub HasTaken : DecoderView → List ℕ → Type 0
HasTaken d bytes = HasCome d bytes d.progress

-- each decoder is one for a root of a plan, and there are bytes that it has taken
pub record IsDecoder (d : DecoderView) : Type 0 where
  pub sound : IsPlan d.plan
  pub root : d.root < d.plan.roots
  pub taken : (bytes : List ℕ) × HasTaken d bytes

-- the value is there
abbrev pub HasValue : DecoderView → ValueView → Type 0
HasValue d v = (value : Value) × (d.progress ≡ progress.Done value) × (view value ≡ v)

abbrev pub work_left : PlanView → Progress → ℕ
work_left p (progress.Reading r) = piece_work p r
work_left p (progress.Done v) = 0
work_left p (progress.Stopped e) = 0

-- so often, at most, it asks for more after a piece that has bytes
unfoldable pub pieces_left : DecoderView → ℕ
pieces_left d = work_left d.plan d.progress

-- ---- what a piece gives, after so many bytes before it; out of memory is free

-- The value, which ends after n bytes in all.
abbrev pub GivesEnd : DecoderView → ℕ → Result Fed DecodeFault → ValueView → ℕ → Type 0
GivesEnd d before (Ok (fed.Done used)) v n = (used ≡ n - before) × HasValue d v
GivesEnd d before (Ok fed.More) v n = ⊥
GivesEnd d before (Err (fault.Refused offset cause)) v n = ⊥
GivesEnd d before (Err fault.ReadFault) v n = ⊥
GivesEnd d before (Err fault.Memory) v n = Unit {0}

-- The fault at this offset, for this cause.
abbrev pub GivesRefusal : Result Fed DecodeFault → ℕ → Cause → Type 0
GivesRefusal (Ok f) offset cause = ⊥
GivesRefusal (Err (fault.Refused place why)) offset cause = (place ≡ offset) × (why ≡ cause)
GivesRefusal (Err fault.ReadFault) offset cause = ⊥
GivesRefusal (Err fault.Memory) offset cause = Unit {0}

-- More, and the item that isn't whole begins at this offset.
abbrev pub GivesMore : DecoderView → Result Fed DecodeFault → ℕ → Type 0
GivesMore d (Ok fed.More) offset = d.at ≡ offset
GivesMore d (Ok (fed.Done used)) offset = ⊥
GivesMore d (Err (fault.Refused place why)) offset = ⊥
GivesMore d (Err fault.ReadFault) offset = ⊥
GivesMore d (Err fault.Memory) offset = Unit {0}

-- What feeding a decoder with a piece does to it, and what it answers.
pub record Feeds (old new : DecoderView) (piece : List ℕ) (result : Result Fed DecodeFault) : Type 0 where
  -- the plan stays,
  pub plan : new.plan ≡ old.plan
  -- and the root
  pub root : new.root ≡ old.root
  -- the piece came to the bytes that were taken
  pub taken : (bytes : List ℕ) → HasTaken old bytes → HasTaken new (bytes ++ piece)
  -- what is spelled is given, and ends after its bytes
  pub spelled : (bytes : List ℕ) → HasTaken old bytes → (T : Shape) → IsInstance old.plan old.root T → (v : ValueView) (x rest : List ℕ) → bytes ++ piece ≡ x ++ rest → Spells old.plan.schema T v x → depth v ≤ MAX_LEVELS → GivesEnd new (length bytes) result v (length x)
  -- what is refused is refused at its offset, for its cause
  pub refused : (bytes : List ℕ) → HasTaken old bytes → (T : Shape) → IsInstance old.plan old.root T → (offset : ℕ) (cause : Cause) → cause ≢ Truncated → Refused old.plan.schema MAX_LEVELS T (bytes ++ piece) offset cause → GivesRefusal result (moved 0 offset) cause
  -- what would be cut off if the input ended asks for more
  pub cut_off : (bytes : List ℕ) → HasTaken old bytes → (T : Shape) → IsInstance old.plan old.root T → (offset : ℕ) → Refused old.plan.schema MAX_LEVELS T (bytes ++ piece) offset Truncated → GivesMore new result (moved 0 offset)
  -- after Done the value is there
  pub done : (used : ℕ) → result ≡ Ok (fed.Done used) → (v : ValueView) × HasValue new v
  -- there is no read fault
  pub unread : result ≢ Err fault.ReadFault
  -- it doesn't ask for more without end
  pub less : 0 < length piece → result ≡ Ok fed.More → pieces_left new < pieces_left old
  -- a fault stays,
  pub fault : IfErr result (λ e. stopped new ≡ Some e)
  -- and is answered again
  pub again : (e : DecodeFault) → stopped old ≡ Some e → result ≡ Err e

-- ---- a law

-- a refusal after some bytes is one of all bytes that begin with them
abbrev pub EachRefusalStays : Type 0
EachRefusalStays =
    (d : DecoderView) → IsPlan d.plan → (bytes more : List ℕ) → AreBytes (bytes ++ more) → HasTaken d bytes → (T : Shape) → IsInstance d.plan d.root T → IsFormed d.plan.schema T
    → (place : ℕ) (cause : Cause) → stopped d ≡ Some (fault.Refused place cause) → (offset : ℕ) × Refused d.plan.schema MAX_LEVELS T (bytes ++ more) offset cause × (place ≡ moved 0 offset)
