-- What a call of a handle answers. This project's own.
use Rattle.std.specs.Prelude.{◌≡◌, ℕ, ◌<◌, ◌≤◌, List, [], length, Option, Result, Ok, Err, ◌⊎◌}
use Rattle.std.specs.declared.option.Option.TheVariants.{None, Some}
use Rattle.tl_schema.specs.Types.{Shape}
use Rattle.tl_schema.specs.Schemas.{Declared}
use Rattle.tl_codec.specs.Codings.{Made}
use Rattle.tl_codec.specs.Typings.{Adds, Coder, OfType, Opens}
use Rattle.tl_codec.specs.Comparing.{MakesAnswer, OfTexts}
use Rattle.codec_commands.specs.Check.{listing}
use Rattle.outside.specs.declared.stop.LoadError.{LoadError}
use Rattle.outside.specs.declared.stop.LoadError.TheVariants as load_error
use Rattle.tlbox_c.specs.Telling.{Fills, HandsMade, Tells, TellsNumber}
use Rattle.tlbox_c.specs.declared.held.Held.{Held}
use Rattle.tlbox_c.specs.declared.telling.TheConstants.{CLOSED, DONE, MEMORY, NO_TYPE, REFUSED}

-- no type has the number; or what is made by the one that has it is told
pub record Serves (Makes : Declared → Shape → List ℕ → Made → Type 0) (of : ℕ) (given : List ℕ) (status : ℕ) (x y : Held) : Type 0 where
  pub same : y.codec ≡ x.codec
  pub unknown : length x.codec.1 ≤ of → (status ≡ NO_TYPE) × (y.last.items ≡ [])
  pub known : of < length x.codec.1 → (made : Made) × OfType Makes x.codec.0 x.codec.1 of given made × Tells made status y.last.items

-- the same of a handle, which may be closed
abbrev pub ServesAt : (Declared → Shape → List ℕ → Made → Type 0) → ℕ → List ℕ → ℕ → Option Held → Option Held → Type 0
ServesAt Makes of given status None after = (status ≡ CLOSED) × (after ≡ None)
ServesAt Makes of given status (Some x) None = ⊥
ServesAt Makes of given status (Some x) (Some y) = Serves Makes of given status x y

-- the list of the schema's declarations is kept; or there was no memory
abbrev pub Lists : ℕ → Held → Held → Type 0
Lists status x y = (y.codec ≡ x.codec) × (((status ≡ DONE) × (y.last.items ≡ listing x.codec.0.decls)) ⊎ ((status ≡ MEMORY) × (y.last.items ≡ [])))

-- the same of a handle, which may be closed
abbrev pub ListsAt : ℕ → Option Held → Option Held → Type 0
ListsAt status None after = (status ≡ CLOSED) × (after ≡ None)
ListsAt status (Some x) None = ⊥
ListsAt status (Some x) (Some y) = Lists status x y

-- the bytes that are kept begin what C gave, if they fit, and their number is told; of a closed handle none are
abbrev pub Hands : Option Held → List ℕ → List ℕ → ℕ → Type 0
Hands None old new len = (new ≡ old) × (len ≡ 0)
Hands (Some x) old new len = Fills x.last.items old new × (len ≡ length x.last.items)

-- the codec is behind the handle; or there was no memory
abbrev pub Boxes : Coder → ℕ → Option Held → Type 0
Boxes codec status None = status ≡ MEMORY
Boxes codec status (Some x) = (status ≡ DONE) × (x.codec ≡ codec) × (x.last.items ≡ [])

-- the codec that was opened is behind the handle, or the line of its refusal is handed out; or there was no memory
abbrev pub Opened : Result Coder LoadError → ℕ → Option Held → List ℕ → List ℕ → ℕ → Type 0
Opened (Ok codec) status after old new len = Boxes codec status after × (new ≡ old) × (len ≡ 0)
Opened (Err (load_error.Refused line)) status after old new len = (status ≡ REFUSED) × (after ≡ None) × Fills line.items old new × (len ≡ length line.items)
Opened (Err load_error.ReadFault) status after old new len = (status ≡ MEMORY) × (after ≡ None) × (new ≡ old) × (len ≡ 0)
Opened (Err load_error.Memory) status after old new len = (status ≡ MEMORY) × (after ≡ None) × (new ≡ old) × (len ≡ 0)

abbrev pub OpensAt : List ℕ → ℕ → Option Held → List ℕ → List ℕ → ℕ → Type 0
OpensAt text status after old new len = (made : Result Coder LoadError) × Opens text made × Opened made status after old new len

-- the type of a text is kept, and its number told; or the line of its refusal is kept
abbrev pub AddsTo : List ℕ → ℕ → Held → Held → ℕ → ℕ → Type 0
AddsTo name status x y old new =
    (y.codec.0 ≡ x.codec.0) × ((made : Result ℕ LoadError) × Adds x.codec.0 name x.codec.1 y.codec.1 made × TellsNumber made status old new y.last.items)

-- the same of a handle, which may be closed
abbrev pub AddsAt : List ℕ → ℕ → Option Held → Option Held → ℕ → ℕ → Type 0
AddsAt name status None after old new = (status ≡ CLOSED) × (after ≡ None) × (new ≡ old)
AddsAt name status (Some x) None old new = ⊥
AddsAt name status (Some x) (Some y) old new = AddsTo name status x y old new

-- what is told of two schemas' texts and a type's is handed out
abbrev pub ComparesAt : List ℕ → List ℕ → List ℕ → ℕ → List ℕ → List ℕ → ℕ → Type 0
ComparesAt old new type status before after len = (made : Made) × MakesAnswer (OfTexts old new type) made × HandsMade made status before after len
