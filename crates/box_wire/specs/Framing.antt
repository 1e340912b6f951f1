-- What bytes mean by a profile's schema: which message, or why none. This project's own.
use Rattle.std.specs.Prelude.{◌≡◌, ℕ, ◌<◌, ◌≤◌, List, ◌++◌, length, Some, None}
use Rattle.tl_types.specs.Values.{ValueView, depth}
use Rattle.tl_types.specs.Spelling.{Spells}
use Rattle.tl_types.specs.Refusal as refusal
use Rattle.tl_types.specs.Offsets.{moved}
use Rattle.tl_types.specs.declared.cause.Cause.{Cause}
use Rattle.tl_types.specs.declared.value.TheConstants.{MAX_LEVELS}
use Rattle.wire_profile.specs.Indexes.{ProfileView, cell_shape}
use Rattle.wire_profile.specs.SpelledForms.{owned, placed}
use Rattle.wire_profile.specs.declared.wire_fault.WireFault.{WireFault}
use Rattle.wire_profile.specs.declared.wire_fault.WireFault.TheVariants.{Refused, Trailing}
use Rattle.box_wire.specs.Kinds.{Kind}

-- the bytes are the spelling of a message's value t, with the schema's numbers in it
abbrev pub Framed : ProfileView → Kind → ValueView → List ℕ → Type 0
Framed p kind t bytes = Spells p.schema (cell_shape p kind.cell) (placed p t) bytes

-- the bytes are the spelling of v, a value of at most MAX_LEVELS levels
abbrev pub SpellsWhole : ProfileView → Kind → ValueView → List ℕ → Type 0
SpellsWhole p kind v bytes = Spells p.schema (cell_shape p kind.cell) v bytes × (depth v ≤ MAX_LEVELS)

-- the bytes are the spelling of a value without a cause, which becomes a message's value t
pub record Means (p : ProfileView) (kind : Kind) (t : ValueView) (bytes : List ℕ) : Type 0 where
  pub v : ValueView
  pub spelled : SpellsWhole p kind v bytes
  pub clear : kind.cause (owned p v) ≡ None
  pub same : kind.normal (owned p v) ≡ t

-- why bytes are no message: the first cause that holds
pub data WireRefused (p : ProfileView) (kind : Kind) (bytes : List ℕ) (fault : WireFault) : Type 0 where
  -- no value's spelling begins them
  no_value : (offset : ℕ) (cause : Cause) → refusal.Refused p.schema MAX_LEVELS (cell_shape p kind.cell) bytes offset cause → fault ≡ Refused (moved 0 offset) cause → WireRefused p kind bytes fault
  -- bytes follow a value's spelling
  goes_on : (v : ValueView) (x rest : List ℕ) → SpellsWhole p kind v x → bytes ≡ x ++ rest → 0 < length rest → fault ≡ Trailing (moved 0 (length x)) → WireRefused p kind bytes fault
  -- their value has a cause
  no_message : (v : ValueView) → SpellsWhole p kind v bytes → kind.cause (owned p v) ≡ Some fault → WireRefused p kind bytes fault
