-- A decoder that is fed with bytes which are to be one value. This project's own.
use Rattle.std.specs.Prelude.{◌≡◌, ◌⊎◌, ℕ, ◌<◌, ◌≤◌, List, [], length, Bool, true, false, Result, Ok, Err}
use Rattle.tl_schema.specs.Types.{Shape}
use Rattle.tl_schema.specs.Schemas.{Declared}
use Rattle.tl_types.specs.Values.{ValueView, depth}
use Rattle.tl_types.specs.Spelling.{Spells}
use Rattle.tl_types.specs.declared.value.TheConstants.{MAX_LEVELS}
use Rattle.tl_decode.specs.Decoders.{DecoderView, HasValue}
use Rattle.tl_decode.specs.Wholes.{ReadsWhole}
use Rattle.tl_decode.specs.declared.whole.WholeFault.{WholeFault}
use Rattle.tl_decode.specs.declared.whole.WholeFault.TheVariants.{Refused, Trailing, ReadFault, Memory}

-- What comes after a value: no byte of its piece and no byte of what is left, or more bytes at the place.
abbrev pub EndsAfter : ℕ → Bool → List ℕ → Result (Unit {0}) WholeFault → Type 0
EndsAfter place more left (Ok u) = (more ≡ false) × (left ≡ [])
EndsAfter place more left (Err (Trailing at)) = (at ≡ place) × ((more ≡ true) ⊎ (0 < length left))
EndsAfter place more left (Err (Refused at cause)) = ⊥
EndsAfter place more left (Err ReadFault) = Unit {0}
EndsAfter place more left (Err Memory) = ⊥

-- A decoder was fed with all the bytes: they spell the value that it has, or they are no value, for the cause.
abbrev pub FeedsWhole : Declared → Shape → List ℕ → DecoderView → Result (Unit {0}) WholeFault → Type 0
FeedsWhole schema T bytes d (Ok u) = (v : ValueView) × HasValue d v × Spells schema T v bytes × (depth v ≤ MAX_LEVELS)
FeedsWhole schema T bytes d (Err e) = ReadsWhole schema T bytes (Err e)
