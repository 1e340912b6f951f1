-- What the clauses of decoding exclude. This project's own.
use Rattle.std.specs.Prelude.{◌≡◌, ℕ, ◌≤◌, List, ◌∷◌, ◌++◌, Option, Some, Ok, Err}
use Rattle.tl_schema.specs.Schemas.{Declared}
use Rattle.tl_schema.specs.Types.{str}
use Rattle.tl_types.specs.Refusal as refusal
use Rattle.tl_types.specs.Texts.{three_bytes}
use Rattle.tl_types.specs.Values.{ValueView}
use Rattle.tl_types.specs.declared.cause.Cause.{Cause}
use Rattle.tl_types.specs.declared.cause.Cause.TheVariants.{LooseString}
use Rattle.tl_types.specs.declared.value.Value.{Value}
use Rattle.tl_types.specs.declared.value.TheConstants.{MAX_LEVELS}
use Rattle.tl_decode.specs.declared.fault.DecodeFault.TheVariants.{Refused}
use Rattle.tl_decode.specs.Decoding.{GivesFault, GivesValue}

-- no cause is told of bytes that spell a value
abbrev pub RefusesNoValue : Type 0
RefusesNoValue = (after : Option (List ℕ)) (p q place : ℕ) (cause : Cause) (v : ValueView) (x rest : List ℕ) → GivesValue (Err (Refused place cause)) after p q v x rest → ⊥

-- a value that is read leaves every byte after it
abbrev pub TakesNothingAfter : Type 0
TakesNothingAfter = (value : Value) (after : Option (List ℕ)) (p q : ℕ) (v : ValueView) (x rest : List ℕ) → GivesValue (Ok value) after p q v x rest → after ≡ Some rest

-- the long form of a string that has a short one is refused, and no value is given for it
pub record RefusesLooseStrings : Type 0 where
  pub refused : (schema : Declared) (n : ℕ) (rest : List ℕ) → n ≤ 253 → refusal.Refused schema MAX_LEVELS str (254 ∷ three_bytes n ++ rest) 0 LooseString
  pub given : (value : Value) → GivesFault (Ok value) 0 LooseString → ⊥
