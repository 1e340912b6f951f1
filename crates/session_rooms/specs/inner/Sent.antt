-- What the parts of `post` do. This project's own.
use Rattle.std.specs.Prelude.{◌≡◌, ℕ, List, Result, Ok, Err}
use Rattle.tl_schema.specs.Types.{call}
use Rattle.tl_types.specs.Values.{ValueView}
use Rattle.tl_types.specs.Spelling.{Spells}
use Rattle.wire_profile.specs.Indexes.{ProfileView}
use Rattle.outside.specs.Loading.{Refuses}
use Rattle.outside.specs.declared.stop.LoadError.{LoadError}
use Rattle.schema_files.specs.Causes.{JsonCause}
use Rattle.schema_files.specs.JsonInput.{IsJsonOf, JsonRefused}
use Rattle.schema_files.specs.Lines.{json_line}
use Rattle.session_commands.specs.declared.sending.Sending.{Sending}
use Rattle.session_commands.specs.inner.Posting.{MaySendCall, TellsUnsent}

-- the line says why a text is the JSON of no call's value
abbrev pub TellsNoJson : ProfileView → List ℕ → List ℕ → Type 0
TellsNoJson p text line = (cause : JsonCause) × JsonRefused p.schema call text cause × (line ≡ json_line cause)

-- or why the value's spelling is not sent
abbrev pub TellsNoCall : ProfileView → List ℕ → List ℕ → Type 0
TellsNoCall p text line = (x : ValueView) × (b : List ℕ) × IsJsonOf p.schema call text x × Spells p.schema call x b × TellsUnsent p b line

pub data TellsNothing (p : ProfileView) (text line : List ℕ) : Type 0 where
  no_json_told : TellsNoJson p text line → TellsNothing p text line
  no_call_told : TellsNoCall p text line → TellsNothing p text line

-- the call that a text is the JSON of
abbrev pub MakesCall : ProfileView → List ℕ → Result Sending LoadError → Type 0
MakesCall p text (Ok s) = (x : ValueView) × IsJsonOf p.schema call text x × Spells p.schema call x s.bytes × MaySendCall p s.bytes s.number
MakesCall p text (Err fault) = Refuses (TellsNothing p text) fault
