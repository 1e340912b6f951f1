-- The line of a value, and the lines of refusals: of a schema, a type, a plan and an input. This project's own.
use Rattle.std.specs.Prelude.{ℕ, List, [], ◌∷◌, ◌++◌, codes, decimal, flat_map}
use Rattle.std.specs.Int.{w32, to_be_bytes}
use Rattle.hex.specs.Hex.{encode_lower}
use Rattle.serde_json.specs.Written.{compact_text}
use Rattle.tl_schema.specs.Types.{Shape}
use Rattle.tl_schema.specs.Schemas.{Declaration}
use Rattle.tl_types.specs.Values.{ValueView}
use Rattle.tl_show.specs.Shown.{shown}
use Rattle.tl_types.specs.declared.cause.Cause.{Cause}
use Rattle.tl_types.specs.declared.cause.Cause.TheVariants.{TooDeep, Truncated, Packed, UnknownNumber, BadCount, LongString, LooseString, BadPadding}
use Rattle.tl_types.specs.declared.misfit.MisfitCause.{MisfitCause}
use Rattle.tl_types.specs.declared.misfit.MisfitCause.TheVariants as misfit
use Rattle.tl_show.specs.declared.fault.FormCause.{FormCause}
use Rattle.tl_show.specs.declared.fault.FormCause.TheVariants as form_cause
use Rattle.tl_schema.specs.declared.fault.CheckCause.{CheckCause}
use Rattle.tl_schema.specs.declared.fault.CheckCause.TheVariants as check
use Rattle.tl_combinators.specs.declared.fault.UnsupportedForm.{UnsupportedForm}
use Rattle.tl_combinators.specs.declared.fault.UnsupportedForm.TheVariants as form
use Rattle.tl_schema.specs.declared.fault.TypeCause.{TypeCause}
use Rattle.tl_schema.specs.declared.fault.TypeCause.TheVariants as type
use Rattle.outside.specs.Answer.{decl_line, placed_line, unplaced_line}
use Rattle.schema_files.specs.Causes.{TextCause, TextTooLong, BadByte, OpenComment, Unexpected, NotProfile, TooMany, SchemaCause, Text, Checked, TypeNameCause, Word, Asked, PlanCause, TypeTooDeep, TooManyInstances, JsonCause, TooLong, NoJson, Unformed, Misfit}

-- a value of a type: its JSON, and a line feed
abbrev pub line_text : List Declaration → Shape → ValueView → List ℕ
line_text ds T v = compact_text (shown ds T v) ++ 10 ∷ []

abbrev pub form_name : UnsupportedForm → List ℕ
form_name form.DependentNumber = codes "DependentNumber"
form_name form.Multiplicity = codes "Multiplicity"
form_name form.Lifecycle = codes "Lifecycle"
form_name form.PartialApplication = codes "PartialApplication"
form_name form.Anonymous = codes "Anonymous"
form_name form.ObjectType = codes "ObjectType"
form_name form.UnnamedField = codes "UnnamedField"
form_name form.CallInConstructor = codes "CallInConstructor"
form_name form.VectorNumber = codes "VectorNumber"

abbrev pub check_name : CheckCause → List ℕ
check_name check.SameName = codes "SameName"
check_name check.UnknownType = codes "UnknownType"
check_name check.UnknownVariable = codes "UnknownVariable"
check_name check.WrongArity = codes "WrongArity"
check_name check.BadResult = codes "BadResult"
check_name check.NotBare = codes "NotBare"
check_name check.BadFlag = codes "BadFlag"
check_name check.SameNumber = codes "SameNumber"
check_name check.BareCycle = codes "BareCycle"
check_name check.EmptyElement = codes "EmptyElement"

abbrev pub type_cause_name : TypeCause → List ℕ
type_cause_name type.UnknownType = codes "UnknownType"
type_cause_name type.WrongArity = codes "WrongArity"
type_cause_name type.NotBare = codes "NotBare"
type_cause_name type.EmptyElement = codes "EmptyElement"

-- a refusal of what a text is read as
abbrev pub text_line : List ℕ → TextCause → List ℕ
text_line what TextTooLong = unplaced_line what (codes "TextTooLong")
text_line what (BadByte at) = placed_line what at (codes "BadByte")
text_line what (OpenComment at) = placed_line what at (codes "OpenComment")
text_line what (Unexpected at) = placed_line what at (codes "Unexpected")
text_line what (NotProfile at f) = placed_line what at (codes "NotProfile " ++ form_name f)
text_line what (TooMany at) = placed_line what at (codes "TooMany")

-- a refusal of a schema's text, by what its input is called
abbrev pub schema_line : List ℕ → SchemaCause → List ℕ
schema_line what (Text c) = text_line what c
schema_line what (Checked decl c) = decl_line what decl (check_name c)

-- a refusal of the word that is a type
abbrev pub type_line : TypeNameCause → List ℕ
type_line (Word c) = text_line (codes "type") c
type_line (Asked c) = unplaced_line (codes "type") (type_cause_name c)

-- a refusal of a type without a plan
abbrev pub plan_line : PlanCause → List ℕ
plan_line (TypeTooDeep decl) = decl_line (codes "plan") decl (codes "TypeTooDeep")
plan_line TooManyInstances = unplaced_line (codes "plan") (codes "TooManyInstances")

-- a cause with its values: the word of an unknown number as eight hexadecimal digits, a count in decimal
abbrev pub cause_text : Cause → List ℕ
cause_text TooDeep = codes "TooDeep"
cause_text Truncated = codes "Truncated"
cause_text Packed = codes "Packed"
cause_text (UnknownNumber w) = codes "UnknownNumber " ++ encode_lower (to_be_bytes w32 w)
cause_text (BadCount n) = codes "BadCount " ++ decimal n
cause_text LongString = codes "LongString"
cause_text LooseString = codes "LooseString"
cause_text BadPadding = codes "BadPadding"

-- a refusal of the input
abbrev pub input_line : ℕ → List ℕ → List ℕ
input_line place why = placed_line (codes "input") place why

-- ---- inputs of JSON

abbrev pub form_cause_name : FormCause → List ℕ
form_cause_name form_cause.WrongJson = codes "WrongJson"
form_cause_name form_cause.NoSuchName = codes "NoSuchName"
form_cause_name form_cause.MissingField = codes "MissingField"
form_cause_name form_cause.ExtraField = codes "ExtraField"
form_cause_name form_cause.OutOfRange = codes "OutOfRange"

abbrev pub misfit_cause_name : MisfitCause → List ℕ
misfit_cause_name misfit.WrongKind = codes "WrongKind"
misfit_cause_name misfit.WrongConstructor = codes "WrongConstructor"
misfit_cause_name misfit.WrongCount = codes "WrongCount"
misfit_cause_name misfit.FlagMismatch = codes "FlagMismatch"
misfit_cause_name misfit.OutOfRange = codes "OutOfRange"
misfit_cause_name misfit.TooDeep = codes "TooDeep"

-- these indices, each after a point
abbrev pub steps_text : List ℕ → List ℕ
steps_text is = flat_map (λ i. codes "." ++ decimal i) is

-- the indices of a path with a point between each two, or `-` where there is none
abbrev pub path_text : List ℕ → List ℕ
path_text [] = codes "-"
path_text (i ∷ is) = decimal i ++ steps_text is

abbrev pub form_text : List ℕ → FormCause → List ℕ
form_text path cause = (form_cause_name cause ++ codes " ") ++ path_text path

abbrev pub misfit_text : List ℕ → MisfitCause → List ℕ
misfit_text path cause = ((codes "Misfit " ++ path_text path) ++ codes " ") ++ misfit_cause_name cause

-- a refusal of the input that has no offset
abbrev pub whole_input_line : List ℕ → List ℕ
whole_input_line why = unplaced_line (codes "input") why

abbrev pub json_line : JsonCause → List ℕ
json_line TooLong = whole_input_line (codes "TooLong")
json_line NoJson = whole_input_line (codes "Json")
json_line (Unformed path cause) = whole_input_line (form_text path cause)
json_line (Misfit path cause) = whole_input_line (misfit_text path cause)
