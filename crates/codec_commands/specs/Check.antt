-- What `check` answers: the list of the schema's declarations, or where and why its text is refused. This project's own.
use Rattle.std.specs.Prelude.{◌≡◌, ℕ, List, [], ◌++◌, codes, decimal, flat_map, Bool, true, false, not, ◌&&◌, Option, Some, None, if◌then◌else◌}
use Rattle.std.specs.List.{count_by}
use Rattle.std.specs.Int.{w32, to_be_bytes}
use Rattle.hex.specs.Hex.{encode_lower}
use Rattle.tl_base.specs.Contents.{Files}
use Rattle.tl_program.specs.BuiltIns.{built_in}
use Rattle.tl_program.specs.declared.built_in.BuiltIn.{BuiltIn}
use Rattle.tl_program.specs.declared.built_in.BuiltIn.TheVariants.{Vector}
use Rattle.tl_schema.specs.Schemas.{Declaration}
use Rattle.schema_files.specs.Answering.{OfSchemaFile}
use Rattle.outside.specs.Answer.{Answer, done}
use Rattle.outside.specs.Jobs.{Job, unlinked_job}
use Rattle.outside.specs.Kept.{KeepsUnread}

-- ---- the list

-- by the built-in name that a declaration has, if it has one
abbrev pub has_line : Option BuiltIn → Bool
has_line None = true
has_line (Some Vector) = true
has_line (Some other) = false

-- all but the lines of built-in types, of which that of `vector` is listed; no other declaration has one of their names
abbrev pub is_listed : Declaration → Bool
is_listed e = has_line (built_in e.name)

-- the number as eight hexadecimal digits, and the name
abbrev pub entry_line : Declaration → List ℕ
entry_line e = if is_listed e then ((encode_lower (to_be_bytes w32 e.number) ++ codes " ") ++ e.name) ++ codes "\n" else []

abbrev pub is_listed_constructor : Declaration → Bool
is_listed_constructor e = is_listed e && not e.function

abbrev pub is_listed_function : Declaration → Bool
is_listed_function e = is_listed e && e.function

abbrev pub counts_line : ℕ → ℕ → List ℕ
counts_line constructors functions = (((codes "constructors " ++ decimal constructors) ++ codes " functions ") ++ decimal functions) ++ codes "\n"

-- a line for each declaration, in the order of the text, and how many there are
abbrev pub listing : List Declaration → List ℕ
listing es = flat_map entry_line es ++ counts_line (count_by is_listed_constructor es) (count_by is_listed_function es)

-- ---- check

-- check's answer: the schema's text is refused, or its list is the answer
abbrev pub CheckAnswer : Files → List ℕ → Answer → Type 0
CheckAnswer files schema a = OfSchemaFile (codes "schema") (λ S b. b ≡ done (listing S.decls)) files schema a

-- `check SCHEMA`, which never comes to Input
abbrev pub check_job : List ℕ → Job
check_job schema = unlinked_job (λ v a. CheckAnswer v.files schema a) ⊥ (λ v w. KeepsUnread ⊥ v w)
