-- Steps of the third check: the tests of calls. This project's own.
use Rattle.std.specs.Prelude.{◌==◌, Bool, not, bytes_eq}
use Rattle.std.specs.List.{count_by, list_any}
use Rattle.tl_program.specs.Program.{DeclText}
use Rattle.tl_names.specs.Writing.{is_variable}
use Rattle.tl_schema.specs.UnknownVariable.{calls}

-- `!` stands before a name that is no variable
abbrev pub calls_another : DeclText → Bool
calls_another d = list_any (λ name. not (is_variable d name)) (calls d)

-- a variable doesn't stand in exactly one field `!X`
abbrev pub leaves_uncalled : DeclText → Bool
leaves_uncalled d = list_any (λ var. not (count_by (bytes_eq var) (calls d) == 1)) d.vars
