-- The line that each fault of a part is told by; out of memory has none. This project's own.
use Rattle.std.specs.Prelude.{◌≡◌, ℕ, List, codes}
use Rattle.tl_lexer.specs.declared.fault.LexFault.{LexFault}
use Rattle.tl_lexer.specs.declared.fault.LexFault.TheVariants as lex
use Rattle.tl_combinators.specs.declared.fault.SyntaxFault.{SyntaxFault}
use Rattle.tl_combinators.specs.declared.fault.SyntaxFault.TheVariants as syntax
use Rattle.tl_schema.specs.declared.fault.CheckFault.{CheckFault}
use Rattle.tl_schema.specs.declared.fault.CheckFault.TheVariants as check
use Rattle.tl_schema.specs.declared.fault.TypeFault.{TypeFault}
use Rattle.tl_schema.specs.declared.fault.TypeFault.TheVariants as type
use Rattle.tl_plan.specs.declared.fault.PlanFault.{PlanFault}
use Rattle.tl_plan.specs.declared.fault.PlanFault.TheVariants as planning
use Rattle.tl_show.specs.declared.fault.JsonTextFault.{JsonTextFault}
use Rattle.tl_show.specs.declared.fault.JsonTextFault.TheVariants as reading
use Rattle.outside.specs.declared.stop.LoadError.{LoadError}
use Rattle.outside.specs.declared.stop.LoadError.TheVariants as load_error
use Rattle.outside.specs.Loading.{RefusesAs}
use Rattle.schema_files.specs.Causes.{TextTooLong, BadByte, OpenComment, Unexpected, NotProfile, TooMany, Checked, Asked, TypeTooDeep, TooManyInstances, NoJson, Unformed}
use Rattle.schema_files.specs.Lines.{text_line, schema_line, type_line, plan_line, json_line}

abbrev pub TellsLex : List ℕ → LexFault → LoadError → Type 0
TellsLex what lex.TextTooLong u = RefusesAs (text_line what TextTooLong) u
TellsLex what (lex.BadByte at) u = RefusesAs (text_line what (BadByte at)) u
TellsLex what (lex.OpenComment at) u = RefusesAs (text_line what (OpenComment at)) u
TellsLex what lex.Memory u = u ≡ load_error.Memory

abbrev pub TellsSyntax : List ℕ → SyntaxFault → LoadError → Type 0
TellsSyntax what (syntax.Unexpected at) u = RefusesAs (text_line what (Unexpected at)) u
TellsSyntax what (syntax.NotProfile at form) u = RefusesAs (text_line what (NotProfile at form)) u
TellsSyntax what (syntax.TooMany at) u = RefusesAs (text_line what (TooMany at)) u
TellsSyntax what syntax.Memory u = u ≡ load_error.Memory

abbrev pub TellsCheck : List ℕ → CheckFault → LoadError → Type 0
TellsCheck what (check.Refused decl cause) u = RefusesAs (schema_line what (Checked decl cause)) u
TellsCheck what check.Memory u = u ≡ load_error.Memory

abbrev pub TellsNoType : TypeFault → LoadError → Type 0
TellsNoType (type.Lex fault) u = TellsLex (codes "type") fault u
TellsNoType (type.Syntax fault) u = TellsSyntax (codes "type") fault u
TellsNoType (type.Refused cause) u = RefusesAs (type_line (Asked cause)) u
TellsNoType type.Memory u = u ≡ load_error.Memory

abbrev pub TellsNoPlan : PlanFault → LoadError → Type 0
TellsNoPlan (planning.TypeTooDeep decl) u = RefusesAs (plan_line (TypeTooDeep decl)) u
TellsNoPlan planning.TooManyInstances u = RefusesAs (plan_line TooManyInstances) u
TellsNoPlan planning.Memory u = u ≡ load_error.Memory

abbrev pub TellsNoForm : JsonTextFault → LoadError → Type 0
TellsNoForm reading.NoJson u = RefusesAs (json_line NoJson) u
TellsNoForm (reading.Form path cause) u = RefusesAs (json_line (Unformed path.items cause)) u
TellsNoForm reading.Memory u = u ≡ load_error.Memory
