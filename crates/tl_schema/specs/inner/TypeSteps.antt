-- What the checks of a type answer. This project's own.
use Rattle.std.specs.Prelude.{◌≡◌, List, Result, Ok, Err}
use Rattle.tl_program.specs.Trees.{Tree}
use Rattle.tl_program.specs.Program.{DeclText}
use Rattle.tl_schema.specs.Seen.{shape}
use Rattle.tl_schema.specs.Meanings.{meaning}
use Rattle.tl_schema.specs.AskedTypes.{asker, type_causes, PassesTypeBy, RefusedTypeBy}
use Rattle.tl_schema.specs.declared.schema.TypeRef.{TypeRef}
use Rattle.tl_schema.specs.declared.fault.TypeFault.{TypeFault}
use Rattle.tl_schema.specs.declared.fault.TypeFault.TheVariants as type

-- what the checks of a type answer
abbrev pub PassesType : List DeclText → Tree → Result (Unit {0}) TypeFault → Type 0
PassesType ds t (Ok u) = PassesTypeBy ds type_causes t
PassesType ds t (Err (type.Lex fault)) = ⊥
PassesType ds t (Err (type.Syntax fault)) = ⊥
PassesType ds t (Err (type.Refused cause)) = RefusedTypeBy ds type_causes t cause
PassesType ds t (Err type.Memory) = Unit {0}

-- what a type is, where a text asks for it
abbrev pub ChecksType : List DeclText → Tree → Result TypeRef TypeFault → Type 0
ChecksType ds t (Ok type) = PassesTypeBy ds type_causes t × (shape type ≡ meaning ds asker t)
ChecksType ds t (Err (type.Lex fault)) = ⊥
ChecksType ds t (Err (type.Syntax fault)) = ⊥
ChecksType ds t (Err (type.Refused cause)) = RefusedTypeBy ds type_causes t cause
ChecksType ds t (Err type.Memory) = Unit {0}
