-- The types that the language has from the start: their names.
-- From "TL language" (core.telegram.org/mtproto/TL), its built-in types.
use Rattle.std.specs.Prelude.{ℕ, List, Option, Some, None, bytes_eq, if◌then◌else◌, codes}
use Rattle.tl_program.specs.declared.built_in.BuiltIn.{BuiltIn}
use Rattle.tl_program.specs.declared.built_in.BuiltIn.TheVariants.{Int, Long, Double, Str, Bytes, Vector, Int128, Int256}

-- the name of the line
abbrev pub own_name : BuiltIn → List ℕ
own_name Int = codes "int"
own_name Long = codes "long"
own_name Double = codes "double"
own_name Str = codes "string"
own_name Bytes = codes "bytes"
own_name Vector = codes "vector"
own_name Int128 = codes "int128"
own_name Int256 = codes "int256"

-- its boxed type, which stands after `=`
abbrev pub boxed_name : BuiltIn → List ℕ
boxed_name Int = codes "Int"
boxed_name Long = codes "Long"
boxed_name Double = codes "Double"
boxed_name Str = codes "String"
boxed_name Bytes = codes "Bytes"
boxed_name Vector = codes "Vector"
boxed_name Int128 = codes "Int128"
boxed_name Int256 = codes "Int256"

-- the line that a name begins
abbrev pub built_in : List ℕ → Option BuiltIn
built_in name =
    if bytes_eq name (own_name Int) then Some Int else if bytes_eq name (own_name Long) then Some Long
    else if bytes_eq name (own_name Double) then Some Double else if bytes_eq name (own_name Str) then Some Str
    else if bytes_eq name (own_name Bytes) then Some Bytes else if bytes_eq name (own_name Vector) then Some Vector
    else if bytes_eq name (own_name Int128) then Some Int128 else if bytes_eq name (own_name Int256) then Some Int256 else None
