-- The shapes that variables stand for. This project's own.
use denote.Ref.{Bor}
use Rattle.std.specs.Prelude.{◌≡◌, List, [], Bool, true, false, Option, Some, None, map}
use Rattle.tl_schema.specs.Types.{Shape, var}
use Rattle.tl_schema.specs.Closing.{closed}
use Rattle.tl_schema.specs.Seen.{shape}
use Rattle.tl_show.specs.declared.scope.Scope.{Scope, fold-Scope}
use Rattle.tl_show.specs.declared.scope.Scope.TheOpen.{Scope-F}

abbrev pub those_in : Option (Bor (List Shape)) → List Shape
those_in None = []
those_in (Some outer) = outer.now

-- one scope, with the shapes of its outer one already seen
abbrev pub scope_step : Scope-F (List Shape) → List Shape
scope_step s = map (closed (those_in s.outer)) (map shape s.args.now)

abbrev pub shapes_of : Scope → List Shape
shapes_of = fold-Scope (List Shape) scope_step

-- those of a scope, if there is one
abbrev pub shapes_in : Option (Bor Scope) → List Shape
shapes_in None = []
shapes_in (Some scope) = shapes_of scope.now

abbrev pub is_var : Shape → Bool
is_var (var i) = true
is_var T = false

-- it is no variable that stands for another type
abbrev pub IsSettled : List Shape → Shape → Type 0
IsSettled args T = is_var T ≡ true → closed args T ≡ T
