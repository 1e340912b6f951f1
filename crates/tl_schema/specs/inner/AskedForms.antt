-- What holds of each type that a resolved one stands for, where a text asks for it. This project's own.
use Rattle.std.specs.Prelude.{◌≡◌, List}
use Rattle.tl_program.specs.Trees.{Tree}
use Rattle.tl_program.specs.Program.{DeclText}
use Rattle.tl_names.specs.Meants.{MeantView, meant}
use Rattle.tl_schema.specs.AskedTypes.{asker}

-- where m is the type t, as who asks for it writes it
abbrev pub ForAsked : List DeclText → MeantView → (Tree → Type 0) → Type 0
ForAsked ds m P = (t : Tree) → m ≡ meant ds asker t → P t
