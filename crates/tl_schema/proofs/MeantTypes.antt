-- What types mean and what fields hold, where a declaration writes them.
use Rattle.std.proofs.Common.{◌≡◌, List, [], ◌∷◌, map, refl, ap}
use Rattle.tl_program.specs.Trees.{Trees}
use Rattle.tl_program.specs.Program.{DeclText, KindText}
use Rattle.tl_names.specs.Meants.{MeantView, meants, meants_of}
use Rattle.tl_names.specs.MeantDecls.{kind_by}
use Rattle.tl_names.specs.What.{variable_named, what_of}
use Rattle.tl_schema.specs.Types.{Shape, Shapes, shape, shapes_of}
use Rattle.tl_schema.specs.Meanings.{kind_shape, meant_shape, meant_shapes}

abbrev pub meanings : List DeclText → DeclText → Trees → Shapes
meanings ds d ts = meant_shapes ds (meants ds d ts)

abbrev pub held_shape : List DeclText → DeclText → KindText → Shape
held_shape ds d kind = kind_shape ds (kind_by (what_of ds d) (variable_named d) kind)

pub shapes_of_each : (ds : List DeclText) (ms : List MeantView) → shapes_of (map (meant_shape ds) ms) ≡ meant_shapes ds (meants_of ms)
shapes_of_each ds [] = refl
shapes_of_each ds (m ∷ ms) = ap (shape (meant_shape ds m)) (shapes_of_each ds ms)
