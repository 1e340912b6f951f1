-- The name that a type begins with.
use Rattle.std.proofs.Common.{ℕ, List, []}
use Rattle.tl_program.specs.Trees.{Tree, named, percent, any_call}

abbrev pub type_name : Tree → List ℕ
type_name (named name args) = name
type_name (percent t) = []
type_name any_call = []
