-- The types that some of the code's own stand for.
use Rattle.std.proofs.Common.{◌≡◌, ℕ, Bool, ap, ◌∙◌, rules, Global}
use Rattle.std.specs.Prelude.{Box}
use Rattle.tl_schema.specs.Seen.{shape}
use Rattle.tl_schema.specs.Types.{shapes_of}
use Rattle.tl_schema.specs.Types as type
use Rattle.tl_schema.specs.declared.schema.TypeRef as ref
use Rattle.tl_schema.specs.declared.schema.TypeRef.{TypeRef}

pub shape-Var : (t : TypeRef) (i : ℕ) → t ≡ ref.Var i → shape t ≡ type.var i
shape-Var t i e = ap shape e ∙ search (rules, ref.the_lemmas)

pub shape-Vector : (t : TypeRef) (is_boxed : Bool) (item : Box TypeRef Global) → t ≡ ref.Vector is_boxed item → shape t ≡ type.vector is_boxed (shape item.value)
shape-Vector t is_boxed item e = ap shape e ∙ search (rules, ref.the_lemmas)
