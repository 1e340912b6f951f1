-- The lengths of lists of values.
use Rattle.std.proofs.Common.{◌≡◌, List, [], ◌∷◌, length, refl, ◌∙◌, arith, Vec, vec_len, Global}
use Rattle.tl_types.specs.Values.{count}
use Rattle.tl_types.specs.Seen.{views}
use Rattle.tl_types.specs.declared.value.Value.{Value}

pub counted : (vs : List Value) → count (views vs) ≡ length vs
counted [] = refl
counted (v ∷ vs) = let rest = counted vs in omega (arith, rest)

pub vec_counted : (vs : Vec Value Global) → count (views vs.items) ≡ vec_len vs
vec_counted vs = counted vs.items ∙ omega (arith, vs.ok)
