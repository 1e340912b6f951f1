-- Closing a list of types.
use Rattle.std.proofs.Common.{◌≡◌, ℕ, List, [], ◌∷◌, take, map, refl, ap, ◌∙◌, length, ◌≤◌}
use Rattle.std.proofs.lemmas.List.{take_all}
use Rattle.tl_schema.specs.Types.{Shape, shapes_of}
use Rattle.tl_schema.specs.Types as type
use Rattle.tl_schema.specs.Closing.{closed, closed_each}
use Rattle.tl_schema.specs.Seen.{shape}
use Rattle.tl_schema.specs.declared.schema.TypeRef.{TypeRef}

by_parts : (args : List Shape) (ts : List TypeRef) → shapes_of (map (λ t. closed args (shape t)) ts) ≡ closed_each args (shapes_of (map shape ts))
by_parts args [] = refl
by_parts args (t ∷ ts) = ap (type.shape (closed args (shape t))) (by_parts args ts)

pub all_closed : (args : List Shape) (ts us : List TypeRef) (i : ℕ) → map shape us ≡ map (λ t. closed args (shape t)) (take i ts) → length ts ≤ i → shapes_of (map shape us) ≡ closed_each args (shapes_of (map shape ts))
all_closed args ts us i h le = ap shapes_of (h ∙ ap (map (λ t. closed args (shape t))) (take_all i ts le)) ∙ by_parts args ts
