-- The search for a declaration.
use Rattle.std.proofs.Common.{◌≡◌, ℕ, suc, ◌+◌, List, ◌∷◌, drop, Some, refl, ap, ◌∙◌, arith, Bool, true, false}
use Rattle.std.specs.Prelude.{slice_get}
use Rattle.std.proofs.lemmas.List.{drop_more}
use Rattle.std.proofs.lemmas.Option.{slice_get_within, get_or_from_slice_get}
use Rattle.tl_schema.specs.Schemas.{Declaration}
use Rattle.tl_types.specs.inner.Reading.{first_from}

drop_there : (ds : List Declaration) (i : ℕ) (d : Declaration) → slice_get ds i ≡ Some d → drop i ds ≡ d ∷ drop (i + 1) ds
drop_there ds i d there = drop_more ds i d (slice_get_within ds i d there) ∙ ap (λ (x : Declaration). x ∷ drop (i + 1) ds) (get_or_from_slice_get ds i d d there)

pub first_here : (test : Declaration → Bool) (ds : List Declaration) (i : ℕ) (d : Declaration) → slice_get ds i ≡ Some d → test d ≡ true → first_from test i (drop i ds) ≡ Some i
first_here test ds i d there is = rw (drop_there ds i d there, is) refl

pub first_later : (test : Declaration → Bool) (ds : List Declaration) (i : ℕ) (d : Declaration) → slice_get ds i ≡ Some d → test d ≡ false → first_from test i (drop i ds) ≡ first_from test (i + 1) (drop (i + 1) ds)
first_later test ds i d there is =
    let next : suc i ≡ i + 1 = omega arith in
    rw (drop_there ds i d there, is) (ap (λ (k : ℕ). first_from test k (drop (i + 1) ds)) next)
