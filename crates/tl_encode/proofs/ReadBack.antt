-- What is spelled is read back.
use Rattle.std.proofs.Common.{inr, ℕ, ◌≤◌, List, ◌++◌, refl}
use Rattle.tl_schema.specs.Types.{Shape}
use Rattle.tl_schema.specs.Schemas.{Declared}
use Rattle.tl_schema.specs.CheckedPrograms.{IsSchema}
use Rattle.tl_schema.specs.Formed.{IsFormed}
use Rattle.tl_types.specs.Values.{ValueView, depth}
use Rattle.tl_types.specs.Spelling.{Spells}
use Rattle.tl_types.specs.declared.value.TheConstants.{MAX_LEVELS}
use Rattle.tl_types.proofs.Exactly.{never_both, one_value}
use Rattle.tl_types.proofs.SchemaTells.{schema_tells}
use Rattle.tl_encode.specs.ReadBack.{IsReadBack, EachSpellingReadsBack}
use Rattle.tl_encode.proofs.OneSpelling.{one_spelling}
use Rattle.tl_types.proofs.FitsAreSpelled.{each_fits_exactly}

read_back : (schema : Declared) → IsSchema schema → (T : Shape) (v : ValueView) → IsFormed schema T → depth v ≤ MAX_LEVELS → (x : List ℕ) → Spells schema T v x → IsReadBack schema T v x
read_back schema good T v formed deep x s =
    let tell = schema_tells schema good in
    record {
      spells = s;
      only = λ y r. one_spelling schema v T y x r s;
      begins = λ rest. (rest, refl, s, deep);
      one_value = λ rest w y other. one_value schema tell MAX_LEVELS T (x ++ rest) w v y x other (rest, refl, s, deep);
      never_refused = λ rest at cause r. never_both schema tell MAX_LEVELS T (inr formed) (x ++ rest) v x at cause (rest, refl, s, deep) r;
    }

pub each_read_back : EachSpellingReadsBack
each_read_back schema good T v formed fits =
    let spelled = (each_fits_exactly schema good MAX_LEVELS T v formed).spelled fits in
    (spelled.0, read_back schema good T v formed spelled.2 spelled.0 spelled.1)
