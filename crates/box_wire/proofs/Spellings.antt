-- The spelling of a value, and what is answered of it.
use Rattle.std.proofs.Common.{◌≡◌, ℕ, List, None, Result, Err, sym, subst, refl, inl, inr}
use Rattle.tl_schema.specs.Types.{Shape}
use Rattle.tl_schema.specs.Schemas.{Declared}
use Rattle.tl_schema.specs.CheckedPrograms.{IsSchema}
use Rattle.tl_schema.specs.Formed.{IsFormed}
use Rattle.tl_types.specs.Values.{ValueView}
use Rattle.tl_types.specs.Spelling.{Spells}
use Rattle.tl_types.specs.Fitting.{misfit}
use Rattle.tl_types.specs.declared.value.TheConstants.{MAX_LEVELS}
use Rattle.tl_types.proofs.FitsAreSpelled.{each_fits_exactly}
use Rattle.box_wire.specs.declared.fault.SpellFault.{SpellFault}
use Rattle.box_wire.specs.declared.fault.SpellFault.TheVariants.{Memory}
use Rattle.box_wire.specs.Answers.{GivesSpelling, Spelled}
use Rattle.box_wire.specs.inner.Wholes.{IsSpelling}

-- bytes without a misfit that are each spelling
pub spelling_is : (S : Declared) → IsSchema S → (T : Shape) → IsFormed S T → (v : ValueView) (bytes : List ℕ) → misfit S.decls MAX_LEVELS None T v ≡ None → ((b : List ℕ) → Spells S T v b → bytes ≡ b) → IsSpelling S T v bytes
spelling_is S good T formed v bytes fits each =
    let s = (each_fits_exactly S good MAX_LEVELS T v formed).spelled fits in
    (subst (Spells S T v) (sym (each s.0 s.1)) s.1, each)

pub spelled_by : (S : Declared) (T : Shape) (v : ValueView) (bytes : List ℕ) (r : Result (List ℕ) SpellFault) → IsSpelling S T v bytes → GivesSpelling bytes r → Spelled (Spells S T v) r
spelled_by S T v bytes r is gives = record { given = inr (bytes, is.0, gives); each = λ b s. subst (λ (z : List ℕ). GivesSpelling z r) (is.1 b s) gives }

pub spelled_none : (Framed : List ℕ → Type 0) → Spelled Framed (Err Memory)
spelled_none Framed = record { given = inl refl; each = λ b s. tt }
