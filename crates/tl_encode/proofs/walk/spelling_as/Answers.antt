use Rattle.std.proofs.Common.{◌∙◌, ℕ, List, ◌++◌, ap, subst, sym}
use Rattle.std.proofs.lemmas.Result.{err_from_is_err_and}
use Rattle.tl_schema.specs.Seen.{shape}
use Rattle.tl_types.specs.Seen.{view}
use Rattle.tl_types.specs.Spelling.{Spells}
use Rattle.tl_types.specs.declared.value.TheConstants.{MAX_LEVELS}
use Rattle.tl_types.proofs.FitsAreSpelled.{each_fits_exactly}
use Rattle.tl_encode.proofs.Refusals.{never_given}
use Rattle.tl_encode.proofs.walk.spelling_as.Goals as goal

pub returns-in_err-fits-clause-fits : goal.returns-in_err-fits-clause-fits
returns-in_err-fits-clause-fits c =
    let p = err_from_is_err_and c.from_residual.result c.from_residual.ensures.1 in
    rw (p.1, p.2) (never_given _ c.in_err-fits.field-0.0 c.in_err-fits.ensures.fits)

pub returns-clause-spelled : goal.returns-clause-spelled
returns-clause-spelled c = λ spelling spells. c.in_ok-spell.ensures spelling spells ∙ ap (λ (z : List ℕ). z ++ spelling) c.new-bytes.ensures.items

pub returns-clause-spells : goal.returns-clause-spells
returns-clause-spells c = λ formed.
    let S = c.args.schema.now in
    let T = shape c.args.of.now in
    let v = view c.args.value.now in
    let told = (each_fits_exactly S c.count-count.ensures.sound MAX_LEVELS T v formed).spelled c.in_ok-fits.ensures.fits in
    (subst (Spells S T v) (sym (c.in_ok-spell.ensures told.0 told.1 ∙ ap (λ (z : List ℕ). z ++ told.0) c.new-bytes.ensures.items)) told.1, told.2)
