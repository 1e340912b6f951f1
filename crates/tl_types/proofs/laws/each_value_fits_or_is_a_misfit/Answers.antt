use Rattle.tl_types.proofs.FitsAreSpelled.{each_fits_exactly}
use Rattle.tl_types.proofs.laws.each_value_fits_or_is_a_misfit.Goals as goal

pub returns : goal.returns
returns c = each_fits_exactly
