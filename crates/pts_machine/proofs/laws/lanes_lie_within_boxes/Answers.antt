use Rattle.pts_machine.proofs.Fitting.{fits_inside, fits_after, fits_reaches, fits_sound}
use Rattle.pts_machine.proofs.laws.lanes_lie_within_boxes.Goals as goal

pub returns-clause-inside : goal.returns-clause-inside
returns-clause-inside c = fits_inside

pub returns-clause-after : goal.returns-clause-after
returns-clause-after c = fits_after

pub returns-clause-reaches : goal.returns-clause-reaches
returns-clause-reaches c = fits_reaches

pub returns-clause-sound : goal.returns-clause-sound
returns-clause-sound c = fits_sound
