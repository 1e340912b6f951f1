use Rattle.pts_machine.proofs.Fitting.{fits_new, fits_hear, fits_asked, fits_extend, fits_restart, fits_forget, fits_loaded, fits_grows}
use Rattle.pts_machine.proofs.laws.lanes_fit_boxes.Goals as goal

pub returns-clause-new : goal.returns-clause-new
returns-clause-new c = fits_new

pub returns-clause-hear : goal.returns-clause-hear
returns-clause-hear c = fits_hear

pub returns-clause-ask : goal.returns-clause-ask
returns-clause-ask c = fits_asked

pub returns-clause-extend : goal.returns-clause-extend
returns-clause-extend c = fits_extend

pub returns-clause-restart : goal.returns-clause-restart
returns-clause-restart c = fits_restart

pub returns-clause-forget : goal.returns-clause-forget
returns-clause-forget c = fits_forget

pub returns-clause-load : goal.returns-clause-load
returns-clause-load c = fits_loaded

pub returns-clause-grows : goal.returns-clause-grows
returns-clause-grows c = fits_grows
