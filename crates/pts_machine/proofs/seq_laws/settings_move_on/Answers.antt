use Rattle.pts_machine.proofs.StateSteps.{pack_mode, pack_stands, overlay_reaches, overlay_live}
use Rattle.pts_machine.proofs.seq_laws.settings_move_on.Goals as goal

pub returns-clause-mode : goal.returns-clause-mode
returns-clause-mode c = pack_mode

pub returns-clause-stands : goal.returns-clause-stands
returns-clause-stands c = pack_stands

pub returns-clause-reaches : goal.returns-clause-reaches
returns-clause-reaches c = overlay_reaches

pub returns-clause-live : goal.returns-clause-live
returns-clause-live c = overlay_live
