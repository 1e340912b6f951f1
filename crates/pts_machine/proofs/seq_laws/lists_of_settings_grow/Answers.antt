use Rattle.pts_machine.proofs.Growing.{stretch_grows, overlay_grows, stretch_appended}
use Rattle.box_events.proofs.SettingDates.{since_append, rise_pushed}
use Rattle.pts_machine.proofs.seq_laws.lists_of_settings_grow.Goals as goal

pub returns-clause-stretch : goal.returns-clause-stretch
returns-clause-stretch c = stretch_grows

pub returns-clause-overlay : goal.returns-clause-overlay
returns-clause-overlay c = overlay_grows

pub returns-clause-since : goal.returns-clause-since
returns-clause-since c = since_append

pub returns-clause-appended : goal.returns-clause-appended
returns-clause-appended c = stretch_appended

pub returns-clause-rises : goal.returns-clause-rises
returns-clause-rises c = rise_pushed
