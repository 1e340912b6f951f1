use Rattle.box_server.proofs.Carrying.{run_lies, rest_lies, channel_run_lies, whole_run_is, carries_first, changed_overlays}
use Rattle.box_server.proofs.laws.differences_lie_in_boxes.Goals as goal

pub returns-clause-run : goal.returns-clause-run
returns-clause-run c = run_lies

pub returns-clause-rest : goal.returns-clause-rest
returns-clause-rest c = rest_lies

pub returns-clause-channel : goal.returns-clause-channel
returns-clause-channel c = channel_run_lies

pub returns-clause-whole : goal.returns-clause-whole
returns-clause-whole c = whole_run_is

pub returns-clause-first : goal.returns-clause-first
returns-clause-first c = carries_first

pub returns-clause-settings : goal.returns-clause-settings
returns-clause-settings c = changed_overlays
