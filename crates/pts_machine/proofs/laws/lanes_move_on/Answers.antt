use Rattle.pts_machine.proofs.Moves.{hear_mode, hear_restart, hear_at, hear_events, hear_up, extend_up, restart_up}
use Rattle.pts_machine.proofs.laws.lanes_move_on.Goals as goal

pub returns-clause-mode : goal.returns-clause-mode
returns-clause-mode g c = hear_mode

pub returns-clause-restart : goal.returns-clause-restart
returns-clause-restart g c = hear_restart

pub returns-clause-stands : goal.returns-clause-stands
returns-clause-stands g c = hear_at

pub returns-clause-events : goal.returns-clause-events
returns-clause-events g c = hear_events

pub returns-clause-rises : goal.returns-clause-rises
returns-clause-rises g c = hear_up

pub returns-clause-extended : goal.returns-clause-extended
returns-clause-extended g c = extend_up

pub returns-clause-restarted : goal.returns-clause-restarted
returns-clause-restarted g c = restart_up
