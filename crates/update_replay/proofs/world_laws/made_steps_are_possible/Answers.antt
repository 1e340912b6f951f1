use Rattle.update_replay.proofs.Dates.{made_dates_are_next, made_dates_stay_below}
use Rattle.update_replay.proofs.DrawLaws.{draws_are_small, first_draw, made_steps_are_refused_by_bytes}
use Rattle.update_replay.proofs.world_laws.made_steps_are_possible.Goals as goal

pub returns-clause-small : goal.returns-clause-small
returns-clause-small c = draws_are_small

pub returns-clause-first : goal.returns-clause-first
returns-clause-first c = first_draw

pub returns-clause-refused : goal.returns-clause-refused
returns-clause-refused c = made_steps_are_refused_by_bytes

pub returns-clause-dates : goal.returns-clause-dates
returns-clause-dates c = made_dates_are_next

pub returns-clause-below : goal.returns-clause-below
returns-clause-below c = made_dates_stay_below
