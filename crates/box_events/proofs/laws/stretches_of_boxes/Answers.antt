use Rattle.box_events.proofs.Stretches.{between_grows, between_joins, appended_lies, starts_at, stops_at, stretch_counts, stretch_inside, between_one}
use Rattle.box_events.proofs.laws.stretches_of_boxes.Goals as goal

pub returns-clause-grows : goal.returns-clause-grows
returns-clause-grows c = between_grows

pub returns-clause-joins : goal.returns-clause-joins
returns-clause-joins c = between_joins

pub returns-clause-appended : goal.returns-clause-appended
returns-clause-appended c = appended_lies

pub returns-clause-starts : goal.returns-clause-starts
returns-clause-starts c = starts_at

pub returns-clause-stops : goal.returns-clause-stops
returns-clause-stops c = stops_at

pub returns-clause-counts : goal.returns-clause-counts
returns-clause-counts c = stretch_counts

pub returns-clause-inside : goal.returns-clause-inside
returns-clause-inside c = stretch_inside

pub returns-clause-one : goal.returns-clause-one
returns-clause-one c = between_one
