use Rattle.box_events.proofs.Copying.{joins, boundary_after}
use Rattle.box_events.proofs.KeptStretches.{box_grows, box_cut, box_was, box_whole, box_part, box_starts, box_counts, box_inside, box_one}
use Rattle.box_events.proofs.laws.stretches_of_kept_boxes.Goals as goal

pub returns-clause-grows : goal.returns-clause-grows
returns-clause-grows c = box_grows

pub returns-clause-cut : goal.returns-clause-cut
returns-clause-cut c = box_cut

pub returns-clause-was : goal.returns-clause-was
returns-clause-was c = box_was

pub returns-clause-whole : goal.returns-clause-whole
returns-clause-whole c = box_whole

pub returns-clause-kept : goal.returns-clause-kept
returns-clause-kept c = box_part

pub returns-clause-joins : goal.returns-clause-joins
returns-clause-joins c = joins

pub returns-clause-starts : goal.returns-clause-starts
returns-clause-starts c = box_starts

pub returns-clause-stops : goal.returns-clause-stops
returns-clause-stops c = boundary_after

pub returns-clause-counts : goal.returns-clause-counts
returns-clause-counts c = box_counts

pub returns-clause-inside : goal.returns-clause-inside
returns-clause-inside c = box_inside

pub returns-clause-one : goal.returns-clause-one
returns-clause-one c = box_one
