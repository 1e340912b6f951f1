use Rattle.box_events.proofs.Once.{is_one_list, each_fits, each_that_fits_is_woven, has_others, is_not_refused, others_keep_their_numbers}
use Rattle.box_events.proofs.Joined.{joins, each_has_parts}
use Rattle.box_events.proofs.Made.{is_made, is_woven_of_others, reaches, is_why, keeps_counts}
use Rattle.box_events.proofs.difference_laws.woven_lists.Goals as goal

pub returns-clause-one : goal.returns-clause-one
returns-clause-one c = is_one_list

pub returns-clause-fits : goal.returns-clause-fits
returns-clause-fits c = each_fits

pub returns-clause-woven : goal.returns-clause-woven
returns-clause-woven c = each_that_fits_is_woven

pub returns-clause-others : goal.returns-clause-others
returns-clause-others c = has_others

pub returns-clause-taken : goal.returns-clause-taken
returns-clause-taken c = is_not_refused

pub returns-clause-parts : goal.returns-clause-parts
returns-clause-parts c = each_has_parts

pub returns-clause-joins : goal.returns-clause-joins
returns-clause-joins c = joins

pub returns-clause-made : goal.returns-clause-made
returns-clause-made c = is_made

pub returns-clause-made_back : goal.returns-clause-made_back
returns-clause-made_back c = is_woven_of_others

pub returns-clause-reaches : goal.returns-clause-reaches
returns-clause-reaches c = reaches

pub returns-clause-why : goal.returns-clause-why
returns-clause-why c = is_why

pub returns-clause-counted : goal.returns-clause-counted
returns-clause-counted c = keeps_counts

pub returns-clause-numbered : goal.returns-clause-numbered
returns-clause-numbered c = others_keep_their_numbers
