use Rattle.box_server.proofs.Growths.{grows_none, grows_then, post_grows, dated_grows, more_posted, whole_more}
use Rattle.box_server.proofs.laws.servers_only_grow.Goals as goal

pub returns-clause-none : goal.returns-clause-none
returns-clause-none c = grows_none

pub returns-clause-joins : goal.returns-clause-joins
returns-clause-joins c = grows_then

pub returns-clause-post : goal.returns-clause-post
returns-clause-post c = post_grows

pub returns-clause-date : goal.returns-clause-date
returns-clause-date c = dated_grows

pub returns-clause-channel : goal.returns-clause-channel
returns-clause-channel c = more_posted

pub returns-clause-whole : goal.returns-clause-whole
returns-clause-whole c = whole_more
