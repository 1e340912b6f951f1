use Rattle.update_sessions.proofs.KeptCalls.{calls_are_kept, rebuilt_serve_alike, sessions_keep_dates}
use Rattle.update_sessions.proofs.laws.sessions_are_kept.Goals as goal

pub returns-clause-kept : goal.returns-clause-kept
returns-clause-kept c = calls_are_kept

pub returns-clause-alike : goal.returns-clause-alike
returns-clause-alike c = rebuilt_serve_alike

pub returns-clause-dates : goal.returns-clause-dates
returns-clause-dates c = sessions_keep_dates
