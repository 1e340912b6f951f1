use Rattle.wire_profile.proofs.ClearValues.{clear_of, no_cause, clear_here, clear_parts, clear_at}
use Rattle.wire_profile.proofs.RuleFacts.{clear_of_call, no_call_cause}
use Rattle.wire_profile.proofs.wire_laws.values_without_a_cause.Goals as goal

pub returns-clause-clear : goal.returns-clause-clear
returns-clause-clear c = clear_of

pub returns-clause-no_cause : goal.returns-clause-no_cause
returns-clause-no_cause c = no_cause

pub returns-clause-clear_call : goal.returns-clause-clear_call
returns-clause-clear_call c = clear_of_call

pub returns-clause-no_call_cause : goal.returns-clause-no_call_cause
returns-clause-no_call_cause c = no_call_cause

pub returns-clause-record : goal.returns-clause-record
returns-clause-record c = clear_here

pub returns-clause-parts : goal.returns-clause-parts
returns-clause-parts c = clear_parts

pub returns-clause-part : goal.returns-clause-part
returns-clause-part c = clear_at
