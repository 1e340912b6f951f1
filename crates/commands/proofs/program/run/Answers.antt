use Rattle.std.proofs.Common.{subst}
use Rattle.commands.specs.Requests.{request_text, FindsRequest}
use Rattle.commands.proofs.Ranges.{in_range}
use Rattle.commands.proofs.RunsWords.{ran_none, ran_out, ran_request}
use Rattle.commands.proofs.program.run.Goals as goal

pub run_request-requires : goal.run_request-requires
run_request-requires g c = in_range _ (request_text c.in-Ok-Some.request) (subst (FindsRequest _) c.in-Ok-Some.field-0-is c.in-Ok-Some.ensures)

pub returns-in-Ok-None : goal.returns-in-Ok-None
returns-in-Ok-None g c = ran_none _ _ _ c.tell.result (subst (FindsRequest _) c.in-Ok-None.field-0-is c.in-Ok-None.ensures) c.tell.ensures

pub returns-in-Ok-Some : goal.returns-in-Ok-Some
returns-in-Ok-Some g c = ran_request _ _ _ c.run_request.result (request_text c.in-Ok-Some.request) (subst (FindsRequest _) c.in-Ok-Some.field-0-is c.in-Ok-Some.ensures) c.run_request.ensures

pub returns-in-Err : goal.returns-in-Err
returns-in-Err g c = ran_out _ _ _ c.tell-in-Err.result c.tell-in-Err.ensures
