use Rattle.std.proofs.Common.{subst, sym, ℤ, List}
use Rattle.outside.specs.Begun.{to_link}
use Rattle.outside.specs.Runs.{RunsIn}
use Rattle.outside.specs.Steps.{Grows}
use Rattle.session_rooms.specs.Client.{recovers}
use Rattle.commands.specs.Requests.{request_text}
use Rattle.commands.specs.Work.{RunsRequest}
use Rattle.commands.specs.declared.request.Request.{Request}
use Rattle.commands.proofs.program.run_request.Goals as goal

pub returns-in-Client : goal.returns-in-Client
returns-in-Client g c =
    let before = g.H.Host.state c.args.host.now in
    let after = g.H.Host.state c.run_client.new.host in
    let given = subst (λ (ids : List ℤ). Grows before after (λ t. RunsIn to_link (recovers c.in-Client.schema.now c.in-Client.address.now c.in-Client.state.now ids) t c.run_client.result)) c.as_slice.ensures.value c.run_client.ensures in
    subst (λ (r : Request). Grows before after (λ t. RunsRequest (request_text r) t c.run_client.result)) (sym c.in-Client.is) given
