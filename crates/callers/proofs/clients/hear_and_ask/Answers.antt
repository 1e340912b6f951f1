use Rattle.std.proofs.Common.{◌∙◌, ap}
use Rattle.box_client.specs.States.{ClientState}
use Rattle.box_client.proofs.GivenOnce.{pushed_next}
use Rattle.callers.proofs.clients.hear_and_ask.Goals as goal

pub tick-requires : goal.tick-requires
tick-requires c = record { limit = rw (ap (λ (s : ClientState). s.next) c.in_ok-hear_push.ensures.ok ∙ pushed_next c.args.client.now c.args.push) c.requires.limit }
