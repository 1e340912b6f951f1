use Rattle.std.proofs.Common.{true, false}
use Rattle.outside.specs.Events.{connected}
use Rattle.outside.specs.Begun.{WritesOnly, to_link}
use Rattle.outside.proofs.Causing.{keeps_call}
use Rattle.outside.proofs.Growing.{did_any, did_both, did_call, did_then}
use Rattle.session_rooms.specs.Client.{after_connect}
use Rattle.session_rooms.proofs.client.recover.Goals as goal

pub returns-in-Ok : goal.returns-in-Ok
returns-in-Ok g c = did_then _ (after_connect c.args.profile.now c.args.state.now c.args.client) _ _ _ true _ (keeps_call (WritesOnly to_link) (connected c.args.address.now) (λ ok. tt)) (did_call (connected c.args.address.now) _ _ true c.in-Ok.ensures) c.recover_linked.ensures

pub returns : goal.returns
returns g c = did_both _ (after_connect c.args.profile.now c.args.state.now c.args.client) _ _ _ false _ (did_call (connected c.args.address.now) _ _ false c.in-Err.ensures) (did_any _ _ _ _ c.tell.ensures)
