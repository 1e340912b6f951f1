use Rattle.std.proofs.lemmas.Result.{err_from_is_err_and}
use Rattle.session_rooms.proofs.Conversations.{begun_and_heard, begun_and_cut, can_converse}
use Rattle.outside.proofs.Growing.{did_none}
use Rattle.session_rooms.specs.Conversing.{Converses}
use Rattle.session_rooms.proofs.conversing.converse.Goals as goal

pub returns-in_err-ask_all : goal.returns-in_err-ask_all
returns-in_err-ask_all g c =
    let q = err_from_is_err_and c.from_residual.result c.from_residual.ensures.1 in
    rw (q.1, q.2) (did_none (Converses c.args.profile.now c.args.client.now) _ (can_converse c.args.profile.now c.args.client.now))

pub returns-in-Ok : goal.returns-in-Ok
returns-in-Ok g c = begun_and_heard c.args.profile.now c.args.client.now c.ask_all.new.client _ _ _ _ c.ask_all.ensures.begins (c.in-Ok.ensures c.args.profile.now _ c.in_ok-ask_all.ensures.asks) c.hear_all.ensures

pub returns : goal.returns
returns g c = begun_and_cut c.args.profile.now c.args.client.now _ _ (c.in-Err.ensures c.args.profile.now _ c.in_ok-ask_all.ensures.asks)
