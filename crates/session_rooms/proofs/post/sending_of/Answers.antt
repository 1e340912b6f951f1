use Rattle.std.proofs.lemmas.Result.{err_from_is_err_and}
use Rattle.session_rooms.proofs.Posting.{call_made, no_json_made}
use Rattle.session_rooms.proofs.post.sending_of.Goals as goal

pub returns-in_err-value : goal.returns-in_err-value
returns-in_err-value c =
    let q = err_from_is_err_and c.from_residual.result c.from_residual.ensures.1 in
    rw (q.1, q.2) (no_json_made c.args.profile.now c.args.text.now c.in_err-value.field-0.0 c.in_err-value.ensures)

pub returns : goal.returns
returns c = call_made c.args.profile.now c.args.text.now c.requires.sound c.in_ok-value.value c.in_ok-value.ensures c.call_of.result c.call_of.ensures
