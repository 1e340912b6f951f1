use Rattle.std.proofs.Common.{◌≡◌, ◌++◌, subst}
use Rattle.std.proofs.lemmas.Result.{on_ok_weaker}
use Rattle.box_events.specs.declared.positions.State.{State}
use Rattle.report_lines.specs.Closing.{server_line}
use Rattle.update_replay.proofs.LineLists.{two_puts}
use Rattle.update_replay.proofs.lines.put_end.Goals as goal

pub returns : goal.returns
returns c = on_ok_weaker c.put_clients.result (λ last. two_puts _ _ _ _ _
    (subst (λ (s : State). c.put_server.new.lines.items ≡ c.args.lines.now.items ++ server_line s) c.state.ensures c.in_ok-put_server.ensures) last)
    c.put_clients.ensures
