use Rattle.real_host.specs.Seen.{ends_of, seen}
use Rattle.tlbox.proofs.Ending.{state_unnamed}
use Rattle.tlbox.proofs.name_state.Goals as goal

pub returns-in-Err : goal.returns-in-Err
returns-in-Err c =
    state_unnamed (seen c.args.host.now) (seen c.keep_state.new.self) (seen c.tell.new.host) (ends_of c.tell.new.host) c.tell.result (rw c.in-Err.is at c.keep_state.ensures.err) c.tell.ensures
