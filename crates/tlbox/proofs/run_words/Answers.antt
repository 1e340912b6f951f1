use Rattle.std.proofs.Common.{map, string_bytes}
use Rattle.real_host.specs.Seen.{ends_of, seen}
use Rattle.tlbox.proofs.Ending.{ran_named, ran_unnamed}
use Rattle.tlbox.proofs.run_words.Goals as goal

pub returns-in-Done : goal.returns-in-Done
returns-in-Done c =
    ran_named (map string_bytes c.args.words.now) (seen c.args.host.now) (seen c.run.new.host) (seen c.name_state.new.host) (ends_of c.name_state.new.host) c.name_state.result
    (rw c.in-Done.is at c.run.ensures) c.name_state.ensures

pub returns-in_default : goal.returns-in_default
returns-in_default c =
    ran_unnamed (map string_bytes c.args.words.now) (seen c.args.host.now) (seen c.run.new.host) (seen c.discard_state.new.self) (ends_of c.discard_state.new.self) c.run.result
    (ends_of c.run.new.host) c.in_default.not-Done c.discard_state.ensures.ends c.discard_state.ensures.calls c.run.ensures
