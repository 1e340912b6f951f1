use Rattle.std.proofs.Common.{◌∙◌, ap, ◌++◌}
use Rattle.update_replay.specs.WorldLines.{end_lines}
use Rattle.update_replay.proofs.Handed.{closed, memory_out, past_end}
use Rattle.update_replay.proofs.machine.Replay.close.Goals as goal

pub returns-then-self : goal.returns-then-self
returns-then-self c = λ p n journal ss output h. past_end p n journal ss output c.args.world.now c.args.self.now h c.args.self.now.lines c.requires.empty c.requires.ended c.if-self.true

pub returns-in-Ok : goal.returns-in-Ok
returns-in-Ok c = λ p n journal ss output h.
    closed p n journal ss output c.args.world.now c.args.self.now h c.put_end.new.lines c.requires.ended c.if-self.false (c.in-Ok.ensures ∙ ap (λ l. l ++ end_lines c.args.world.now) c.requires.empty)

pub returns-in-Err : goal.returns-in-Err
returns-in-Err c = λ p n journal ss output h. memory_out p n journal ss output c.args.world.now c.args.self.now h c.clear.new.self c.args.world.now c.clear.ensures.items
