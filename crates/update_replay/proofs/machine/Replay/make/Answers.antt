use Rattle.std.proofs.Common.{◌∙◌, ap, ◌++◌, arith, refl, rules}
use Rattle.std.proofs.lemmas.List.{take_rest}
use Rattle.update_replay.specs.WorldLines.{outcome_lines}
use Rattle.update_replay.proofs.Handed.{found_inside, inside, made_on, memory_out, not_stepped, too_late}
use Rattle.update_replay.proofs.StepsMade.{there}
use Rattle.update_replay.proofs.machine.Replay.make.Goals as goal

pub put_step-requires : goal.put_step-requires
put_step-requires c = let g = c.requires.going in there c.args.world.now c.step.new.self c.args.self.now.steps c.args.step c.in-Ok.outcome c.in-Ok.ensures.happens c.in-Ok.ensures.profile c.in-Ok.ensures.clients g.0 g.1 g.3 (g.5).stands (g.5).number

pub returns-then-self-ge-MAX_STEPS : goal.returns-then-self-ge-MAX_STEPS
returns-then-self-ge-MAX_STEPS c = λ p n journal ss output h. too_late p n journal ss output c.args.world.now c.args.self.now h c.args.step c.args.size c.requires.found c.requires.empty (search rules)

pub returns-in-Err-Refused : goal.returns-in-Err-Refused
returns-in-Err-Refused c = λ p n journal ss output h.
    not_stepped p n journal ss output c.args.world.now c.args.self.now h c.args.step c.args.size c.requires.found c.step.new.self (search rules) c.in-Err-Refused.fault c.requires.empty (rw c.in-Err-Refused.field-0-is at c.in-Err-Refused.ensures.happens)

pub returns-in-Err-Memory : goal.returns-in-Err-Memory
returns-in-Err-Memory c = λ p n journal ss output h. memory_out p n journal ss output c.args.world.now c.args.self.now h c.args.self.now.lines c.step.new.self c.requires.empty

pub returns-in-Ok-put_step : goal.returns-in-Ok-put_step
returns-in-Ok-put_step c = λ p n journal ss output h.
    made_on p n journal ss output c.args.world.now c.args.self.now h c.args.step c.args.size c.requires.found c.step.new.self (search rules) _ c.in-Ok.outcome c.in-Ok.ensures.happens c.in-Ok.ensures.profile c.in-Ok.ensures.clients
    (c.in-Ok-put_step.ensures ∙ ap (λ l. l ++ outcome_lines c.step.new.self c.args.self.now.steps c.in-Ok.outcome) c.requires.empty) (take_rest c.args.self.now.rest.now c.args.size) refl refl refl

pub returns-in-Err : goal.returns-in-Err
returns-in-Err c = λ p n journal ss output h. memory_out p n journal ss output c.args.world.now c.args.self.now h c.clear.new.self c.step.new.self c.clear.ensures.items

pub overflow_cast-self : goal.overflow_cast-self
overflow_cast-self c = let g = c.requires.going in omega (arith, inside g.0 g.1 g.2 g.3 g.4 c.args.world.now c.args.self.now g.5, found_inside c.args.world.now.profile c.args.self.now.rest.now c.args.step c.args.size c.requires.found)

pub overflow_add-self : goal.overflow_add-self
overflow_add-self c = let g = c.requires.going in omega (arith, inside g.0 g.1 g.2 g.3 g.4 c.args.world.now c.args.self.now g.5, found_inside c.args.world.now.profile c.args.self.now.rest.now c.args.step c.args.size c.requires.found)

pub slice_bounds-self-end : goal.slice_bounds-self-end
slice_bounds-self-end c = omega (arith, found_inside c.args.world.now.profile c.args.self.now.rest.now c.args.step c.args.size c.requires.found)
